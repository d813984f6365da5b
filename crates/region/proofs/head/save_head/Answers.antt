-- `region::head::save_head` meets its contract.
use native.Mathlib.Omega.{arith}
use Rattle.octets.specs.Word.{word_bytes}
use Rattle.octets.proofs.Put.{put_then}
use Rattle.region.specs.Record.{wait_bytes, n_place, code_place, numbers}
use Rattle.region.proofs.Saved.{numbers-end}
use Rattle.region.proofs.head.save_head.Goals as goal

pub returns : goal.returns
returns c =
    let a = c.args in
    put_then a.b.now n_place (word_bytes (numbers a.h)) (wait_bytes a.h.wait) code_place (omega arith)
    (numbers-end a.h) c.put_words.ensures
    c.save_wait.ensures
