-- `region::stored::save` meets its contract.
use native.Mathlib.Omega.{arith}
use mathlib.Core.List.{◌++◌, append_assoc}
use mathlib.Core.Path.{sym, ap, ◌∙◌}
use Rattle.octets.specs.Bytes.{put}
use Rattle.octets.specs.Word.{word_bytes}
use Rattle.octets.proofs.Put.{put_then}
use Rattle.region.specs.Record.{views_bytes, record_bytes, n_place, heard_place, head_in, head_bytes}
use Rattle.region.specs.declared.head.Head.{Head}
use Rattle.region.proofs.Saved.{head-end}
use Rattle.region.proofs.stored.save.Goals as goal

pub returns : goal.returns
unfolding record_bytes
returns c =
    let a = c.args in
    let F = head_bytes (head_in a.c) in
    let H = word_bytes a.c.heard in
    put_then a.b.now n_place F (H ++ views_bytes a.c) heard_place (omega arith) (head-end (head_in a.c))
    (c.save_head.ensures ∙ ap (λ (h : Head). put a.b.now n_place (head_bytes h)) c.head_in.ensures)
    c.save_tables.ensures
    ∙ ap (put a.b.now n_place) (sym (append_assoc F H (views_bytes a.c)))
