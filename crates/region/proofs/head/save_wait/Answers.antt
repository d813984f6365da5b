-- `region::head::save_wait` meets its contract.
use native.Mathlib.Omega.{arith}
use Prim.Native.Nat.{ℕ}
use mathlib.Core.List.{List}
use mathlib.Core.Path.{ap, ◌∙◌}
use Rattle.octets.specs.Bytes.{put}
use Rattle.octets.specs.Word.{word_bytes}
use Rattle.octets.proofs.Put.{put_then}
use Rattle.view.specs.Report.{report_bytes}
use Rattle.region.specs.Record.{wait_words, wait_report, code_place, report_place}
use Rattle.region.proofs.Saved.{wait-end}
use Rattle.region.proofs.head.save_wait.Goals as goal

pub returns : goal.returns
returns c =
    let b = c.args.b.now in
    let w = c.args.w in
    put_then b code_place (word_bytes (wait_words w)) (report_bytes (wait_report w)) report_place (omega arith)
    (wait-end w)
    (c.put_words.ensures ∙ ap (λ (t : List ℕ). put b code_place (word_bytes t)) c.wait_words.ensures)
    (c.put_bytes.ensures ∙ ap (put _ report_place) (c.report_bytes.ensures ∙ ap report_bytes
    c.wait_report.ensures))
