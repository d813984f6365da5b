-- `react_bytes::tables::put_entry` meets its contract.
use mathlib.Core.Path.{refl, ap, ◌∙◌}
use Prim.Native.Nat.{◌+◌}
use native.Mathlib.Omega.{arith}
use Rattle.octets.specs.Bytes.{be, put}
use Rattle.octets.proofs.Put.{put_then}
use Rattle.view.specs.Size.{tag_size}
use Rattle.view.specs.Report.{report_bytes}
use Rattle.react_bytes.specs.Handled.{entry_place}
use Rattle.react_bytes.proofs.tables.put_entry.Goals as goal

pub returns : goal.returns
returns c =
    let a = c.args in
    let at = entry_place a.i a.w in
    put_then a.r.now at (be tag_size a.t) (report_bytes a.p) (at + tag_size) (omega arith) refl
    c.put_word.ensures
    (c.put_bytes.ensures ∙ ap (put _ (at + tag_size)) c.report_bytes.ensures)
