-- `step_bytes::agree::has_sent` meets its contract.
use Rattle.std.proofs.Common.{sym, ap₂, leb}
use Rattle.table.proofs.Laws.{all_none, all-next}
use Rattle.step_bytes.proofs.agree.has_sent.Goals as goal

pub loop-w-init : goal.loop-w-init
loop-w-init c = sym (all_none _)

pub loop-w-preserved : goal.loop-w-preserved
loop-w-preserved c =
    all-next c.loop-w.w _ _ _ c.loop-w.invariant (ap₂ leb c.tag_in.ensures c.heard_in.ensures)
