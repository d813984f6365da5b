-- `table::quorum::has_sent` meets its contract. Assumes nothing.
use Rattle.std.proofs.Common.{sym, ◌≡◌, ◌+◌, ◌-◌, arith}
use Rattle.table.proofs.Laws.{all_none, all-next}
use Rattle.table.proofs.quorum.has_sent.Goals as goal

pub loop-w-init : goal.loop-w-init
loop-w-init c = sym (all_none _)

pub loop-w-preserved : goal.loop-w-preserved
loop-w-preserved c =
    let back : c.loop-w.w + 1 - 1 ≡ c.loop-w.w = omega arith in
    all-next c.loop-w.w _ _ _ c.loop-w.invariant (rw back)
