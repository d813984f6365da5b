-- `table::views::view_within` meets its contract. Assumes nothing.
use Rattle.std.proofs.Common.{sym, ◌≡◌, arith}
use Rattle.view.specs.Size.{nodes}
use Rattle.table.specs.Table.{view_within}
use Rattle.table.proofs.Laws.{all_none, all-next}
use Rattle.table.proofs.views.view_within.Goals as goal

pub loop-w-init : goal.loop-w-init
loop-w-init c = sym (all_none _)

pub loop-w-preserved : goal.loop-w-preserved
loop-w-preserved c = all-next c.loop-w.w _ _ _ c.loop-w.invariant c.entry_within-ok.ensures

pub returns : goal.returns
unfolding view_within
returns c = let e : c.loop-w.w ≡ nodes = omega arith in rw e at c.loop-w.invariant
