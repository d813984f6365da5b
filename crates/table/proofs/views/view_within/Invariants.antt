-- `table::views::view_within` meets its contract: the invariant: the first w entries were judged. Assumes nothing.
use Rattle.std.proofs.Common.{◌≡◌}
use Rattle.table.specs.Loop.{all}
use Rattle.table.specs.Table.{entry_within}
use Rattle.table.proofs.views.view_within.Given as goal

abbrev pub invariant-loop-w : goal.invariant-loop-w
invariant-loop-w l = l.ok ≡ all l.w (entry_within l.t l.v)
