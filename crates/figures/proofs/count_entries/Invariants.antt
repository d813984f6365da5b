-- `figures::count_entries` meets its contract.
use mathlib.Core.Path.{◌≡◌}
use mathlib.Core.Bool.{true}
use Rattle.view.specs.Size.{limit}
use Rattle.view.specs.View.{view_ok}
use Rattle.figures.specs.Figures.{totals, waiting_sum}
use Rattle.figures.proofs.count_entries.Given as goal

abbrev pub invariant-loop-i : goal.invariant-loop-i
invariant-loop-i l = (view_ok l.i limit l.v ≡ true) × (l.totals ≡ totals l.i l.v)
    × (l.waiting_sum ≡ waiting_sum l.i l.v)
