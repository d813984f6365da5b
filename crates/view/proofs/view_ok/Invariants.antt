-- `view::view_ok` meets its contract.
use mathlib.Core.Path.{◌≡◌}
use mathlib.Core.Bool.{true}
use Rattle.octets.specs.Loop.{all_to}
use Rattle.view.specs.View.{entry_ok_at}
use Rattle.view.proofs.view_ok.Given as goal

abbrev pub invariant-loop-i : goal.invariant-loop-i
invariant-loop-i l = (all_to l.i (entry_ok_at l.top l.b) ≡ true)
