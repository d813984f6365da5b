-- What is printed for a bad line and at the end fits in a line's room.
use Prim.Native.Nat.{ℕ, ◌≤◌}
use mathlib.Core.Bool.{Bool, true, false}
use mathlib.Core.List.{[]}
use native.Mathlib.Omega.{arith}
use lib.ListN.{length}
use lib.Dec.{eqb}
use Rattle.std.specs.Prelude.{Some}
use Rattle.octets.specs.Test.{pick}
use Rattle.view.specs.View.{no_view}
use Rattle.answers.specs.Answer.{room}
use Rattle.answers.specs.declared.Printed.TheVariants.{No}
use Rattle.answers.proofs.Short.{line-short}
use Rattle.session_progress.specs.Progress.{bad_line, ended_at, finished}
use Rattle.session_progress.specs.declared.Stage.{Stage}
use Rattle.session_progress.specs.declared.Stage.TheVariants.{First, Events, Over}
use Rattle.session_progress.specs.declared.Progress.{Progress}

pub bad-short : (e : ℕ) → length (bad_line e) ≤ room
bad-short e = line-short e (Some (No 1)) 0 no_view

end_short : (s : Stage) (k : ℕ) → length (ended_at s k) ≤ room
end_short First k = bad-short 0
end_short (Events n e) k = cases (eqb k 0)
  where
    cases : (b : Bool) → length (pick b [] (bad_line e)) ≤ room
    cases true = omega arith
    cases false = bad-short e
end_short Over k = omega arith

pub finish-short : (p : Progress) → length (finished p) ≤ room
unfolding finished
finish-short p = end_short p.stage p.carry.size
