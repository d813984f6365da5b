-- What a byte prints, which may end a line, fits in a line's room.
use Prim.Native.Nat.{ℕ, ◌≤◌}
use mathlib.Core.Bool.{Bool, true, false}
use mathlib.Core.List.{List}
use native.Mathlib.Omega.{arith}
use lib.ListN.{length}
use lib.Dec.{eqb}
use Rattle.std.specs.Prelude.{Option, Some, None}
use Rattle.lines.specs.declared.Command.{Command}
use Rattle.octets.specs.Test.{pick}
use Rattle.layout.specs.Layout.{stated}
use Rattle.answers.specs.Answer.{room}
use Rattle.answers.proofs.Short.{line-short}
use Rattle.lines.specs.declared.Opening.{Opening}
use Rattle.input.specs.Input.{feed}
use Rattle.input.specs.Carry.{event_in, first_in}
use Rattle.input.specs.declared.Carry.{Carry}
use Rattle.session_line.specs.Act.{printed}
use Rattle.session_progress.specs.declared.Progress.{Progress}
use Rattle.session_progress.specs.declared.Stage.{Stage}
use Rattle.session_progress.specs.declared.Stage.TheVariants.{First, Events, Over}
use Rattle.session_progress.proofs.Short.{bad-short}
use Rattle.session_byte.specs.Memory.{cluster, opened, line_effect}
use Rattle.session_byte.specs.Byte.{ended, kept, stepped}

opened-short : (o : Option Opening) (m : List ℕ) → length (opened o m).text ≤ room
opened-short None m = bad-short 0
opened-short (Some o) m = omega arith

printed-short : (e : ℕ) (l : Option Command) (b : List ℕ) → length (printed e l b) ≤ room
unfolding printed
printed-short e None b = line-short e _ (stated b) _
printed-short e (Some l) b = line-short e _ (stated b) _

line_effect-short : (s : Stage) (c : Carry) (m : List ℕ) → length (line_effect s c m).text ≤ room
unfolding line_effect
line_effect-short First c m = opened-short (first_in c) m
line_effect-short (Events n e) c m = printed-short e (event_in c) (cluster n m)
line_effect-short Over c m = omega arith

pub step-short : (p : Progress) (x : ℕ) (m : List ℕ) → length (stepped p x m).text ≤ room
unfolding stepped
step-short p x m = cases (eqb x feed)
  where
    cases : (b : Bool) → length (pick b (ended p m) (kept p x m)).text ≤ room
    cases true = line_effect-short p.stage p.carry m
    cases false = omega arith
