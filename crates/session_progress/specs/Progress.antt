-- What is kept of a session while its text is read, and what is printed at the end.
use Rattle.std.specs.Prelude.{Some, ℕ, ◌+◌, ◌*◌, ◌^◌, ◌-◌, Bool, true, false, List, [], eqb, ltb}
use Rattle.octets.specs.Test.{pick}
use Rattle.view.specs.View.{no_view}
use Rattle.input.specs.Carry.{carry_of}
use Rattle.answers.specs.Answer.{line, room}
use Rattle.answers.specs.declared.Printed.TheVariants.{No}
use Rattle.session_progress.specs.declared.Stage.{Stage}
use Rattle.session_progress.specs.declared.Stage.TheVariants.{First, Events, Over}
use Rattle.session_progress.specs.declared.Progress.{Progress}

-- The number after an event's: the greatest number of 64 bits has none.
abbrev pub next : ℕ → ℕ
next e = pick (ltb e (2 ^ 64 - 1)) (e + 1) e

-- What is printed for a bad line.
abbrev pub bad_line : (e : ℕ) → List ℕ
bad_line e = line e (Some (No 1)) 0 no_view

-- The most bytes of a piece, and the room for what is printed for it: each byte ends at most one line.
abbrev pub piece_size : ℕ
piece_size = 1024

abbrev pub text_size : ℕ
text_size = piece_size * room

-- Before the first byte; whether it is over; and what is printed at the end of the text, where a first line that never
-- came and a last line without its line feed are bad.
unfoldable pub begun : Progress
begun = record { carry = carry_of []; stage = First }

abbrev pub is_over : Stage → Bool
is_over First = false
is_over (Events n e) = false
is_over Over = true

abbrev pub ended_at : Stage → ℕ → List ℕ
ended_at First k = bad_line 0
ended_at (Events n e) k = pick (eqb k 0) [] (bad_line e)
ended_at Over k = []

unfoldable pub finished : Progress → List ℕ
finished p = ended_at p.stage p.carry.size
