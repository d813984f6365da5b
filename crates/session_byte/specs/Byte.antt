-- What a byte of a session's text does.
use Rattle.std.specs.Prelude.{ℕ, List, [], eqb}
use Rattle.octets.specs.Test.{pick}
use Rattle.input.specs.Input.{feed}
use Rattle.input.specs.Carry.{carry_of, push}
use Rattle.session_progress.specs.declared.Progress.{Progress}
use Rattle.session_byte.specs.Memory.{line_effect}

-- What bytes of the text do: what is kept of the session then, its memory, and what is printed.
pub record Turned : Type 0 where
  pub progress : Progress
  pub memory : List ℕ
  pub text : List ℕ

-- one byte: a line feed ends the line, and every other byte is the line's next
abbrev pub ended : Progress → List ℕ → Turned
ended p m =
    record {
      progress = record { carry = carry_of []; stage = (line_effect p.stage p.carry m).stage };
      memory = (line_effect p.stage p.carry m).memory;
      text = (line_effect p.stage p.carry m).text;
    }

abbrev pub kept : Progress → ℕ → List ℕ → Turned
kept p x m = record { progress = record { carry = push p.carry x; stage = p.stage }; memory = m; text = [] }

unfoldable pub stepped : Progress → ℕ → List ℕ → Turned
stepped p x m = pick (eqb x feed) (ended p m) (kept p x m)
