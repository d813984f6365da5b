-- What a piece of a session's text does, byte after byte.
use Rattle.std.specs.Prelude.{ℕ, List, [], ◌∷◌, ◌++◌}
use Rattle.session_progress.specs.declared.Progress.{Progress}
use Rattle.session_byte.specs.Byte.{Turned, stepped}

abbrev pub behind : List ℕ → Turned → Turned
behind o r = record { progress = r.progress; memory = r.memory; text = o ++ r.text }

unfoldable pub turned : Progress → List ℕ → List ℕ → Turned
turned p [] m = record { progress = p; memory = m; text = [] }
turned p (x ∷ s) m = behind (stepped p x m).text (turned (stepped p x m).progress s (stepped p x m).memory)
