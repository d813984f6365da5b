-- Cited by inner contracts only: whether a list holds a good message. Assumes nothing.
use Rattle.std.specs.Prelude.{Bool, false, List, [], ◌∷◌}
use Rattle.table.specs.Loop.{either}
use Rattle.wire.specs.Codec.{is_good}
use Rattle.wire.specs.declared.Message.{Message}

abbrev pub any_good : List Message → Bool
any_good [] = false
any_good (m ∷ ms) = either (is_good m) (any_good ms)
