-- Cited by inner contracts only: when messages can be written at a place. Each is of the layout, and there is room for
-- all. Assumes nothing.
use Rattle.std.specs.Prelude.{◌≡◌, true, List, [], ◌∷◌, ℕ, ◌+◌, ◌≤◌, length}
use Rattle.view.specs.Size.{is_size}
use Rattle.wire.specs.Layout.{allowed}
use Rattle.wire.specs.declared.Message.{Message}
use Rattle.calls.specs.Bytes.{run}

-- v is the bytes of the view that the good ones carry
abbrev pub AllAllowed : ℕ → List ℕ → List Message → Type 0
AllAllowed n v [] = Unit {0}
AllAllowed n v (m ∷ ms) = (allowed n m v ≡ true) × AllAllowed n v ms

pub record Room (n : ℕ) (v : List ℕ) (ms : List Message) (at room : ℕ) : Type 0 where
  pub sized : is_size n ≡ true
  pub fit : AllAllowed n v ms
  pub enough : at + length (run v ms) ≤ room
