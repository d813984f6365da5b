-- What a channel holds, in bytes: each slot begins with the encoding of its message.
use Rattle.std.specs.Prelude.{ℕ, ◌≡◌, true, List, [], ◌∷◌, length, take}
use Rattle.view.specs.View.{view_of}
use Rattle.wire.specs.Layout.{encode, allowed}
use Rattle.wire.specs.declared.Message.{Message}
use Rattle.history.specs.Message as M
use Rattle.refine.specs.Meaning.{message_of}

-- Slot s of a channel to node c holds message m: `message`, with the bytes of its view, is allowed and means m.
pub record Encodes (n c : ℕ) (s : List ℕ) (m : M.Message) : Type 0 where
  pub message : Message
  pub view : List ℕ
  pub layout : allowed n message view ≡ true
  pub bytes : take (length (encode message view)) s ≡ encode message view
  pub means : message_of n c (view_of n view) message ≡ m

-- Slot by slot, the oldest first.
abbrev pub EachEncodes : (n c : ℕ) → List (List ℕ) → List M.Message → Type 0
EachEncodes n c [] [] = Unit {0}
EachEncodes n c [] (m ∷ l) = ⊥
EachEncodes n c (s ∷ k) [] = ⊥
EachEncodes n c (s ∷ k) (m ∷ l) = Encodes n c s m × EachEncodes n c k l
