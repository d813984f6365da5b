-- An output buffer walked message by message, as its reader does: the message at the front, then the rest.
-- Assumes nothing.
use Rattle.std.specs.Prelude.{ℕ, zero, suc, ◌≡◌, List, [], ◌∷◌, length, take, drop}
use Rattle.octets.specs.Answer.{Answer, returned, refused}
use Rattle.view.specs.View.{view_bytes}
use Rattle.wire.specs.Layout.{encode}
use Rattle.wire.specs.Codec.{front, decode}
use Rattle.wire.specs.declared.Message.{Message}
use Rattle.step.specs.declared.Outbox.{Outbox}
use Rattle.step.specs.Step.{messages}

-- a message as it was met, and its bytes
pub record Piece : Type 0 where
  pub message : Message
  pub bytes : List ℕ

-- each is the message that its bytes are
abbrev pub AllRead : (n : ℕ) → List Piece → Type 0
AllRead n [] = Unit {0}
AllRead n (p ∷ ps) = (decode n p.bytes ≡ returned p.message) × AllRead n ps

-- the piece at the front of b, by how it was read, and what comes of the rest; it ends where there is none
abbrev pub onward : (List ℕ → List Piece) → List ℕ → Answer (Message × ℕ) → List Piece
onward next b (refused c) = []
onward next b (returned p) = record { message = p.0; bytes = take p.1 b } ∷ next (drop p.1 b)

-- the pieces of b, at most k of them
unfoldable pub walk_by : ℕ → (n : ℕ) → List ℕ → List Piece
walk_by zero n b = []
walk_by (suc k) n b = onward (walk_by k n) b (front n b)

-- no message is empty, so there are no more pieces than bytes
abbrev pub walk : (n : ℕ) → List ℕ → List Piece
walk n b = walk_by (length b) n b

-- the messages of a list, each with its bytes, v the bytes of the view that a good one carries
unfoldable pub pieces : List ℕ → List Message → List Piece
pieces v [] = []
pieces v (m ∷ ms) = record { message = m; bytes = encode m v } ∷ pieces v ms

abbrev pub pieces_of : ℕ → Outbox → List Piece
pieces_of n o = pieces (view_bytes n o.view) (messages o)
