-- What is claimed of the calls on lent bytes beside their definitions. Assumes nothing.
use Rattle.std.specs.Prelude.{ℕ, ◌≡◌, true, List, [], take}
use Rattle.octets.specs.Answer.{returned, refused}
use Rattle.wire.specs.Codec.{decode, view_part}
use Rattle.wire.specs.declared.Message.{Message}
use Rattle.record.specs.declared.Operation.{Operation}
use Rattle.step.specs.declared.Ending.{Ending}
use Rattle.step.specs.Told.{refusal}
use Rattle.step.specs.Move.{message_step, begin_step}
use Rattle.calls.specs.Entry.{beside}
use Rattle.region.specs.Record.{record_of}
use Rattle.calls_bytes.specs.Entry.{LentResult, fresh, begin, message}
use Rattle.calls_bytes.specs.Frame.{packed, is_whole, frame}
use Rattle.calls_bytes.specs.Walk.{Piece, AllRead, walk, pieces_of}

-- A refusal is told by its number, and changes no byte of the record and of the buffer.
abbrev pub Keeps : (r out : List ℕ) → LentResult → Type 0
Keeps r out e = (k : ℕ) → e.ending ≡ refused k
    → (e.answer ≡ refusal k) × (e.bytes ≡ r) × (e.out ≡ out) × (e.length ≡ 0)

pub record RefusalsKeep : Type 0 where
  pub fresh_keeps : (n f own : ℕ) (r : List ℕ) → Keeps r [] (fresh n f own r)
  pub begin-keeps : (r : List ℕ) (o : Operation) (out : List ℕ) → Keeps r out (begin r o out)
  pub message-keeps : (r : List ℕ) (s : ℕ) (b out : List ℕ) → Keeps r out (message r s b out)
  pub frame-keeps : (r : List ℕ) (s : ℕ) (b out : List ℕ) → Keeps r out (frame r s b out)

-- Whoever walks the messages of an accepted call meets those of its step, each once, whole and in order.
pub record Walks : Type 0 where
  pub begin-walk : (r : List ℕ) (o : Operation) (out : List ℕ) (x : Ending) → (begin r o out).ending ≡ returned x
      → walk (record_of r).n (take (begin r o out).length (begin r o out).out)
      ≡ pieces_of (record_of r).n (begin_step (record_of r).f (record_of r) o).outbox
  pub message-walk : (r : List ℕ) (s : ℕ) (b out : List ℕ) (x : Ending) (m : Message)
      → (message r s b out).ending ≡ returned x → decode (record_of r).n b ≡ returned m
      → walk (record_of r).n (take (message r s b out).length (message r s b out).out)
      ≡ pieces_of (record_of r).n (message_step (record_of r).f (record_of r) s m
      (beside (record_of r).n (view_part (record_of r).n b) m)).outbox

-- A frame of the layout is messages one after the other, in one way.
pub record Packing : Type 0 where
  pub packs : (n : ℕ) (ms : List Piece) → AllRead n ms
      → (walk n (packed ms) ≡ ms) × (is_whole n (packed ms) ≡ true)
  pub unpacks : (n : ℕ) (b : List ℕ) → is_whole n b ≡ true → (packed (walk n b) ≡ b) × AllRead n (walk n b)
