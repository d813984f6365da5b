-- What is claimed of the frame call beside its definition. Assumes nothing.
use Rattle.std.specs.Prelude.{ℕ, ◌+◌, ◌≤◌, ◌≡◌, Bool, true, false, List, [], ◌∷◌, ◌++◌, ◌⊎◌, leb, length, take, drop}
use Rattle.octets.specs.Answer.{returned, refused}
use Rattle.octets.specs.Test.{both}
use Rattle.view.specs.Size.{nodes}
use Rattle.view.specs.View.{AbsentPast}
use Rattle.wire.specs.Codec.{view_part}
use Rattle.wire.specs.Layout.{encode}
use Rattle.wire.specs.declared.Message.TheVariants.{Read}
use Rattle.table.specs.Loop.{either}
use Rattle.record.specs.Usable.{sizes_within}
use Rattle.record.specs.declared.Node.{Node}
use Rattle.step.specs.Budget.{budget_most}
use Rattle.step.specs.Move.{message_step}
use Rattle.step.specs.Stale.{stale_message}
use Rattle.step.specs.declared.Ending.{Ending}
use Rattle.step.specs.declared.Ending.TheVariants.{None}
use Rattle.step.specs.declared.Step.{Step}
use Rattle.step.specs.Told.{told_view}
use Rattle.calls.specs.Bytes.{out_bytes}
use Rattle.calls.specs.Entry.{beside}
use Rattle.region.specs.Record.{record_size, record_of}
use Rattle.calls_bytes.specs.Entry.{LentResult, fits, usable_in, fresh}
use Rattle.calls_bytes.specs.Frame.{frame_most, frame_output, is_whole, is_ending, next_call, in_turn, at_start}
use Rattle.calls_bytes.specs.Frame.{one_by_one, frame}
use Rattle.calls_bytes.specs.Walk.{Piece, walk, pieces_of}
use Rattle.node_bytes.specs.Left.{Holds}

-- a frame to which none of 12, 2, 3, 14 and 7 applies
pub record Readable (r : List ℕ) (s : ℕ) (b out : List ℕ) : Type 0 where
  pub fit : fits frame_output r (length out) ≡ true
  pub can-use : usable_in r ≡ true
  pub sender : both (leb 1 s) (leb s (record_of r).n) ≡ true
  pub sized : both (leb 1 (length b)) (leb (length b) frame_most) ≡ true
  pub whole : is_whole (record_of r).n b ≡ true

-- No more bytes than this come of a frame: a hundred reads, the most that it can hold, are answered with 2,600, and the
-- open operation sends what it has left.
abbrev pub answers_most : ℕ
answers_most = 2600

abbrev pub frame_sent : ℕ
frame_sent = answers_most + budget_most

-- The steps of a node on messages of sender s in turn, from record c: those of the algorithm with document 01's
-- amendments, each on the record that the one before it left.
abbrev pub step_on : (s : ℕ) → Node → Piece → Step
step_on s c m = message_step c.f c s m.message (beside c.n (view_part c.n m.bytes) m.message)

unfoldable pub steps_on : (s : ℕ) → Node → List Piece → List Step
steps_on s c [] = []
steps_on s c (m ∷ ms) = step_on s c m ∷ steps_on s (step_on s c m).node ms

-- whether one of them is given 9, at the record that those before it left
unfoldable pub late_on : (s : ℕ) → Node → List Piece → Bool
late_on s c [] = false
late_on s c (m ∷ ms) = either (stale_message c s m.message) (late_on s (step_on s c m).node ms)

-- the record that they leave, and what they send: in bytes, and message by message
abbrev pub node_after : Node → List Step → Node
node_after c [] = c
node_after c (t ∷ ts) = node_after t.node ts

abbrev pub bytes_sent : ℕ → List Step → List ℕ
bytes_sent n [] = []
bytes_sent n (t ∷ ts) = out_bytes n t.outbox ++ bytes_sent n ts

abbrev pub pieces_sent : ℕ → List Step → List Piece
pieces_sent n [] = []
pieces_sent n (t ∷ ts) = pieces_of n t.outbox ++ pieces_sent n ts

-- What a frame leaves is what those steps leave: their record, in bytes that the next call takes; what they send, at
-- the buffer's start, and the other bytes as they were; and whoever walks what was sent meets each message once, whole
-- and in order, and no byte is left.
pub record Does (n : ℕ) (c : Node) (ts : List Step) (out : List ℕ) (e : LentResult) : Type 0 where
  pub record-left : Holds e.bytes (node_after c ts)
  pub sent : take e.length e.out ≡ bytes_sent n ts
  pub rest : drop e.length e.out ≡ drop e.length out
  pub met : walk n (take e.length e.out) ≡ pieces_sent n ts
  pub all-met : is_whole n (take e.length e.out) ≡ true

pub record Frames : Type 0 where
  -- An accepted frame is what the message call does on each of its messages in turn, on the same lent bytes: the
  -- record, every byte of the output, the answer with its view.
  pub one-by-one : (r : List ℕ) (s : ℕ) (b out : List ℕ) (x : Ending) → (frame r s b out).ending ≡ returned x
      → Readable r s b out × (frame r s b out ≡ one_by_one r s b out)
  -- Where none of 12, 2, 3, 14 and 7 applies, it is given 9 if one of its messages is late in turn, and else accepted.
  -- There is such a frame: two reads at a fresh record.
  pub frame-goes : (r : List ℕ) (s : ℕ) (b out : List ℕ) → Readable r s b out
      → late_on s (record_of r) (walk (record_of r).n b) ≡ false → (x : Ending)
      × ((frame r s b out).ending ≡ returned x)
  pub frame-late : (r : List ℕ) (s : ℕ) (b out : List ℕ) → Readable r s b out
      → late_on s (record_of r) (walk (record_of r).n b) ≡ true → (frame r s b out).ending ≡ refused 9
  pub frame_fresh : (n f own s : ℕ) (r out : List ℕ) → sizes_within n f own ≡ true
      → both (leb 1 s) (leb s n) ≡ true → length r ≡ record_size → frame_output ≤ length out
      → (x : Ending)
      × ((frame (fresh n f own r).bytes s (encode (Read 1) [] ++ encode (Read 1) []) out).ending ≡ returned x)
  -- Its refusals.
  pub frame-refuses : (r : List ℕ) (s : ℕ) (b out : List ℕ) (k : ℕ) → (frame r s b out).ending ≡ refused k
      → (k ≡ 12) ⊎ ((k ≡ 2) ⊎ ((k ≡ 3) ⊎ ((k ≡ 14) ⊎ ((k ≡ 7) ⊎ (k ≡ 9)))))
  -- Its buffer is always enough: the first of its messages that is refused is given 9, so not 12.
  pub only-9 : (r : List ℕ) (s : ℕ) (b out : List ℕ) (k : ℕ) → Readable r s b out
      → (one_by_one r s b out).ending ≡ refused k → k ≡ 9
  pub sent-most : (r : List ℕ) (s : ℕ) (b out : List ℕ) (x : Ending) → (frame r s b out).ending ≡ returned x
      → (frame r s b out).length ≤ frame_sent
  -- After an ending no later message of the frame ends anything: no ending is lost.
  pub one-ending : (r : List ℕ) (s : ℕ) (b out : List ℕ) (ms : List Piece) (m : Piece) (later : List Piece)
      (x y : Ending) → Readable r s b out → walk (record_of r).n b ≡ ms ++ m ∷ later
      → (in_turn s (at_start r out) ms).ending ≡ returned x → is_ending x ≡ true
      → (next_call s (in_turn s (at_start r out) ms) m).ending ≡ returned y → y ≡ None
  -- It is the steps of the node on its messages in turn.
  pub frame-does : (r : List ℕ) (s : ℕ) (b out : List ℕ) (x : Ending) → (frame r s b out).ending ≡ returned x
      → Does (record_of r).n (record_of r) (steps_on s (record_of r) (walk (record_of r).n b)) out (frame r s b out)
  -- The view that it shows has nothing past the record's n.
  pub frame-absent : (r : List ℕ) (s : ℕ) (b out : List ℕ) → (record_of r).n ≤ nodes
      → AbsentPast (record_of r).n (told_view (frame r s b out).answer)
