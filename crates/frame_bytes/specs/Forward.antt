-- Document 02, [5], of a frame: what a node forwards of it is, byte for byte, the value message as it lies there.
-- Assumes nothing.
use Rattle.std.specs.Prelude.{ℕ, ◌≤◌, ◌≡◌, true, List, [], ◌∷◌, ◌++◌, leb, length, take}
use Rattle.octets.specs.Answer.{returned}
use Rattle.octets.specs.Bytes.{part}
use Rattle.octets.specs.Test.{both}
use Rattle.view.specs.declared.Report.{Report}
use Rattle.wire.specs.Layout.{encode, allowed, value_size}
use Rattle.wire.specs.declared.Message.TheVariants.{Value}
use Rattle.record.specs.Usable.{sizes_within}
use Rattle.record.specs.declared.Node.{Node}
use Rattle.step.specs.declared.Ending.{Ending}
use Rattle.region.specs.Record.{record_size, record_of}
use Rattle.calls_bytes.specs.Entry.{fresh}
use Rattle.calls_bytes.specs.Forward.{sent_on}
use Rattle.calls_bytes.specs.Frame.{frame_output, packed, frame}
use Rattle.calls_bytes.specs.Walk.{Piece, walk}
use Rattle.frame_bytes.specs.Frames.{step_on, steps_on, node_after, bytes_sent}

-- the record that messages of sender s leave of c, one after the other
abbrev pub left_by : (s : ℕ) → Node → List Piece → Node
left_by s c ms = node_after c (steps_on s c ms)

pub record FrameForwards : Type 0 where
  -- A value m of an accepted frame: its bytes are those at its place in the frame. All that is sent is what comes of
  -- the messages before it; then, at the record that they left, what the message call sends on it: where it is new
  -- those very bytes, and what the open operation sends; then what comes of the later messages.
  pub in_place : (r : List ℕ) (s : ℕ) (b out : List ℕ) (x : Ending) (ms : List Piece) (m : Piece) (later : List Piece)
      (t w : ℕ) (p : Report) → (frame r s b out).ending ≡ returned x → walk (record_of r).n b ≡ ms ++ m ∷ later
      → m.message ≡ Value t w p
      → (m.bytes ≡ part b (length (packed ms)) value_size)
      × (take (frame r s b out).length (frame r s b out).out
      ≡ bytes_sent (record_of r).n (steps_on s (record_of r) ms)
      ++ sent_on (left_by s (record_of r) ms) s m.bytes t w p
      ++ bytes_sent (record_of r).n (steps_on s (step_on s (left_by s (record_of r) ms) m).node later))
  -- There is such a frame: a fresh record takes every value that is allowed twice in one frame, from every sender, and
  -- sends its bytes once.
  pub once : (n f own s t w : ℕ) (p : Report) (r b out : List ℕ) → sizes_within n f own ≡ true
      → both (leb 1 s) (leb s n) ≡ true → allowed n (Value t w p) [] ≡ true → length r ≡ record_size
      → frame_output ≤ length out → b ≡ encode (Value t w p) []
      → (x : Ending) × ((frame (fresh n f own r).bytes s (b ++ b) out).ending ≡ returned x)
      × (take (frame (fresh n f own r).bytes s (b ++ b) out).length (frame (fresh n f own r).bytes s (b ++ b) out
      ).out ≡ b)
