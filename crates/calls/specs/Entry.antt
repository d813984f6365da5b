-- The three calls at one node (document 01: cabinet), each for every input: what is told, the record, the length of the
-- messages and every byte of the output buffer. The first refusal that applies is given, on its condition only; it
-- hands the record back and leaves the buffer. Assumes nothing.
use Rattle.std.specs.Prelude.{List, [], ℕ, leb, ltb, length}
use Rattle.octets.specs.Test.{pick, both}
use Rattle.octets.specs.Answer.{Answer, returned, refused}
use Rattle.octets.specs.Bytes.{put}
use Rattle.view.specs.View.{no_view, view_of}
use Rattle.view.specs.declared.View.{View}
use Rattle.wire.specs.Codec.{decode, view_part}
use Rattle.wire.specs.declared.Message.{Message}
use Rattle.wire.specs.declared.Message.TheVariants.{Read, ReadAnswer, Write, WriteAnswer, Echo, Value, Good}
use Rattle.record.specs.Record.{blank}
use Rattle.record.specs.Usable.{sizes_within, usable, is_open, full}
use Rattle.record.specs.declared.Node.{Node}
use Rattle.record.specs.declared.Operation.{Operation}
use Rattle.step.specs.declared.Ending.TheVariants.{None}
use Rattle.step.specs.declared.Step.{Step}
use Rattle.step.specs.Move.{message_step, begin_step}
use Rattle.step.specs.Stale.{stale_message}
use Rattle.step.specs.Told.{told}
use Rattle.calls.specs.Bytes.{out_bytes}
use Rattle.calls.specs.CallResult.{CallResult}

-- the least length of an output buffer
abbrev pub least_output : ℕ
least_output = 512

abbrev pub refuse : ℕ → Node → List ℕ → CallResult
refuse k c out =
    record { answer = told (refused k) no_view; ending = refused k; node = c; length = 0; out = out }

-- the step's messages stand in order from the buffer's start, the other bytes are untouched
unfoldable pub let_out : Step → List ℕ → CallResult
let_out s out =
    record {
      answer = told (returned s.ending) s.view;
      ending = returned s.ending;
      node = s.node;
      length = length (out_bytes s.node.n s.outbox);
      out = put out 0 (out_bytes s.node.n s.outbox);
    }

-- Fresh node, which has no output buffer. 1: n not 1 to 16, f not 0 to 7 with 2f < n, or own number not 1 to n. The
-- record beside that refusal is no usable one.
unfoldable pub fresh : (n f own : ℕ) → CallResult
fresh n f own =
    pick (sizes_within n f own)
    (record {
      answer = told (returned None) no_view;
      ending = returned None;
      node = blank n f own;
      length = 0;
      out = [];
    })
    (refuse 1 (blank 0 0 0) [])

-- Begin. 12: output buffer too short. 2: record unusable. 5: an operation is open. 6: fewer than five request
-- numbers left.
unfoldable pub begin : Node → Operation → List ℕ → CallResult
begin c o out =
    pick (ltb (length out) least_output) (refuse 12 c out)
    (pick (usable c)
    (pick (is_open c.wait) (refuse 5 c out)
    (pick (full c) (refuse 6 c out) (let_out (begin_step c.f c o) out)))
    (refuse 2 c out))

-- the view that a good message carries, in v
abbrev pub beside : ℕ → List ℕ → Message → View
beside n v (Read q) = no_view
beside n v (ReadAnswer q t) = no_view
beside n v (Write q t) = no_view
beside n v (WriteAnswer q t) = no_view
beside n v (Echo t) = no_view
beside n v (Value t w p) = no_view
beside n v (Good t) = view_of n v

-- by what was read: the answer, and the bytes v of its view
unfoldable pub taken : Node → ℕ → List ℕ → List ℕ → Answer Message → CallResult
taken c s v out (refused k) = refuse 7 c out
taken c s v out (returned m) =
    pick (stale_message c s m) (refuse 9 c out)
    (let_out (message_step c.f c s m (beside c.n v m)) out)

-- Message. 12, 2 as above. 3: sender not 1 to n. 7: not of the layout. 9: see stale_message.
unfoldable pub message : Node → ℕ → List ℕ → List ℕ → CallResult
message c s b out =
    pick (ltb (length out) least_output) (refuse 12 c out)
    (pick (usable c)
    (pick (both (leb 1 s) (leb s c.n)) (taken c s (view_part c.n b) out (decode c.n b)) (refuse 3 c out))
    (refuse 2 c out))
