-- The calls that the points speak of. The points are stated of any calls, so that it can be said which wrong
-- ones they rule out. `code` has the definitions that the contracts of the code are equated with.
use Rattle.std.specs.Prelude.{ℕ, List, [], ◌∷◌, length}
use Rattle.octets.specs.Answer.{Answer}
use Rattle.wire.specs.Layout.{encode}
use Rattle.wire.specs.Codec.{decode, answer, after}
use Rattle.wire.specs.declared.Message.{Message}
use Rattle.figures.specs.Figures.{figures_of}
use Rattle.figures.specs.declared.Totals.{Totals}
use Rattle.table.specs.Quorum.{most_faults}
use Rattle.record.specs.declared.Node.{Node}
use Rattle.record.specs.declared.Operation.{Operation}
use Rattle.calls.specs.CallResult.{CallResult}
use Rattle.calls.specs.Entry as N
use Rattle.layout.specs.Layout.{size_for}
use Rattle.events.specs.Event as E
use Rattle.outgoing.specs.declared.Extent.{Extent}
use Rattle.events.specs.Stop as S
use Rattle.history.specs.Trace.{Trace}
use Rattle.mirror.specs.Run as R

pub record Calls : Type 0 where
  pub read : (n : ℕ) → List ℕ → Answer Message
  -- The answer, and the buffer after it.
  pub write : (n : ℕ) → Message → (view out : List ℕ) → Answer ℕ × List ℕ
  pub figures : (n : ℕ) → List ℕ → Answer Totals
  -- The largest f, and the length to lend for a cluster.
  pub most_faults : ℕ → ℕ
  pub size : ℕ → ℕ
  -- One node.
  pub fresh-node : (n f own : ℕ) → CallResult
  pub message : Node → (sender : ℕ) → (bytes out : List ℕ) → CallResult
  -- A cluster in bytes.
  pub fresh : (n f : ℕ) → List ℕ → E.Result
  pub begin : (node : ℕ) → Operation → Extent → List ℕ → E.Result
  pub deliver : (sender receiver : ℕ) → Extent → List ℕ → E.Result
  pub stop : (node : ℕ) → List ℕ → E.Result

abbrev pub code : Calls
code = record {
  read = decode;
  write = λ n m v out. (answer n m v (length out), after (answer n m v (length out)) (encode m v) out);
  figures = figures_of;
  most_faults = most_faults;
  size = size_for;
  fresh-node = N.fresh;
  message = N.message;
  fresh = E.fresh;
  begin = E.begin;
  deliver = E.deliver;
  stop = S.stop;
}

-- A run: what is seen from outside of events, each on the bytes as the one before left them.
abbrev pub event : Calls → R.Event → List ℕ → E.Result
event calls (R.begin c o x) b = calls.begin c o x b
event calls (R.deliver a c x) b = calls.deliver a c x b
event calls (R.stop c) b = calls.stop c b

unfoldable pub trace_from : Calls → ℕ → List ℕ → List R.Event → Trace
trace_from calls n b [] = []
trace_from calls n b (e ∷ es) = R.seen n e (event calls e b) ∷ trace_from calls n (event calls e b).bytes es

-- The run from what fresh makes of lent bytes b.
abbrev pub trace_of : Calls → (n f : ℕ) → List ℕ → List R.Event → Trace
trace_of calls n f b es = trace_from calls n (calls.fresh n f b).bytes es
