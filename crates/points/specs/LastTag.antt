-- The point on the largest tag: stamp 2^63 - 1 read by an update ends it with 13; one less goes on.
use Rattle.std.specs.Prelude.{ℕ, ◌+◌, ◌-◌, ◌≤◌, max, ◌≡◌, true, false, List, [], ◌++◌, length, replicate}
use Rattle.octets.specs.Answer.{returned}
use Rattle.octets.specs.Bytes.{put}
use Rattle.view.specs.Report.{no_report}
use Rattle.view.specs.Size.{limit}
use Rattle.view.specs.View.{no_view}
use Rattle.view.specs.declared.Report.{Report}
use Rattle.wire.specs.Layout.{encode}
use Rattle.wire.specs.Codec.{decode}
use Rattle.wire.specs.declared.Message.TheVariants.{ReadAnswer, Write, Value}
use Rattle.table.specs.Quorum.{member, with, members_in}
use Rattle.record.specs.Record.{blank, set_top, set_wait, closed}
use Rattle.record.specs.Usable.{usable}
use Rattle.record.specs.declared.Node.{Node}
use Rattle.record.specs.declared.Operation.{Operation}
use Rattle.record.specs.declared.Operation.TheVariants.{Update, Scan}
use Rattle.record.specs.declared.Kind.TheVariants.{Update as UpdateKind, Scan as ScanKind}
use Rattle.record.specs.declared.Wait.TheVariants.{Idle, Reading}
use Rattle.step.specs.Move.{opened}
use Rattle.step.specs.Told as K
use Rattle.step.specs.declared.Ending.TheVariants.{None, Spent}
use Rattle.calls.specs.CallResult.{CallResult}
use Rattle.history.specs.Order.{OneTo}
use Rattle.points.specs.Calls.{Calls}

-- Node c, whose operation o reads and is one answer short of a quorum, is handed the read answer of one more sender s:
-- of the tags answered before m is the largest, the new one is t. The message is b, the output buffer out.
pub record LastAnswer (c : Node) (o : Operation) (m s t : ℕ) (b out : List ℕ) : Type 0 where
  pub room : 512 ≤ length out
  pub is-usable : usable c ≡ true
  pub answered : ℕ
  pub reads : c.wait ≡ Reading o answered m
  pub short : members_in c.n answered + 1 ≡ c.n - c.f
  pub sender : OneTo c.n s
  pub new : member answered s ≡ false
  pub says : decode c.n b ≡ returned (ReadAnswer c.request t)

-- The tag used (amendment 3): the larger of the largest answer and the own maxtag.
abbrev pub used : Node → ℕ → ℕ → ℕ
used c m t = max (max m t) c.maxtag

-- What the call leaves: what it tells, the whole record, the length of the messages and every byte of the buffer. A
-- spent update writes nothing, and no operation is open.
abbrev pub spent_by : Node → List ℕ → CallResult
spent_by c out =
    record { answer = K.spent 13; ending = returned Spent; node = closed c Idle; length = 0; out = out }

-- One less: the value has the largest tag, and round 0 opens with the tag used.
abbrev pub goes_on : Node → Report → List ℕ → CallResult
goes_on c p out = record {
  answer = K.nothing;
  ending = returned None;
  node = opened c UpdateKind 0 (limit - 1);
  length = 56;
  out = put out 0 (encode (Value limit c.own p) [] ++ encode (Write (c.request + 1) (limit - 1)) []);
}

-- A scan goes on with the largest tag: round 1 opens.
abbrev pub scan_goes_on : Node → List ℕ → CallResult
scan_goes_on c out = record {
  answer = K.nothing;
  ending = returned None;
  node = opened c ScanKind 1 limit;
  length = 26;
  out = put out 0 (encode (Write (c.request + 1) limit) []);
}

-- Node 1 of three with f = 1, which reads with request number 1 and has counted its own answer with tag m; node 2's
-- answer with tag t, and a buffer.
abbrev pub reader : (m maxtag : ℕ) → Operation → Node
reader m top o = set_wait (set_top (blank 3 1 1) top no_view) 1 (Reading o (with 0 1) m) no_view

abbrev pub MeetsAt : (m maxtag t : ℕ) → Operation → Type 0
MeetsAt m top t o = LastAnswer (reader m top o) o m 2 t (encode (ReadAnswer 1 t) []) (replicate 512 0)

pub record LastTag (calls : Calls) : Type 0 where
  pub spent : (c : Node) (p : Report) (m s t : ℕ) (b out : List ℕ) → LastAnswer c (Update p) m s t b out
      → used c m t ≡ limit → calls.message c s b out ≡ spent_by c out
  -- Two of the ways to read the largest tag. They follow from `spent`, and rule out no call that it does not.
  pub by_answer : (c : Node) (p : Report) (m s t : ℕ) (b out : List ℕ) → LastAnswer c (Update p) m s t b out
      → t ≡ limit → calls.message c s b out ≡ spent_by c out
  pub by-own : (c : Node) (p : Report) (m s t : ℕ) (b out : List ℕ) → LastAnswer c (Update p) m s t b out
      → c.maxtag ≡ limit → calls.message c s b out ≡ spent_by c out
  pub one_less : (c : Node) (p : Report) (m s t : ℕ) (b out : List ℕ) → LastAnswer c (Update p) m s t b out
      → used c m t ≡ limit - 1 → calls.message c s b out ≡ goes_on c p out
  pub scan-goes-on : (c : Node) (m s t : ℕ) (b out : List ℕ) → LastAnswer c Scan m s t b out
      → used c m t ≡ limit → calls.message c s b out ≡ scan_goes_on c out
  -- There are such nodes and answers: with the largest tag in an answer before, in this one, in the own maxtag, one
  -- less, and of a scan.
  pub a-before : MeetsAt limit 0 0 (Update no_report)
  pub an-answer : MeetsAt 0 0 limit (Update no_report)
  pub an-own : MeetsAt 0 limit 0 (Update no_report)
  pub a-less : MeetsAt 0 0 (limit - 1) (Update no_report)
  pub a-scan : MeetsAt 0 0 limit Scan
