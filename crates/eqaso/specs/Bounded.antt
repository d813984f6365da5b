-- Why a few tags and reports per writer can stand for the sets of a node: what holds of the sets of every node in a
-- run, and of every value that a node is handed.
use Rattle.std.specs.Prelude.{ℕ, ◌≤◌, ◌<◌, ◌≡◌, Bool, false, List, ◌∷◌, ◌++◌}
use Rattle.logs.specs.Log.{◌∈◌}
use Rattle.history.specs.Message.{Value, Message, read, read_answer, write, write_answer, echo, value, good}
use Rattle.history.specs.Event.{Operation, Round, Event}
use Rattle.history.specs.Trace.{Trace, let_out_to}
use Rattle.history.specs.Order.{OneTo}
use Rattle.algorithm.specs.Algorithm.{comparing, Node, message_step}
use Rattle.eqaso.specs.Cluster.{start, after, trace}

-- u is an earlier value of the writer of v, or v itself.
abbrev pub UpTo : Value → Value → Type 0
UpTo u v = (u.writer ≡ v.writer) × (u.tag ≤ v.tag)

-- The sets of a node: all that it has received, what it has received from each node, and its maxtag.
pub record Bounded (n : ℕ) (all : List Value) (from : ℕ → List Value) (maxtag : ℕ) : Type 0 where
  pub tagged : (v : Value) → v ∈ all → 0 < v.tag
  pub writer : (v : Value) → v ∈ all → OneTo n v.writer
  -- A tag of a writer has one report.
  pub one : (u v : Value) → u ∈ all → v ∈ all → u.writer ≡ v.writer → u.tag ≡ v.tag → u ≡ v
  -- Every value of a writer but its newest is up to maxtag.
  pub low : (u v : Value) → u ∈ all → v ∈ all → u.writer ≡ v.writer → u.tag < v.tag → u.tag ≤ maxtag
  -- What came from one node is an initial segment, writer by writer, of what came from any.
  pub known : (k : ℕ) (v : Value) → v ∈ from k → v ∈ all
  pub segment : (k : ℕ) (u v : Value) → v ∈ from k → u ∈ all → UpTo u v → u ∈ from k

abbrev pub BoundedNode : ℕ → Node → Type 0
BoundedNode n ν = Bounded n ν.all ν.from ν.maxtag

-- A value that node k hands to a node with these sets.
pub record Arrives (n : ℕ) (all : List Value) (from : ℕ → List Value) (maxtag k : ℕ) (v : Value) : Type 0 where
  pub tagged : 0 < v.tag
  pub writer : OneTo n v.writer
  -- Closure: if it is not above one that the node has, the node has it.
  pub seen : (u : Value) → u ∈ all → UpTo v u → v ∈ all
  -- The older ones have come from the same node before, and are up to maxtag.
  pub older : (u : Value) → u ∈ all → u.writer ≡ v.writer → u.tag < v.tag → u ∈ from k
  pub low : (u : Value) → u ∈ all → u.writer ≡ v.writer → u.tag < v.tag → u.tag ≤ maxtag
  -- The tags of a writer from one sender never fall.
  pub rise : (u : Value) → u ∈ from k → u.writer ≡ v.writer → u.tag ≤ v.tag

-- What is known of a message that node k hands over.
abbrev pub Expected : (n k : ℕ) → Node → Message → Type 0
Expected n k ν (value v) = Arrives n ν.all ν.from ν.maxtag k v
Expected n k ν (read q) = Unit {0}
Expected n k ν (read_answer to q t) = Unit {0}
Expected n k ν (write q t) = Unit {0}
Expected n k ν (write_answer to q t) = Unit {0}
Expected n k ν (echo t) = Unit {0}
Expected n k ν (good t v) = Unit {0}

-- The sets of every node in a run are bounded.
abbrev pub RunBounded : (n f : ℕ) (room : ℕ → Bool) → Type 0
RunBounded n f room = (es : List Event) (c : ℕ) → BoundedNode n ((after n f room start es).nodes c)

-- The message that has waited longest for a node that stands is as the node expects it.
abbrev pub RunExpected : (n f : ℕ) (room : ℕ → Bool) → Type 0
RunExpected n f room = (es : List Event) (a b : ℕ) (m : Message) (rest : List Message) → OneTo n b
    → (after n f room start es).stopped b ≡ false → (after n f room start es).channel a b ≡ m ∷ rest
    → Expected n a ((after n f room start es).nodes b) m

-- A node that compares holds every own value that any node holds.
abbrev pub OwnHeld : (n f : ℕ) (room : ℕ → Bool) → Type 0
OwnHeld n f room = (es : List Event) (c j : ℕ) (o : Operation) (rnd : Round) (t : ℕ) (v : Value)
    → ((after n f room start es).nodes c).wait ≡ comparing o rnd t → v.writer ≡ c
    → v ∈ ((after n f room start es).nodes j).all → v ∈ ((after n f room start es).nodes c).all

-- A round opens with a tag that is not below maxtag.
abbrev pub OpensHigh : (n f : ℕ) → Type 0
OpensHigh n f = (i k : ℕ) (m : Message) (ν : Node) (q t : ℕ) → write q t ∈ (message_step n f i k m ν).sent
    → (message_step n f i k m ν).node.maxtag ≤ t

-- Closure. The writer of v has let it out, to some node.
abbrev pub LetOut : Trace → Value → Type 0
LetOut tr v = (b : ℕ) × (value v ∈ let_out_to tr v.writer b)

-- The values are an initial segment, writer by writer, of what the writers have let out: each was let out by its
-- writer, and with it stand all earlier ones that this writer has let out.
pub record InitialSegment (tr : Trace) (l : List Value) : Type 0 where
  pub sent : (v : Value) → v ∈ l → LetOut tr v
  pub earlier : (u v : Value) → v ∈ l → LetOut tr u → UpTo u v → u ∈ l

-- What a node has received, from anybody and from one node, is an initial segment of what the writers have let out.
abbrev pub RunClosed : (n f : ℕ) (room : ℕ → Bool) → Type 0
RunClosed n f room = (es : List Event) (c : ℕ) → let ν = (after n f room start es).nodes c in
    InitialSegment (trace n f room es) ν.all × ((k : ℕ) → InitialSegment (trace n f room es) (ν.from k))

-- Earlier by tag is earlier in time: a node, the writer or another, lets the values of a writer out to each node in the
-- order of their tags.
abbrev pub RunRising : (n f : ℕ) (room : ℕ → Bool) → Type 0
RunRising n f room = (es : List Event) (a b : ℕ) (u v : Value) (l rest : List Message)
    → let_out_to (trace n f room es) a b ≡ l ++ (value v ∷ rest) → value u ∈ l → u.writer ≡ v.writer → u.tag ≤ v.tag
