-- What holds of one node, in terms of its own state and log and of the logs of the others: the invariant of the
-- algorithm. The logs of others only grow, and every clause speaks of an earlier state of a log, so that a step of one
-- node leaves what holds of the others as it is.
use Prim.Native.Nat.{ℕ, suc, ◌-◌, ◌≤◌, ◌<◌}
use mathlib.Core.Path.{◌≡◌}
use mathlib.Core.Logic.{◌⊎◌}
use mathlib.Core.Bool.{Bool, true}
use mathlib.Core.List.{List, ◌∷◌}
use Rattle.logs.specs.Count.{count}
use Rattle.logs.specs.Update.{upd}
use Rattle.logs.specs.Log.{◌∈◌, ◌⊑◌, Each}
use Rattle.history.specs.Message.{Value, of, View, Message, read, read_answer, write, write_answer, echo, value, good}
use Rattle.history.specs.Event.{Operation, update, scan, Round, round0, round1, round2, round3}
use Rattle.algorithm.specs.Algorithm.{Nodes, Wait, idle, reading, writing, comparing, borrowing, Good, Node}
use Rattle.algorithm.specs.Algorithm.{view_upto}
use Rattle.algorithm.proofs.Cert.{Log, Logs, ◌≼◌, Echoed, Cert}

-- What the proof remembers of the open operation of a node, beside its state.
pub record Past : Type 0 where
  -- How far the log of each node has been handed to this one.
  pub got : Logs
  -- All logs when the operation began.
  pub base : Logs
  -- The number of its read request.
  pub first : ℕ

-- v is the value that an operation of node i writes which has read tag r.
abbrev pub Own : (i r : ℕ) → Operation → Value → Type 0
Own i r (update p) v = v ≡ of (suc r) i p
Own i r scan v = ⊥

-- The operation's own value stands in the log.
abbrev pub Held : (i r : ℕ) → Operation → Log → Type 0
Held i r (update p) l = value (of (suc r) i p) ∈ l
Held i r scan l = Unit {0}

-- The number of a request is below q.
abbrev pub Under : ℕ → Message → Type 0
Under q (read p) = p < q
Under q (write p t) = p < q
Under q (read_answer to p t) = Unit {0}
Under q (write_answer to p t) = Unit {0}
Under q (echo t) = Unit {0}
Under q (value v) = Unit {0}
Under q (good t v) = Unit {0}

-- A read answer tells of every echo before it, and was asked for.
pub record ReadDue (out : Logs) (to q t : ℕ) (l : Log) : Type 0 where
  pub low : (u : ℕ) → echo u ∈ l → u ≤ t
  pub before : Log
  pub asked : (read q ∷ before) ⊑ out to

-- A write answer comes after an echo of its tag, was asked for, and comes after every value that the asker had sent.
pub record WriteDue (out : Logs) (to q t : ℕ) (l : Log) : Type 0 where
  pub told : 0 < t → Echoed t l
  pub before : Log
  pub asked : (write q t ∷ before) ⊑ out to
  pub passed : (v : Value) → value v ∈ before → value v ∈ l

-- A value has a tag. Those of a writer rise in its own log. In any other log a value comes after all that came before
-- some place of it in the log of its writer.
pub record ValueDue (k : ℕ) (out : Logs) (v : Value) (l : Log) : Type 0 where
  pub tagged : 0 < v.tag
  pub rise : (u : Value) → v.writer ≡ k → value u ∈ l → u.writer ≡ k → (u ≡ v) ⊎ (u.tag < v.tag)
  pub source : (v.writer ≡ k) ⊎
      ((p : Log) × ((value v ∷ p) ⊑ out v.writer) × ((u : Value) → value u ∈ p → value u ∈ l))

-- What a message from node k says of the node that it was handed to.
abbrev pub Took : ℕ → Node → Message → Type 0
Took k ν (read q) = Unit {0}
Took k ν (read_answer to q t) = Unit {0}
Took k ν (write q t) = t ≤ ν.maxtag
Took k ν (write_answer to q t) = Unit {0}
Took k ν (echo t) = t ≤ ν.maxtag
Took k ν (value v) = (v ∈ ν.from k) × (v ∈ ν.all)
Took k ν (good t v) = Unit {0}

-- The own value may be on its way back while round 0 writes.
abbrev pub Pending : (i r : ℕ) → Operation → Wait → Value → Type 0
Pending i r op idle v = ⊥
Pending i r op (reading o s u) v = ⊥
Pending i r op (writing o round0 t s) v = Own i r op v
Pending i r op (writing o round1 t s) v = ⊥
Pending i r op (writing o round2 t s) v = ⊥
Pending i r op (writing o round3 t s) v = ⊥
Pending i r op (comparing o rnd t) v = ⊥
Pending i r op (borrowing o t) v = ⊥

-- Tags of rounds are not below what was read, and above it from the second round on.
abbrev pub Rise : Operation → Round → (r t : ℕ) → Type 0
Rise (update p) round0 r t = r ≡ t
Rise (update p) round1 r t = r < t
Rise (update p) round2 r t = r < t
Rise (update p) round3 r t = r < t
Rise scan round0 r t = ⊥
Rise scan round1 r t = r ≤ t
Rise scan round2 r t = r < t
Rise scan round3 r t = r < t

module _ (n f : ℕ) where
  -- A quorum has sent the value, and an echo of its tag.
  pub record Settled (out : Logs) (v : Value) : Type 0 where
    pub who : ℕ → Bool
    pub many : n - f ≤ count who n
    pub told : (k : ℕ) → who k ≡ true → Echoed v.tag (out k)
    pub has : (k : ℕ) → who k ≡ true → value v ∈ out k

  -- The view is that of a good round with tag T.
  abbrev pub Known : Logs → ℕ → View → Type 0
  Known out T view = (A : List Value) × (view ≡ view_upto n T A) × Cert n f out T A

  -- What a message in the log of node k owes to the log before it and to the logs of others.
  abbrev pub Due : ℕ → Logs → Message → Log → Type 0
  Due k out (read q) l = (m : Message) → m ∈ l → Under q m
  Due k out (write q t) l = (m : Message) → m ∈ l → Under q m
  Due k out (read_answer to q t) l = ReadDue out to q t l
  Due k out (write_answer to q t) l = WriteDue out to q t l
  Due k out (echo t) l = Unit {0}
  Due k out (value v) l = ValueDue k out v l
  Due k out (good T view) l = Known (upd out k l) T view

  -- An own value that is not the open operation's: a quorum has it, and what was read is not below its tag.
  abbrev pub Olds : (out base : Logs) (i r : ℕ) → Operation → Wait → Value → Type 0
  Olds out base i r op idle v = Settled out v
  Olds out base i r op (reading o s u) v = Settled base v
  Olds out base i r op (writing o rnd t s) v = Own i r op v ⊎ (Settled out v × (v.tag ≤ r))
  Olds out base i r op (comparing o rnd t) v = Own i r op v ⊎ (Settled out v × (v.tag ≤ r))
  Olds out base i r op (borrowing o t) v = Own i r op v ⊎ (Settled out v × (v.tag ≤ r))

  -- What a message in the node's own log says of the node.
  abbrev pub Have : (out base : Logs) (i r : ℕ) → Operation → Node → Message → Type 0
  Have out base i r op ν (read q) = q ≤ ν.request
  Have out base i r op ν (write q t) = q ≤ ν.request
  Have out base i r op ν (read_answer to q t) = Unit {0}
  Have out base i r op ν (write_answer to q t) = Unit {0}
  Have out base i r op ν (echo t) = t ≤ ν.maxtag
  Have out base i r op ν (value v) = ((v ∈ ν.all) ⊎ Pending i r op ν.wait v)
      × (v.writer ≡ i → Olds out base i r op ν.wait v)
  Have out base i r op ν (good t v) = Unit {0}

  -- A quorum had sent the value, and an echo of its tag, before any echo above t.
  pub record Spread (out : Logs) (v : Value) (t : ℕ) : Type 0 where
    pub who : ℕ → Bool
    pub many : n - f ≤ count who n
    pub a : Logs
    pub sits : (k : ℕ) → who k ≡ true → a k ⊑ out k
    pub told : (k : ℕ) → who k ≡ true → Echoed v.tag (a k)
    pub has : (k : ℕ) → who k ≡ true → value v ∈ a k
    pub low : (k u : ℕ) → who k ≡ true → echo u ∈ a k → u ≤ t

  -- What round 1 has left behind for an update.
  abbrev pub Before : (out : Logs) (i r : ℕ) → Operation → Round → ℕ → Type 0
  Before out i r (update p) round0 t = Unit {0}
  Before out i r (update p) round1 t = Unit {0}
  Before out i r (update p) round2 t = Spread out (of (suc r) i p) t
  Before out i r (update p) round3 t = (u : ℕ) × (u < t) × Spread out (of (suc r) i p) u
  Before out i r scan rnd t = Unit {0}

  -- An operation that has read: a quorum had echoed nothing above r when it began, and what they had sent by then has
  -- been handed over. A value that a quorum had by then comes before the operation's own.
  pub record Stage (out : Logs) (γ : Past) (i r : ℕ) (op : Operation) (l : Log) (rnd : Round) (t : ℕ) : Type 0 where
    pub R : ℕ → Bool
    pub many : n - f ≤ count R n
    pub low : (k u : ℕ) → R k ≡ true → echo u ∈ γ.base k → u ≤ r
    pub handed : (k : ℕ) → R k ≡ true → γ.base k ⊑ γ.got k
    pub ahead : (x v : Value) (p : Log) → Settled γ.base x → Own i r op v → (value v ∷ p) ⊑ l → value x ∈ p
    pub rise : Rise op rnd r t
    pub before : Before out i r op rnd t

-- Node k has answered a read: its log up to the answer, which holds all of before the begin and no echo above u.
pub record ReadBy (γ : Past) (u k : ℕ) : Type 0 where
  pub a : Log
  pub late : γ.base k ⊑ a
  pub sits : a ⊑ γ.got k
  pub low : (e : ℕ) → echo e ∈ a → e ≤ u

-- Node k has answered the write of tag t: its log a up to the answer holds an echo of t and the operation's value.
pub record Wrote (γ : Past) (i r : ℕ) (op : Operation) (t k : ℕ) (a : Log) : Type 0 where
  pub late : γ.base k ⊑ a
  pub sits : a ⊑ γ.got k
  pub told : 0 < t → Echoed t a
  pub has : Held i r op a

abbrev pub WroteBy : (γ : Past) (i r : ℕ) (op : Operation) (t k : ℕ) → Type 0
WroteBy γ i r op t k = (a : Log) × Wrote γ i r op t k a

module _ (n f : ℕ) where
  pub record Writes (out : Logs) (γ : Past) (i r : ℕ) (op : Operation) (q : ℕ) (l : Log) (rnd : Round) (t : ℕ)
      (s : Nodes) : Type 0 where
    pub stage : Stage n f out γ i r op l rnd t
    pub at : Log
    pub asked : (write q t ∷ at) ⊑ l
    pub held : Held i r op at
    pub counted : (k : ℕ) → s k ≡ true → WroteBy γ i r op t k

  pub record Compares (out : Logs) (γ : Past) (i r : ℕ) (op : Operation) (l : Log) (rnd : Round) (t : ℕ) : Type 0 where
    pub stage : Stage n f out γ i r op l rnd t
    pub held : Held i r op l
    pub W : Nodes
    pub many : n - f ≤ count W n
    pub counted : (k : ℕ) → W k ≡ true → WroteBy γ i r op t k

  -- What holds while the operation waits. The operation that the wait names is op.
  abbrev pub Phase : (out : Logs) (γ : Past) (i r : ℕ) (op : Operation) (q : ℕ) (l : Log) → Wait → Type 0
  Phase out γ i r op q l idle = Unit {0}
  Phase out γ i r op q l (reading o s u) = (o ≡ op) × ((k : ℕ) → s k ≡ true → ReadBy γ u k)
  Phase out γ i r op q l (writing o rnd t s) = (o ≡ op) × Writes out γ i r op q l rnd t s
  Phase out γ i r op q l (comparing o rnd t) = (o ≡ op) × Compares out γ i r op l rnd t
  Phase out γ i r op q l (borrowing o t) = (o ≡ op) × Stage n f out γ i r op l round3 t

  -- The invariant of node i with state ν and log l, which may be longer than out i in the middle of a step. Its last
  -- operation is op, which has read r.
  pub record Local (out : Logs) (γ : Past) (i r : ℕ) (op : Operation) (ν : Node) (l : Log) : Type 0 where
    pub grown : out i ⊑ l
    pub got_in : γ.got ≼ out
    pub base-in : γ.base ≼ out
    pub due : Each (Due n f i out) l
    pub took : (k : ℕ) (m : Message) → m ∈ γ.got k → Took k ν m
    pub have : (m : Message) → m ∈ l → Have n f out γ.base i r op ν m
    pub topped : 0 < ν.maxtag → echo ν.maxtag ∈ l
    pub sent : (v : Value) → v ∈ ν.all → value v ∈ l
    pub heard : (k : ℕ) (v : Value) → v ∈ ν.from k → value v ∈ γ.got k
    pub lead : γ.first ≤ ν.request
    pub no_reads : (k q t : ℕ) → read_answer i q t ∈ γ.base k → q < γ.first
    pub no_writes : (k q t : ℕ) → write_answer i q t ∈ γ.base k → q < γ.first
    pub known : (g : Good) → g ∈ ν.goods → Known n f out g.tag g.view
    pub phase : Phase out γ i r op ν.request l ν.wait
