-- Certificates: what a good round leaves behind, in terms of logs alone. Any two are comparable, with no step in the
-- argument: two quorums share a node, and of two earlier states of its log one is the earlier.
use Prim.Native.Nat.{ℕ, ◌+◌, ◌-◌, ◌≤◌, ◌<◌}
use native.Mathlib.Omega.{arith}
use mathlib.Core.Path.{◌≡◌, subst}
use mathlib.Core.Logic.{◌⊎◌, inl, inr}
use mathlib.Core.Bool.{Bool, true}
use mathlib.Core.List.{List}
use Rattle.logs.specs.Count.{count}
use Rattle.logs.proofs.Count.{meet}
use Rattle.logs.specs.Log.{◌∈◌, ◌⊑◌}
use Rattle.logs.proofs.Log.{⊑_trans, mem_up, comparable}
use Rattle.history.specs.Message.{Value, Message, read, read_answer, write, write_answer, echo, value, good}

-- Everything that a node ever sent, newest first; and that of all nodes.
abbrev pub Log : Type 0
Log = List Message

abbrev pub Logs : Type 0
Logs = ℕ → Log

-- Every log is the same or longer.
infix 50 ◌≼◌
abbrev pub ◌≼◌ : Logs → Logs → Type 0
◌≼◌ a b = (k : ℕ) → a k ⊑ b k

-- An echo of at least T stands in the log.
abbrev pub Echoed : ℕ → Log → Type 0
Echoed T l = (t : ℕ) × (T ≤ t) × (echo t ∈ l)

pub echoed-up : {T : ℕ} {a b : Log} → a ⊑ b → Echoed T a → Echoed T b
echoed-up p (t, h, m) = (t, h, mem_up p m)

-- The message is a value.
abbrev pub IsValue : Message → Type 0
IsValue (value v) = Unit {0}
IsValue (read q) = ⊥
IsValue (read_answer to q t) = ⊥
IsValue (write q t) = ⊥
IsValue (write_answer to q t) = ⊥
IsValue (echo t) = ⊥
IsValue (good t v) = ⊥

pub value≢write : {v : Value} {q t : ℕ} → value v ≡ write q t → ⊥
value≢write e = subst IsValue e tt

-- The values up to T of the one list are among those up to U of the other.
abbrev pub Inside : (T : ℕ) (A : List Value) (U : ℕ) (B : List Value) → Type 0
Inside T A U B = (v : Value) → v ∈ A → v.tag ≤ T → (v ∈ B) × (v.tag ≤ U)

-- A good round with tag T that held A: a quorum W that had echoed T, whose values A holds; and a quorum Q that had sent
-- just the values of A up to T, and no echo above T. Each is a state of the log of its node.
pub record Cert (n f : ℕ) (out : Logs) (T : ℕ) (A : List Value) : Type 0 where
  pub W : ℕ → Bool
  pub Q : ℕ → Bool
  pub a : Logs
  pub q : Logs
  pub W-many : n - f ≤ count W n
  pub Q-many : n - f ≤ count Q n
  pub W-in : (k : ℕ) → W k ≡ true → a k ⊑ out k
  pub W-echo : (k : ℕ) → W k ≡ true → 0 < T → Echoed T (a k)
  pub W-all : (k : ℕ) (v : Value) → W k ≡ true → value v ∈ a k → v.tag ≤ T → v ∈ A
  pub Q-in : (k : ℕ) → Q k ≡ true → q k ⊑ out k
  pub Q-none : (k t : ℕ) → Q k ≡ true → echo t ∈ q k → t ≤ T
  pub Q-has : (k : ℕ) (v : Value) → Q k ≡ true → v ∈ A → v.tag ≤ T → value v ∈ q k
  pub Q-only : (k : ℕ) (v : Value) → Q k ≡ true → value v ∈ q k → v.tag ≤ T → v ∈ A

-- A certificate stays one while logs grow.
pub carry : {n f : ℕ} {out out' : Logs} {T : ℕ} {A : List Value} → out ≼ out' → Cert n f out T A → Cert n f out' T A
carry up G = record {
  W = G.W;
  Q = G.Q;
  a = G.a;
  q = G.q;
  W-many = G.W-many;
  Q-many = G.Q-many;
  W-in = λ k w. ⊑_trans (G.W-in k w) (up k);
  W-echo = G.W-echo;
  W-all = G.W-all;
  Q-in = λ k w. ⊑_trans (G.Q-in k w) (up k);
  Q-none = G.Q-none;
  Q-has = G.Q-has;
  Q-only = G.Q-only;
}

module _ {n f : ℕ} (half : f + f < n) {out : Logs} where
  -- What was sent before an echo of U was sent: a round below U is inside a round with tag U.
  pub below : {T U : ℕ} {A B : List Value} → T < U → Cert n f out T A → Cert n f out U B → Inside T A U B
  below {T} {U} {A} {B} lt G H v m h =
      let (k, lo, hi, x, y) = meet n f half G.Q H.W G.Q-many H.W-many in
      let (t, ht, e) = H.W-echo k y (omega arith) in
      let up : G.q k ⊑ H.a k = elim (comparable (G.Q-in k x) (H.W-in k y))
      [ inl r ↦ r | inr r ↦ absurd (omega (arith, G.Q-none k t x (mem_up r e))) ] in
      (H.W-all k v y (mem_up up (G.Q-has k v x m h)) (omega arith), omega arith)

  -- Two rounds of one tag: the one that looked at the earlier state of the log that they share.
  pub same : {T : ℕ} {A B : List Value} → Cert n f out T A → Cert n f out T B → Inside T A T B ⊎ Inside T B T A
  same G H =
      let (k, lo, hi, x, y) = meet n f half G.Q H.Q G.Q-many H.Q-many in
      elim (comparable (G.Q-in k x) (H.Q-in k y)) [
        | inl r ↦ inl λ v m h. (H.Q-only k v y (mem_up r (G.Q-has k v x m h)) h, h)
        | inr r ↦ inr λ v m h. (G.Q-only k v x (mem_up r (H.Q-has k v y m h)) h, h)
      ]
