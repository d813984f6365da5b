-- Closure: where a value of a writer stands, every earlier value of that writer stands too. So what a node, a log or a
-- good round holds of a writer is an initial segment of what the writer made, and one tag tells all of it.
use Prim.Native.Nat.{ℕ, ◌+◌, ◌≤◌, ◌<◌}
use native.Mathlib.Omega.{arith}
use native.Mathlib.Decide.{dec_lt}
use mathlib.Core.Path.{◌≡◌, refl, sym, ◌∙◌, ap, subst}
use mathlib.Core.Logic.{◌⊎◌, inl, inr, ◌↔◌}
use mathlib.Core.Bool.{true}
use mathlib.Core.List.Memᴰ
use mathlib.Core.List.{List, ◌∷◌}
use Rattle.logs.proofs.Count.{meet}
use Rattle.logs.specs.Log.{◌∈◌, ◌⊑◌, here, Each}
use Rattle.logs.proofs.Log.{⊑_trans, mem_up, comparable, cons-or, place, placed, each_at}
use Rattle.history.specs.Message.{Value, absent, value}
use Rattle.history.specs.Event.{Operation, update, scan, round0}
use Rattle.algorithm.specs.Algorithm.{Wait, writing, Node, newest}
use Rattle.algorithm.proofs.Cert.{Log, Logs, Inside, Cert}
use Rattle.algorithm.proofs.Local.{Past, ValueDue, Pending, Due, Olds, Local}
use Rattle.eqaso.specs.Bounded.{UpTo}
use Rattle.eqaso.proofs.Newest.{entry, From, newest-from, newest-value, newest-above}

-- Every message in every log has what it owes.
abbrev pub Dues : (n f : ℕ) → Logs → Type 0
Dues n f out = (k : ℕ) → Each (Due n f k out) (out k)

-- v is k's own value, or comes in log l after all that came before some place of it in the log of its writer.
abbrev Source : ℕ → Logs → Value → Log → Type 0
Source k out v l =
    (v.writer ≡ k) ⊎ ((q : Log) × ((value v ∷ q) ⊑ out v.writer) × ((u : Value) → value u ∈ q → value u ∈ l))

pub pending-own : (i r : ℕ) (op : Operation) (w : Wait) (u : Value) → Pending i r op w u → u.writer ≡ i
pending-own i r (update p) (writing o round0 t s) u e = ap (λ z. z.writer) e
pending-own i r scan (writing o round0 t s) u e = absurd e
pending-own i r _ _ u e = elim e [ ]

module _ (n f : ℕ) (out : Logs) (dues : Dues n f out) where
  value-due : (k : ℕ) {v : Value} {p : Log} → (value v ∷ p) ⊑ out k → ValueDue k out v p
  value-due k at = each_at (Due n f k out) (dues k) at

  pub tag-positive : (k : ℕ) {v : Value} → value v ∈ out k → 0 < v.tag
  tag-positive k m = (value-due k (place m).1).tagged

  -- A value in any log stands in the log of its writer.
  pub writer-sent : (k : ℕ) {v : Value} → value v ∈ out k → value v ∈ out v.writer
  writer-sent k {v} m = let (p, at) = place m in go (value-due k at).source
    where
      go : {p : Log} → Source k out v p → value v ∈ out v.writer
      go (inl e) = subst (λ z. value v ∈ out z) (sym e) m
      go (inr (q, at, h)) = placed at

  -- In the log of its writer, what is not above v comes before every place of v, or is v.
  own-before : {u v : Value} {p : Log} → (value v ∷ p) ⊑ out v.writer → value u ∈ out v.writer → UpTo u v
      → (u ≡ v) ⊎ (value u ∈ p)
  own-before {u} {v} {p} at m (e, h) = let (q, at') = place m in go at' (comparable at' at)
    where
      after : {q : Log} → (value u ∷ q) ⊑ out v.writer → value v ∈ q → (u ≡ v) ⊎ (value u ∈ p)
      after at' x = elim ((value-due v.writer at').rise v e x refl)
          [ inl d ↦ inl (sym d) | inr d ↦ absurd (omega arith) ]

      go : {q : Log} → (value u ∷ q) ⊑ out v.writer
          → ((value u ∷ q) ⊑ (value v ∷ p)) ⊎ ((value v ∷ p) ⊑ (value u ∷ q)) → (u ≡ v) ⊎ (value u ∈ p)
      go at' (inl r) = elim (cons-or r) [ inl d ↦ inl (cc d.0) | inr r' ↦ inr (placed r') ]
      go at' (inr r) = elim (cons-or r) [ inl d ↦ inl (cc d.0) | inr r' ↦ after at' (placed r') ]

  -- Any state of any log that has a value has all earlier ones of its writer.
  pub closed : (k : ℕ) {a : Log} {u v : Value} → a ⊑ out k → value v ∈ a → value u ∈ out u.writer → UpTo u v
      → value u ∈ a
  closed k {a} {u} {v} up m sent h = let (p, at) = place m in go at (value-due k (⊑_trans at up)).source
    where
      sent' : value u ∈ out v.writer
      sent' = subst (λ z. value u ∈ out z) h.0 sent

      here-or : {p : Log} → (value v ∷ p) ⊑ a → (u ≡ v) ⊎ (value u ∈ p) → value u ∈ a
      here-or at (inl d) = subst (λ z. value z ∈ a) (sym d) m
      here-or at (inr x) = mem_up at (Memᴰ.tail x)

      go : {p : Log} → (value v ∷ p) ⊑ a → Source k out v p → value u ∈ a
      go {p} at (inl e) = here-or at
          (own-before (subst (λ z. (value v ∷ p) ⊑ out z) (sym e) (⊑_trans at up)) sent' h)
      go at (inr (q, at', pass)) = here-or at (elim (own-before at' sent' h) [ inl d ↦ inl d | inr x ↦ inr (pass u x) ])

  -- What a node has received, from one node and from all.
  module _ {γ : Past} {i r : ℕ} {op : Operation} {ν : Node} (c : Local n f out γ i r op ν (out i)) where
    pub from-closed : (k : ℕ) {u v : Value} → v ∈ ν.from k → value u ∈ out u.writer → UpTo u v → u ∈ ν.from k
    from-closed k {u} {v} m sent h = (c.took k (value u) (closed k (c.got_in k) (c.heard k v m) sent h)).0

    -- The pending value is above every other own one.
    pending-top : (op : Operation) (w : Wait) {u v : Value} → Pending i r op w u → Olds n f out γ.base i r op w v
        → u.tag ≤ v.tag → u ≡ v
    pending-top (update p) (writing o round0 t s) e (inl d) h = e ∙ sym d
    pending-top (update p) (writing o round0 t s) e (inr (d, low)) h = absurd (omega (arith, ap (λ z. z.tag) e))
    pending-top scan (writing o round0 t s) e d h = absurd e
    pending-top _ _ e d h = elim e [ ]

    pub all_closed : {u v : Value} → v ∈ ν.all → value u ∈ out u.writer → UpTo u v → u ∈ ν.all
    all_closed {u} {v} m sent (e, h) = go (c.have (value u) (closed i here (c.sent v m) sent (e, h))).0
      where
        go : (u ∈ ν.all) ⊎ Pending i r op ν.wait u → u ∈ ν.all
        go (inl y) = y
        go (inr p) = subst (λ z. z ∈ ν.all) (sym (pending-top op ν.wait p old h)) m
          where
            old : Olds n f out γ.base i r op ν.wait v
            old = (c.have (value v) (c.sent v m)).1 (sym e ∙ pending-own i r op ν.wait u p)

  -- What a good round shows.
  module _ (half : f + f < n) {T : ℕ} {A : List Value} (G : Cert n f out T A) where
    -- A node that had sent just the values of the round.
    witness : (k : ℕ) × (G.Q k ≡ true)
    witness = let (k, lo, hi, x, y) = meet n f half G.Q G.Q G.Q-many G.Q-many in (k, x)

    pub round-sent : {v : Value} → v ∈ A → v.tag ≤ T → value v ∈ out v.writer
    round-sent {v} m h = let (k, q) = witness in writer-sent k (mem_up (G.Q-in k q) (G.Q-has k v q m h))

    pub round-positive : {v : Value} → v ∈ A → v.tag ≤ T → 0 < v.tag
    round-positive {v} m h = tag-positive v.writer (round-sent m h)

    pub round-closed : {u v : Value} → v ∈ A → v.tag ≤ T → value u ∈ out u.writer → UpTo u v → u ∈ A
    round-closed {u} {v} m h sent up = let (k, q) = witness in
        G.Q-only k u q (closed k (G.Q-in k q) (G.Q-has k v q m h) sent up) (omega (arith, up.1))

    -- The round has a value just if its view has a tag of that writer that is not below.
    pub shows : {v : Value} → value v ∈ out v.writer
        → ((v ∈ A) × (v.tag ≤ T)) ↔ (v.tag ≤ (newest v.writer T A).tag)
    shows {v} sent = (
      λ (m, h). newest-above v.writer T m refl h,
      λ h.
          let (x, m, p, q, e) = newest-value v.writer T A (omega (arith, tag-positive v.writer sent)) in
          let low : v.tag ≤ x.tag = subst (λ z. v.tag ≤ z.tag) e h in
          (round-closed m q sent (sym p, low), omega arith),
    )

    -- The view has nothing of writer w, and the round has nothing of it.
    abbrev pub ShowsNothing : ℕ → Type 0
    ShowsNothing w = (newest w T A ≡ absent) × ((v : Value) → v ∈ A → v.writer ≡ w → ¬ (v.tag ≤ T))

    -- The view has the tag and report of a value of the round.
    abbrev pub ShowsValue : ℕ → Type 0
    ShowsValue w = (v : Value) × (v ∈ A) × (v.writer ≡ w) × (v.tag ≤ T) × (value v ∈ out w) × (newest w T A ≡ entry v)

    pub shown-report : (w : ℕ) → ShowsNothing w ⊎ ShowsValue w
    shown-report w = go (newest-from w T A)
      where
        go : From w T A (newest w T A) → ShowsNothing w ⊎ ShowsValue w
        go (inl e) = inl (e, λ v m p q. omega (arith, round-positive m q, newest-above w T m p q, ap (λ z. z.tag) e))
        go (inr (v, m, p, q, e)) = inr (v, m, p, q, subst (λ z. value v ∈ out z) p (round-sent m q), e)

-- What is inside has no larger tags.
pub inside-below : (w T U : ℕ) {A B : List Value} → Inside T A U B → (newest w T A).tag ≤ (newest w U B).tag
inside-below w T U {A} h = elim (dec_lt 0 (newest w T A).tag) [
  | yes d ↦ let (v, m, p, q, e) = newest-value w T A d in let (x, y) = h v m q in rw e (newest-above w U x p y)
  | no d ↦ omega arith
]
