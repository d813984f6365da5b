-- The values of one writer in one log: their tags never fall, and a newer one comes only after a write or an echo of
-- the tag of the older. So a node that is handed a value that is new to it knows of its writer only older ones, none of
-- them above its maxtag.
use Prim.Native.Nat.{ℕ, suc, ◌≤◌, ◌<◌}
use native.Mathlib.Omega.{arith}
use native.Mathlib.Decide.{ℕ_discrete, dec_lt}
use mathlib.Core.Path.{◌≡◌, refl, sym, ◌∙◌, ap, subst}
use mathlib.Core.Logic.{◌⊎◌, inl, inr, ◌≢◌}
use mathlib.Core.List.Memᴰ
use mathlib.Core.List.{◌∷◌}
use Rattle.logs.specs.Log.{◌∈◌, ◌⊑◌, here, more, Each}
use Rattle.logs.proofs.Log.{mem_up, placed, each_at}
use Rattle.history.specs.Message.{Value, Message, read, read_answer, write, write_answer, echo, value, good}
use Rattle.history.specs.Event.{Operation, round0, round1, round2, round3}
use Rattle.algorithm.specs.Algorithm.{Wait, idle, reading, writing, comparing, borrowing, Node}
use Rattle.algorithm.proofs.Cert.{Log, Logs}
use Rattle.algorithm.proofs.Local.{Past, Pending, Due, Local}
use Rattle.eqaso.proofs.Closure.{Dues, pending-own, tag-positive, writer-sent, closed, all_closed}

-- A write or an echo of at least s stands in the log.
abbrev pub Marked : ℕ → Log → Type 0
Marked s l = (t : ℕ) × (s ≤ t) × ((echo t ∈ l) ⊎ ((q : ℕ) × (write q t ∈ l)))

pub marked-up : {s : ℕ} {a b : Log} → a ⊑ b → Marked s a → Marked s b
marked-up up (t, h, inl m) = (t, h, inl (mem_up up m))
marked-up up (t, h, inr (q, m)) = (t, h, inr (q, mem_up up m))

-- A value in the log of node k, by the log before it. That own values rise is known from the algorithm's invariant.
pub record Follows (k : ℕ) (v : Value) (l : Log) : Type 0 where
  pub rise : (u : Value) → v.writer ≢ k → value u ∈ l → u.writer ≡ v.writer → u.tag ≤ v.tag
  pub mark : (u : Value) → value u ∈ l → u.writer ≡ v.writer → u.tag < v.tag → Marked u.tag l

abbrev pub Order : ℕ → Message → Log → Type 0
Order k (value v) l = Follows k v l
Order k (read q) l = Unit {0}
Order k (read_answer to q t) l = Unit {0}
Order k (write q t) l = Unit {0}
Order k (write_answer to q t) l = Unit {0}
Order k (echo t) l = Unit {0}
Order k (good t v) l = Unit {0}

-- An own value may stand unmarked while round 0 is open.
abbrev pub Young : Wait → Value → Type 0
Young (writing o round0 t s) v = v.tag ≤ suc t
Young (comparing o round0 t) v = v.tag ≤ suc t
Young (writing o round1 t s) v = ⊥
Young (writing o round2 t s) v = ⊥
Young (writing o round3 t s) v = ⊥
Young (comparing o round1 t) v = ⊥
Young (comparing o round2 t) v = ⊥
Young (comparing o round3 t) v = ⊥
Young idle v = ⊥
Young (reading o s u) v = ⊥
Young (borrowing o t) v = ⊥

-- What holds of node i with log l while it waits for w.
pub record Rising (i : ℕ) (w : Wait) (l : Log) : Type 0 where
  pub order : Each (Order i) l
  pub own : (v : Value) → value v ∈ l → v.writer ≡ i → Marked v.tag l ⊎ Young w v

pub longer : (w : Wait) (v : Value) {a b : Log} → a ⊑ b → Marked v.tag a ⊎ Young w v
    → Marked v.tag b ⊎ Young w v
longer w v up (inl m) = inl (marked-up up m)
longer w v up (inr y) = inr y

abbrev pub Orders : Logs → Type 0
Orders out = (k : ℕ) → Each (Order k) (out k)

-- Of every log: the tags of one writer never fall, and a newer value comes after a write or an echo of the older tag.
module _ (n f : ℕ) (out : Logs) (dues : Dues n f out) (orders : Orders out) where
  pub tags-rise : (k : ℕ) {u v : Value} {p : Log} → (value v ∷ p) ⊑ out k → value u ∈ p → u.writer ≡ v.writer
      → u.tag ≤ v.tag
  tags-rise k {u} {v} at m e = go (ℕ_discrete v.writer k)
    where
      go : Dec (v.writer ≡ k) → u.tag ≤ v.tag
      go (no ne) = (each_at (Order k) (orders k) at).rise u ne m e
      go (yes d) = elim ((each_at (Due n f k out) (dues k) at).rise u d m (e ∙ d)) [
        | inl s ↦ omega (arith, ap (λ z. z.tag) s)
        | inr h ↦ omega arith
      ]

  pub tags-marked : (k : ℕ) {u v : Value} {p : Log} → (value v ∷ p) ⊑ out k → value u ∈ p → u.writer ≡ v.writer
      → u.tag < v.tag → Marked u.tag p
  tags-marked k {u} at m e h = (each_at (Order k) (orders k) at).mark u m e h

-- Node i is handed value v by node k.
module _ (n f : ℕ) (out : Logs) (dues : Dues n f out) (orders : Orders out)
    {γ : Past} {i r : ℕ} {op : Operation} {ν : Node} (c : Local n f out γ i r op ν (out i))
    (k : ℕ) (v : Value) (at : (value v ∷ γ.got k) ⊑ out k) where
  sent-value : value v ∈ out v.writer
  sent-value = writer-sent n f out dues k (placed at)

  -- Its sender had sent all older values of the writer before, and they have been handed over.
  handed-older : (u : Value) → value u ∈ out u.writer → u.writer ≡ v.writer → u.tag < v.tag → value u ∈ γ.got k
  handed-older u sent e h = go (closed n f out dues k at (Memᴰ.head refl) sent (e, omega arith))
    where
      go : value u ∈ (value v ∷ γ.got k) → value u ∈ γ.got k
      go (Memᴰ.head d) = let same : u ≡ v = cc d in absurd (omega (arith, ap (λ z. z.tag) same))
      go (Memᴰ.tail m) = m

  pub older-from : (u : Value) → value u ∈ out u.writer → u.writer ≡ v.writer → u.tag < v.tag → u ∈ ν.from k
  older-from u sent e h = (c.took k (value u) (handed-older u sent e h)).0

  -- No older value of the writer is above maxtag.
  pub new-low : (u : Value) → value u ∈ out u.writer → u.writer ≡ v.writer → u.tag < v.tag → u.tag ≤ ν.maxtag
  new-low u sent e h = go (tags-marked n f out dues orders k at (handed-older u sent e h) e h)
    where
      go : Marked u.tag (γ.got k) → u.tag ≤ ν.maxtag
      go (t, low, inl m) = omega (arith, c.took k (echo t) m)
      go (t, low, inr (q, m)) = omega (arith, c.took k (write q t) m)

  -- A value that is new is above all that the node knows of its writer.
  pub new-above : ¬ (v ∈ ν.all) → (u : Value) → u ∈ ν.all → u.writer ≡ v.writer → u.tag < v.tag
  new-above new u m e = elim (dec_lt u.tag v.tag) [
    | yes h ↦ h
    | no h ↦ absurd (new (all_closed n f out dues c m sent-value (sym e, omega arith)))
  ]

  -- The tags of a writer from one sender never fall.
  pub never-falls : (u : Value) → u ∈ ν.from k → u.writer ≡ v.writer → u.tag ≤ v.tag
  never-falls u m e = tags-rise n f out dues orders k at (c.heard k u m) e

  forward : ¬ (v ∈ ν.all) → Follows i v (out i)
  forward new = record {
    rise = λ u ne m e. go u ne e (c.have (value u) m).0;
    mark = λ u m e h.
        let low = new-low u (writer-sent n f out dues i m) e h in
        let positive = tag-positive n f out dues i m in
        (ν.maxtag, low, inl (c.topped (omega arith)));
  }
    where
      go : (u : Value) → v.writer ≢ i → u.writer ≡ v.writer → (u ∈ ν.all) ⊎ Pending i r op ν.wait u
          → u.tag ≤ v.tag
      go u ne e (inl x) = let h = new-above new u x e in omega arith
      go u ne e (inr p) = absurd (ne (sym e ∙ pending-own i r op ν.wait u p))

  -- It passes the value on.
  pub rising-forward : Rising i ν.wait (out i) → ¬ (v ∈ ν.all) → Rising i ν.wait (value v ∷ out i)
  rising-forward x new = record { order = (forward new, x.order); own = own }
    where
      own : (u : Value) → value u ∈ (value v ∷ out i) → u.writer ≡ i
          → Marked u.tag (value v ∷ out i) ⊎ Young ν.wait u
      own u (Memᴰ.tail m) e = longer ν.wait u (more here) (x.own u m e)
      own u (Memᴰ.head d) e =
          let same : u ≡ v = cc d in
          let back : value u ∈ out i = subst (λ z. value u ∈ out z) e (rw same sent-value) in
          longer ν.wait u (more here) (x.own u back e)
