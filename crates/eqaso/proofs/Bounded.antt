-- Why a few tags and reports per writer tell all that the sets of a node tell: what holds of the sets of every node in
-- a run and of every value that a node is handed, and what follows from these two alone.
use Prim.Native.Nat.{ℕ, ◌≤◌, ◌<◌}
use native.Mathlib.Omega.{arith}
use native.Mathlib.Decide.{ℕ_discrete, dec_le, dec_lt}
use mathlib.Core.Path.{◌≡◌, refl, sym, ◌∙◌, ap, subst}
use mathlib.Core.Logic.{◌⊎◌, inl, inr, ◌↔◌, ite}
use mathlib.Core.Bool.{Bool, true, decide, decide_iff, ◌&&◌}
use mathlib.Core.List.Memᴰ
use mathlib.Core.List.{List, [], ◌∷◌}
use Rattle.logs.specs.Log.{◌∈◌}
use Rattle.history.specs.Message.{Value}
use Rattle.history.specs.Order.{OneTo}
use Rattle.algorithm.specs.Algorithm.{Node, newest, included_up_to, agrees}
use Rattle.algorithm.specs.Node.{highest, latest}
use Rattle.algorithm.proofs.Sets.{or_cases, or_left, or_right, and_both, and-of, included_up_to-to, included_up_to-of}
pub use Rattle.eqaso.specs.Bounded.{UpTo, Bounded, BoundedNode, Arrives}
use Rattle.eqaso.proofs.Newest.{entry, newest-value, newest-above, newest-same, newest-then}
use Rattle.eqaso.proofs.Newest.{newest-beyond, latest-above, latest-then, newest-latest}

pub bounded-fresh : (n : ℕ) → Bounded n [] (λ k. []) 0
bounded-fresh n = record {
  tagged = λ v m. elim m [ ];
  writer = λ v m. elim m [ ];
  one = λ u v m. elim m [ ];
  low = λ u v m. elim m [ ];
  known = λ k v m. elim m [ ];
  segment = λ k u v m. elim m [ ];
}

module _ {n : ℕ} {all : List Value} {from : ℕ → List Value} {maxtag : ℕ} (b : Bounded n all from maxtag) where
  pub bounded-raised : (t : ℕ) → maxtag ≤ t → Bounded n all from t
  bounded-raised t h = record {
    tagged = b.tagged;
    writer = b.writer;
    one = b.one;
    known = b.known;
    segment = b.segment;
    low = λ u v x y e d. omega (arith, b.low u v x y e d);
  }

  -- At most one value of a writer is above maxtag, and it is the newest.
  pub one-above : (u v : Value) → u ∈ all → v ∈ all → u.writer ≡ v.writer → maxtag < u.tag → v.tag ≤ u.tag
  one-above u v x y e h = elim (dec_le v.tag u.tag) [
    | yes d ↦ d
    | no d ↦ absurd (omega (arith, b.low u v x y e (omega arith)))
  ]

  -- So the newest value up to a tag that is not below maxtag is the latest one, or the newest up to maxtag.
  pub newest-by-two : (w t : ℕ) → maxtag ≤ t
      → newest w t all ≡ ite (dec_le (latest w all).tag t) (latest w all) (newest w maxtag all)
  newest-by-two w t h = go (dec_le (latest w all).tag t)
    where
      low : ¬ ((latest w all).tag ≤ t) → (v : Value) → v ∈ all → v.writer ≡ w → v.tag ≤ t → v.tag ≤ maxtag
      low a v m e d =
          let (x, y, p, q, z) = newest-value w (highest all) all (omega arith) in
          b.low v x m y (e ∙ sym p) (omega (arith, ap (λ x. x.tag) z))

      go : (d : Dec ((latest w all).tag ≤ t)) → newest w t all ≡ ite d (latest w all) (newest w maxtag all)
      go (yes d) = newest-latest w t all d
      go (no d) = newest-same w t maxtag all (λ v m e. (λ z. low d v m e z, λ z. omega arith))

  -- Node k has sent, for each writer, the newest value up to t that this node has, or a later one. That is so just if
  -- both have the same values up to t.
  abbrev pub Covers : (t k : ℕ) → Type 0
  Covers t k = (w : ℕ) → OneTo n w → (newest w t all).tag ≤ (latest w (from k)).tag

  pub agree-by-tags : (t k : ℕ) → ((included_up_to t (from k) all ≡ true) × (included_up_to t all (from k) ≡ true))
      ↔ Covers t k
  agree-by-tags t k = (
    λ (x, y) w o. covers y w,
    λ h. (
      included_up_to-of t (from k) all (λ v m q. b.known k v m),
      included_up_to-of t all (from k)
          (λ v m q. has-sent h v m q),
    ),
  )
    where
      covers : included_up_to t all (from k) ≡ true → (w : ℕ) → (newest w t all).tag ≤ (latest w (from k)).tag
      covers y w = elim (dec_lt 0 (newest w t all).tag) [
        | yes d ↦ let (v, m, p, q, e) = newest-value w t all d in
            rw e (latest-above w (included_up_to-to t all (from k) y v m q) p)
        | no d ↦ omega arith
      ]

      has-sent : Covers t k → (v : Value) → v ∈ all → v.tag ≤ t → v ∈ from k
      has-sent h v m q =
          let low : v.tag ≤ (latest v.writer (from k)).tag =
          omega (arith, newest-above v.writer t m refl q, h v.writer (b.writer v m)) in
          let (x, y, p, z, e) = newest-value v.writer (highest (from k)) (from k) (omega (arith, b.tagged v m)) in
          b.segment k v x y m (sym p, subst (λ z. v.tag ≤ z.tag) e low)

-- A node agrees up to t if it is the own one, or has sent for each writer the newest value up to t or a later one.
pub agrees-by-tags : {n : ℕ} (i : ℕ) (ν : Node) (b : BoundedNode n ν) (t k : ℕ)
    → (agrees i ν t k ≡ true) ↔ ((k ≡ i) ⊎ Covers b t k)
agrees-by-tags i ν b t k = (λ e. to (or_cases (decide (ℕ_discrete k i)) same e), of)
  where
    theirs : Bool
    theirs = included_up_to t (ν.from k) ν.all

    ours : Bool
    ours = included_up_to t ν.all (ν.from k)

    same : Bool
    same = theirs && ours

    to : (decide (ℕ_discrete k i) ≡ true) ⊎ (same ≡ true) → (k ≡ i) ⊎ Covers b t k
    to (inl d) = inl ((decide_iff (ℕ_discrete k i)).0 d)
    to (inr d) = inr ((agree-by-tags b t k).0 (and_both theirs ours d))

    of : (k ≡ i) ⊎ Covers b t k → agrees i ν t k ≡ true
    of (inl e) = or_left (decide (ℕ_discrete k i)) same ((decide_iff (ℕ_discrete k i)).1 e)
    of (inr h) = let (x, y) = (agree-by-tags b t k).1 h in
        or_right (decide (ℕ_discrete k i)) same (and-of theirs ours x y)

-- A value is handed over.
module _ {n : ℕ} {all : List Value} {from : ℕ → List Value} {maxtag k : ℕ} {v : Value}
    (a : Arrives n all from maxtag k v) where
  -- The node has it just if it is not above the latest of its writer.
  pub seen-by-tag : (v ∈ all) ↔ (v.tag ≤ (latest v.writer all).tag)
  seen-by-tag = (
    λ m. latest-above v.writer m refl,
    λ h.
        let (x, m, p, q, e) = newest-value v.writer (highest all) all (omega (arith, a.tagged)) in
        a.seen x m (sym p, subst (λ z. v.tag ≤ z.tag) e h),
  )

  -- Its tag is not below the latest that this sender has sent of the writer.
  pub not-below : (latest v.writer (from k)).tag ≤ v.tag
  not-below = elim (dec_lt 0 (latest v.writer (from k)).tag) [
    | yes d ↦ let (x, m, p, q, e) = newest-value v.writer (highest (from k)) (from k) d in rw e (a.rise x m p)
    | no d ↦ omega arith
  ]

  -- A new one does not come while the latest of its writer is above maxtag.
  pub not-ahead : (latest v.writer all).tag < v.tag → (latest v.writer all).tag ≤ maxtag
  not-ahead h = elim (dec_lt 0 (latest v.writer all).tag) [
    | yes d ↦ let (x, m, p, q, e) = newest-value v.writer (highest all) all d in
        rw e (a.low x m p (omega (arith, ap (λ z. z.tag) e)))
    | no d ↦ omega arith
  ]

  -- What was heard of its writer from this sender is then its tag.
  pub heard-then : (latest v.writer (v ∷ from k)).tag ≡ v.tag
  heard-then =
      let above : v.tag ≤ (latest v.writer (v ∷ from k)).tag = latest-above v.writer (Memᴰ.head refl) refl in
      let (x, m, p, q, e) = newest-value v.writer (highest (v ∷ from k)) (v ∷ from k) (omega (arith, a.tagged)) in
      omega (arith, below x m p, ap (λ z. z.tag) e)
    where
      below : (x : Value) → x ∈ (v ∷ from k) → x.writer ≡ v.writer → x.tag ≤ v.tag
      below x (Memᴰ.head d) p = omega (arith, ap (λ z. z.tag) d)
      below x (Memᴰ.tail m) p = a.rise x m p

  module _ (new : ¬ (v ∈ all)) where
    pub above-known : (u : Value) → u ∈ all → u.writer ≡ v.writer → u.tag < v.tag
    above-known u m e = elim (dec_lt u.tag v.tag) [
      | yes h ↦ h
      | no h ↦ absurd (new (a.seen u m (sym e, omega arith)))
    ]

    -- A new value is the latest of its writer.
    pub last_then : latest v.writer (v ∷ all) ≡ entry v
    last_then = latest-then v.writer all v refl a.tagged above-known

    -- It is the newest up to each tag that it is not above.
    pub held_then : (t : ℕ)
        → newest v.writer t (v ∷ all) ≡ ite (dec_le v.tag t) (entry v) (newest v.writer t all)
    held_then t = go (dec_le v.tag t)
      where
        go : (d : Dec (v.tag ≤ t)) → newest v.writer t (v ∷ all) ≡ ite d (entry v) (newest v.writer t all)
        go (yes h) = newest-then v.writer all v refl a.tagged above-known t h
        go (no h) = newest-beyond v.writer t all v (omega arith)
