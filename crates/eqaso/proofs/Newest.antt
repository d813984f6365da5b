-- The newest value of a writer in a list, up to a tag or of all: laws on lists alone.
use Prim.Native.Nat.{ℕ, ◌≤◌, ◌<◌}
use native.Mathlib.Omega.{arith}
use native.Mathlib.Decide.{ℕ_discrete, dec_le, dec_lt}
use mathlib.Core.Path.{◌≡◌, refl, sym, ◌∙◌, ap, subst}
use mathlib.Core.Logic.{◌⊎◌, inl, inr, ◌≢◌, ◌↔◌}
use mathlib.Core.Bool.{cond, decide, ◌&&◌}
use mathlib.Core.List.Memᴰ
use mathlib.Core.List.{List, [], ◌∷◌}
use Rattle.logs.specs.Log.{◌∈◌}
use Rattle.history.specs.Message.{Value, Entry, absent}
use Rattle.algorithm.specs.Node.{newest, highest, latest}

-- What a view has of a value.
abbrev pub entry : Value → Entry
entry v = record { tag = v.tag; report = v.report }

-- e is what the list has of writer w: nothing, or a value of w up to tag t.
abbrev pub From : ℕ → ℕ → List Value → Entry → Type 0
From w t l e = (e ≡ absent) ⊎ ((v : Value) × (v ∈ l) × (v.writer ≡ w) × (v.tag ≤ t) × (e ≡ entry v))

-- How newest decides on one value more.
abbrev pick : {P Q R : Type 0} → Dec P → Dec Q → Dec R → Entry → Entry → Entry
pick p q r new old = cond (decide p && decide q && decide r) new old

module _ (w t : ℕ) (l : List Value) (v : Value) where
  pub newest-new : v.writer ≡ w → v.tag ≤ t → (newest w t l).tag < v.tag → newest w t (v ∷ l) ≡ entry v
  unfolding newest decide
  newest-new e h a = go (ℕ_discrete v.writer w) (dec_le v.tag t) (dec_lt (newest w t l).tag v.tag)
    where
      go : (p : Dec (v.writer ≡ w)) (q : Dec (v.tag ≤ t)) (r : Dec ((newest w t l).tag < v.tag))
          → pick p q r (entry v) (newest w t l) ≡ entry v
      go (yes p) (yes q) (yes r) = refl
      go (yes p) (yes q) (no r) = absurd (r a)
      go (yes p) (no q) r = absurd (q h)
      go (no p) q r = absurd (p e)

  pub newest-old : (v.writer ≡ w → v.tag ≤ t → v.tag ≤ (newest w t l).tag) → newest w t (v ∷ l) ≡ newest w t l
  unfolding newest decide
  newest-old h = go (ℕ_discrete v.writer w) (dec_le v.tag t) (dec_lt (newest w t l).tag v.tag)
    where
      go : (p : Dec (v.writer ≡ w)) (q : Dec (v.tag ≤ t)) (r : Dec ((newest w t l).tag < v.tag))
          → pick p q r (entry v) (newest w t l) ≡ newest w t l
      go (yes p) (yes q) (yes r) = absurd (omega (arith, h p q))
      go (yes p) (yes q) (no r) = refl
      go (yes p) (no q) r = refl
      go (no p) q r = refl

  pub newest-other : v.writer ≢ w → newest w t (v ∷ l) ≡ newest w t l
  newest-other ne = newest-old (λ e h. absurd (ne e))

  pub newest-beyond : t < v.tag → newest w t (v ∷ l) ≡ newest w t l
  newest-beyond h = newest-old (λ e d. absurd (omega arith))

  abbrev Taken : Type 0
  Taken = (newest w t (v ∷ l) ≡ entry v) × (v.writer ≡ w) × (v.tag ≤ t) × ((newest w t l).tag < v.tag)

  abbrev Left : Type 0
  Left = (newest w t (v ∷ l) ≡ newest w t l) × (v.writer ≡ w → v.tag ≤ t → v.tag ≤ (newest w t l).tag)

  -- One value more is the newest, or leaves the newest as it is.
  newest-cases : Taken ⊎ Left
  newest-cases = go (ℕ_discrete v.writer w) (dec_le v.tag t) (dec_lt (newest w t l).tag v.tag)
    where
      stays : (v.writer ≡ w → v.tag ≤ t → v.tag ≤ (newest w t l).tag) → Taken ⊎ Left
      stays h = inr (newest-old h, h)

      go : Dec (v.writer ≡ w) → Dec (v.tag ≤ t) → Dec ((newest w t l).tag < v.tag) → Taken ⊎ Left
      go (yes p) (yes q) (yes r) = inl (newest-new p q r, p, q, r)
      go (yes p) (yes q) (no r) = stays (λ e h. omega arith)
      go (yes p) (no q) r = stays (λ e h. absurd (q h))
      go (no p) q r = stays (λ e h. absurd (p e))

-- It is nothing, or one of the list.
pub newest-from : (w t : ℕ) (l : List Value) → From w t l (newest w t l)
unfolding newest
newest-from w t [] = inl refl
newest-from w t (v ∷ l) = go (newest-cases w t l v) (newest-from w t l)
  where
    go : Taken w t l v ⊎ Left w t l v → From w t l (newest w t l) → From w t (v ∷ l) (newest w t (v ∷ l))
    go (inl (e, p, q, r)) ih = inr (v, Memᴰ.head refl, p, q, e)
    go (inr (e, h)) (inl z) = inl (e ∙ z)
    go (inr (e, h)) (inr (x, m, p, q, z)) = inr (x, Memᴰ.tail m, p, q, e ∙ z)

-- One of the list, if its tag is not 0.
pub newest-value : (w t : ℕ) (l : List Value) → 0 < (newest w t l).tag
    → (v : Value) × (v ∈ l) × (v.writer ≡ w) × (v.tag ≤ t) × (newest w t l ≡ entry v)
newest-value w t l h = elim (newest-from w t l) [ inl e ↦ absurd (omega (arith, ap (λ z. z.tag) e)) | inr x ↦ x ]

-- No value of the writer up to the tag is above it.
pub newest-above : (w t : ℕ) {l : List Value} {v : Value} → v ∈ l → v.writer ≡ w → v.tag ≤ t
    → v.tag ≤ (newest w t l).tag
newest-above w t {v} m e h = go m
  where
    go : {l : List Value} → v ∈ l → v.tag ≤ (newest w t l).tag
    go (Memᴰ.head {x} {xs} d) = here (newest-cases w t xs x)
      where
        here : Taken w t xs x ⊎ Left w t xs x → v.tag ≤ (newest w t (x ∷ xs)).tag
        here (inl (z, p, q, r)) = rw z (rw d (omega arith))
        here (inr (z, b)) = rw z (rw d (b (rw (← d) e) (rw (← d) h)))
    go (Memᴰ.tail {x} {xs} m) = further (newest-cases w t xs x) (go m)
      where
        further : Taken w t xs x ⊎ Left w t xs x → v.tag ≤ (newest w t xs).tag → v.tag ≤ (newest w t (x ∷ xs)).tag
        further (inl (z, p, q, r)) ih = rw z (omega arith)
        further (inr (z, b)) ih = rw z ih

-- What lists have of a writer in common up to two tags, they show in common.
pub newest-same : (w t u : ℕ) (l : List Value) → ((v : Value) → v ∈ l → v.writer ≡ w → (v.tag ≤ t) ↔ (v.tag ≤ u))
    → newest w t l ≡ newest w u l
unfolding newest
newest-same w t u [] h = refl
newest-same w t u (x ∷ l) h = go (newest-cases w t l x) (newest-same w t u l (λ v m. h v (Memᴰ.tail m)))
  where
    go : Taken w t l x ⊎ Left w t l x → newest w t l ≡ newest w u l → newest w t (x ∷ l) ≡ newest w u (x ∷ l)
    go (inl (e, p, q, r)) ih =
        e ∙ sym (newest-new w u l x p ((h x (Memᴰ.head refl) p).0 q) (subst (λ z. z.tag < x.tag) ih r))
    go (inr (e, b)) ih = e ∙ ih ∙ sym (newest-old w u l x
        (λ p q. subst (λ z. x.tag ≤ z.tag) ih (b p ((h x (Memᴰ.head refl) p).1 q))))

pub highest-above : {l : List Value} {v : Value} → v ∈ l → v.tag ≤ highest l
unfolding highest
highest-above {v} m = go m
  where
    go : {l : List Value} → v ∈ l → v.tag ≤ highest l
    go (Memᴰ.head d) = rw d (omega arith)
    go (Memᴰ.tail m) = let h = go m in omega arith

pub latest-above : (w : ℕ) {l : List Value} {v : Value} → v ∈ l → v.writer ≡ w → v.tag ≤ (latest w l).tag
latest-above w m e = newest-above w _ m e (highest-above m)

-- It is the newest up to a tag that it is not above.
pub newest-latest : (w t : ℕ) (l : List Value) → (latest w l).tag ≤ t → newest w t l ≡ latest w l
newest-latest w t l h = newest-same w t (highest l) l
    (λ v m e. (λ q. highest-above m, λ q. omega (arith, latest-above w m e)))

-- A value above all of its writer is the latest, and the newest up to every tag that it is not above.
module _ (w : ℕ) (l : List Value) (v : Value) (e : v.writer ≡ w) (positive : 0 < v.tag)
    (above : (u : Value) → u ∈ l → u.writer ≡ w → u.tag < v.tag) where
  pub newest-then : (t : ℕ) → v.tag ≤ t → newest w t (v ∷ l) ≡ entry v
  newest-then t h = newest-new w t l v e h (elim (dec_lt 0 (newest w t l).tag) [
    | yes d ↦ let (x, m, p, q, z) = newest-value w t l d in rw z (above x m p)
    | no d ↦ omega arith
  ])

  pub latest-then : latest w (v ∷ l) ≡ entry v
  latest-then = newest-then (highest (v ∷ l)) (highest-above (Memᴰ.head refl))

pub latest-other : (w : ℕ) (l : List Value) (v : Value) → v.writer ≢ w → latest w (v ∷ l) ≡ latest w l
latest-other w l v ne = newest-other w (highest (v ∷ l)) l v ne
    ∙ newest-same w (highest (v ∷ l)) (highest l) l
    (λ u m e. (λ q. highest-above m, λ q. highest-above (Memᴰ.tail m)))
