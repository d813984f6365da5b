-- The definition of an update's tag against document 01's words: the tag among those let out from the begin to the
-- ending that is above all let out before. A tag that is not 0 is such a one. Where one number only is such a one, it
-- is the tag. In a trace of which the facts are kept there is at most one.
use Prim.Native.Nat.{ℕ, zero, suc, ◌≤◌, ◌<◌}
use native.Mathlib.Decide.{dec_lt}
use native.Mathlib.Omega.{arith}
use mathlib.Core.Path.{◌≡◌, refl, sym, ◌∙◌, ap, subst}
use mathlib.Core.List.Memᴰ
use mathlib.Core.List.{List, [], ◌∷◌}
use lib.ListN.{take}
use Rattle.logs.specs.Log.{◌∈◌}
use Rattle.history.specs.Trace.{Trace, updating, begun, Fate, ended, fate_at, fate_of, fate, up_to_end, own_tags}
use Rattle.history.specs.Trace.{largest}
use Rattle.history.specs.Trace.{tag_at, unfinished}
use Rattle.history.specs.Order.{EndedBefore}
use Rattle.history.specs.Tags.{IsTag, TagsAsWorded}
use Rattle.eqaso.proofs.Book.{tag_of, book_of, At}
use Rattle.eqaso.proofs.Tags.{largest-above, first_fits, first-none}
use Rattle.eqaso.proofs.Rows.{own-take, own-drop, own-span}
use Rattle.eqaso.proofs.Kept.{Kept}

-- The largest number is one of them, unless it is 0.
largest-in : (l : List ℕ) → 0 < largest l → largest l ∈ l
unfolding largest
largest-in [] pos = absurd (omega arith)
largest-in (t ∷ l) pos = go (dec_lt t (largest l)) (largest-in l)
  where
    go : Dec (t < largest l) → (0 < largest l → largest l ∈ l) → largest (t ∷ l) ∈ (t ∷ l)
    go (yes lt) rest =
        let e : largest l ≡ largest (t ∷ l) = omega arith in
        Memᴰ.tail (subst (λ x. x ∈ l) e (rest (omega arith)))
    go (no ge) rest =
        let e : largest (t ∷ l) ≡ t = omega arith in
        Memᴰ.head e

module _ (tr : Trace) (t c : ℕ) where
  abbrev old : List ℕ
  old = own_tags c (take t tr)

  abbrev new : List ℕ
  new = own_tags c (up_to_end t (fate_at tr t c) tr)

  pub tag_fits : 0 < tag_at tr t c → IsTag tr t c (tag_at tr t c)
  tag_fits pos = let (i, lt) = first_fits (largest old) new pos in
      record { sent = i; above = λ x m. omega (arith, lt, largest-above old m) }

  -- Where the tag is 0, no number above 0 fits the words.
  none-fits : tag_at tr t c ≡ 0 → (s : ℕ) → IsTag tr t c s → s ≡ 0
  none-fits bare s h = go (dec_lt 0 (largest old))
    where
      low : s ≤ largest old
      low = first-none (largest old) new bare s h.sent

      go : Dec (0 < largest old) → s ≡ 0
      go (yes pos) = absurd (omega (arith, low, h.above (largest old) (largest-in old pos)))
      go (no none) = omega (arith, low)

  pub tag-alone : (s : ℕ) → IsTag tr t c s → ((x : ℕ) → IsTag tr t c x → x ≡ s) → tag_at tr t c ≡ s
  tag-alone s h only = elim (dec_lt 0 (tag_at tr t c)) [
    | yes pos ↦ only (tag_at tr t c) (tag_fits pos)
    | no bare ↦ (let zero : tag_at tr t c ≡ 0 = omega arith in zero ∙ sym (none-fits zero s h))
  ]

  pub tag-absent : ((s : ℕ) → ¬ IsTag tr t c s) → tag_at tr t c ≡ 0
  tag-absent h = elim (dec_lt 0 (tag_at tr t c)) [ yes pos ↦ absurd (h _ (tag_fits pos)) | no bare ↦ omega arith ]

take-take : {A : Type 0} (m j : ℕ) (l : List A) → m ≤ j → take m (take j l) ≡ take m l
take-take zero j l le = refl
take-take (suc m) zero l le = absurd (omega arith)
take-take (suc m) (suc j) [] le = refl
take-take {A} (suc m) (suc j) (x ∷ l) le = ap {B = List A} (λ r. x ∷ r) (take-take m j l (omega arith))

-- What was let out up to an ending before j was let out before j.
span-before : (tr : Trace) (c t j : ℕ) (y : Fate) {x : ℕ} → EndedBefore y j → x ∈ own_tags c (up_to_end t y tr)
    → x ∈ own_tags c (take j tr)
span-before tr c t j unfinished lt m = elim lt [ ]
span-before tr c t j (ended k e) {x} lt m = own-take c (suc k) (take j tr)
    (subst (λ l. x ∈ own_tags c l) (sym (take-take (suc k) j tr lt)) (own-drop c t (take (suc k) tr) m))

-- Only one number fits the words: the tag.
pub only-tag : {n : ℕ} {tr : Trace} → Kept n tr → (t c p s : ℕ) → begun tr t ≡ updating c p → IsTag tr t c s
    → s ≡ tag_at tr t c
unfolding book_of
only-tag {n} {tr} k t c p s is h =
    let (u, q, was, pos, tag) = k.listed c s (own-span c t (fate_at tr t c) tr h.sent) in
    go u q was pos tag (dec_lt u t) (dec_lt t u)
  where
    at : (j q : ℕ) → begun tr j ≡ updating c q → At (begun tr j) c
    at j q e = subst (λ b. At b c) (sym e) refl

    ends : (j q i : ℕ) → begun tr j ≡ updating c q → EndedBefore (fate tr j) i → EndedBefore (fate_at tr j c) i
    ends j q i e = subst (λ b. EndedBefore (fate_of tr j b) i) e

    go : (u q : ℕ) → begun tr u ≡ updating c q → 0 < tag_of tr u (begun tr u) → tag_of tr u (begun tr u) ≡ s
        → Dec (u < t) → Dec (t < u) → s ≡ tag_at tr t c
    go u q was pos tag (yes lt) d =
        let same : tag_of tr u (begun tr u) ≡ tag_at tr u c = ap (tag_of tr u) was in
        let before = ends u q t was (k.facts.apart u t c (at u q was) (at t p is) lt) in
        let out = span-before tr c u t (fate_at tr u c) before (tag_fits tr u c (omega arith)).sent in
        absurd (omega (arith, h.above (tag_at tr u c) out))
    go u q was pos tag (no h1) (yes lt) =
        let same : tag_of tr u (begun tr u) ≡ tag_at tr u c = ap (tag_of tr u) was in
        let before = ends t p u is (k.facts.apart t u c (at t p is) (at u q was) lt) in
        let out = span-before tr c t u (fate_at tr t c) before h.sent in
        absurd (omega (arith, (tag_fits tr u c (omega arith)).above s out))
    go u q was pos tag (no h1) (no h2) =
        let e : u ≡ t = omega arith in
        sym tag ∙ ap (tag_of tr u) was ∙ ap (λ j. tag_at tr j c) e

-- The tags of a node rise from one of its updates to the next.
tags-rise : {n : ℕ} {tr : Trace} → Kept n tr → (t u c p q : ℕ) → begun tr t ≡ updating c p → begun tr u ≡ updating c q
    → t < u → 0 < tag_at tr u c → tag_at tr t c < tag_at tr u c
unfolding book_of
tags-rise {n} {tr} k t u c p q is was lt pos =
    let at : (j r : ℕ) → begun tr j ≡ updating c r → At (begun tr j) c = λ j r e. subst (λ b. At b c) (sym e) refl in
    let before = k.facts.apart t u c (at t p is) (at u q was) lt in
    let old : tag_of tr t (begun tr t) ≡ tag_at tr t c = ap (tag_of tr t) is in
    let new : tag_of tr u (begun tr u) ≡ tag_at tr u c = ap (tag_of tr u) was in
    omega (arith, k.facts.rises t u c c p q is was before (omega arith))

pub as-worded : {n : ℕ} {tr : Trace} → Kept n tr → TagsAsWorded tr
as-worded {n} {tr} k = record { only = only-tag k; fits = tag_fits tr; none = tag-absent tr; rise = tags-rise k }
