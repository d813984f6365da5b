-- The rows of a book, one for each index, and which of them an entry leaves alone.
use Prim.Native.Nat.{ℕ, suc, ◌≤◌, ◌<◌}
use native.Mathlib.Decide.{dec_lt}
use native.Mathlib.Omega.{arith}
use mathlib.Core.Path.{◌≡◌, refl, sym, ◌∙◌, ap, subst}
use mathlib.Core.Logic.{◌⊎◌, ⊎_elim}
use mathlib.Core.List.Memᴰ
use mathlib.Core.List.{[], ◌∷◌, ◌++◌}
use lib.ListN.{length, take, drop, take-append-drop}
use Rattle.logs.specs.Log.{◌∈◌}
use Rattle.history.specs.Event.{none}
use Rattle.history.specs.Trace.{Seen, Trace, Begun, nothing, updating, scanning, begun, ending_at, Fate, unfinished}
use Rattle.history.specs.Trace.{ended, fate_by, fate_at, fate_of, up_to_end, own_tags, largest, tag_at}
use Rattle.eqaso.proofs.Book.{Book, tag_of, book_of, At}
use Rattle.eqaso.proofs.Tags.{largest-above, first_fits, first-none, first-low, first-keeps, first_next}
use Rattle.eqaso.proofs.Append.{or_else, own-append}
use Rattle.eqaso.proofs.Extend.{own_at, fate-old, still-ended, tag-ended, tag_open}

-- x is the tag of an update of node c that stands in the book.
abbrev pub Listed : Book → ℕ → ℕ → Type 0
Listed B c x = (u : ℕ) × (p : ℕ) × (B.begun u ≡ updating c p) × (0 < B.tag u) × (B.tag u ≡ x)

abbrev pub Row : Type 0
Row = Begun × Fate × ℕ

abbrev pub row_in : Book → ℕ → Row
row_in B t = (B.begun t, B.fate t, B.tag t)

abbrev pub row_of : Trace → ℕ → Begun → Row
row_of tr t b = (b, fate_of tr t b, tag_of tr t b)

pub row_by : (tr : Trace) (t : ℕ) (b : Begun) → begun tr t ≡ b → row_in (book_of tr) t ≡ row_of tr t b
unfolding book_of
row_by tr t b e = ap (row_of tr t) e

pub book-by : (A B : Book) → ((t : ℕ) → row_in A t ≡ row_in B t) → A ≡ B
book-by A B h = λ i. record { begun = λ t. (h t i).0; fate = λ t. (h t i).1; tag = λ t. (h t i).2 }

-- A part of a trace has only tags of the whole.
own-parts : (c t : ℕ) (tr : Trace) → own_tags c (take t tr) ++ own_tags c (drop t tr) ≡ own_tags c tr
own-parts c t tr = sym (own-append c (take t tr) (drop t tr)) ∙ ap (own_tags c) (take-append-drop t tr)

pub own-take : (c t : ℕ) (tr : Trace) {x : ℕ} → x ∈ own_tags c (take t tr) → x ∈ own_tags c tr
own-take c t tr {x} m = subst (λ l. x ∈ l) (own-parts c t tr) (Memᴰ.append_left (own_tags c (drop t tr)) m)

pub own-drop : (c t : ℕ) (tr : Trace) {x : ℕ} → x ∈ own_tags c (drop t tr) → x ∈ own_tags c tr
own-drop c t tr {x} m = subst (λ l. x ∈ l) (own-parts c t tr) (Memᴰ.append_right (own_tags c (take t tr)) m)

pub own_split : (c t : ℕ) (tr : Trace) {x : ℕ} → x ∈ own_tags c tr
    → (x ∈ own_tags c (take t tr)) ⊎ (x ∈ own_tags c (drop t tr))
own_split c t tr {x} m = Memᴰ.append_cases (own_tags c (take t tr))
    (subst (λ l. x ∈ l) (sym (own-parts c t tr)) m)

pub own-span : (c t : ℕ) (y : Fate) (tr : Trace) {x : ℕ} → x ∈ own_tags c (up_to_end t y tr) → x ∈ own_tags c tr
own-span c t unfinished tr m = own-drop c t tr m
own-span c t (ended k e) tr m = own-take c (suc k) tr (own-drop c t (take (suc k) tr) m)

-- A tag in the book was let out.
pub listed-out : (tr : Trace) (c x : ℕ) → Listed (book_of tr) c x → x ∈ own_tags c tr
unfolding book_of
listed-out tr c x (u, p, e, pos, is) =
    let tag : tag_of tr u (begun tr u) ≡ tag_at tr u c = ap (tag_of tr u) e in
    subst (λ s. s ∈ own_tags c tr) (sym tag ∙ is)
    (own-span c u (fate_at tr u c) tr (first_fits (largest (own_tags c (take u tr)))
    (own_tags c (up_to_end u (fate_at tr u c) tr)) (omega arith)).0)

module _ (tr : Trace) (o : Seen) where
  abbrev next : Trace
  next = tr ++ (o ∷ [])

  -- Of its own tags node c lets out only such as stand in the book.
  abbrev pub Known : ℕ → Type 0
  Known c = (x : ℕ) → x ∈ own_at c o → Listed (book_of tr) c x

  or-unfinished : (x : Fate) → or_else x unfinished ≡ x
  or-unfinished unfinished = refl
  or-unfinished (ended k e) = refl

  pub fate-calm : (t c : ℕ) → t < length tr → ending_at c o ≡ none → fate_at next t c ≡ fate_at tr t c
  fate-calm t c lt e = fate-old tr o t c lt
      ∙ ap (λ x. or_else (fate_at tr t c) (fate_by (length tr) x unfinished)) e ∙ or-unfinished (fate_at tr t c)

  low-calm : (t c : ℕ) → fate_at tr t c ≡ unfinished → tag_at tr t c ≡ 0 → Known c → (x : ℕ) → x ∈ own_at c o
      → x ≤ largest (own_tags c (take t tr))
  low-calm t c is low told x m = ⊎_elim (largest-above (own_tags c (take t tr)))
      (λ i. first-none (largest (own_tags c (take t tr))) (own_tags c (up_to_end t (fate_at tr t c) tr)) low x
      (subst (λ y. x ∈ own_tags c (up_to_end t y tr)) (sym is) i))
      (own_split c t tr (listed-out tr c x (told x m)))

  pub tag-calm : (t c : ℕ) → t < length tr → Known c → tag_at next t c ≡ tag_at tr t c
  tag-calm t c lt calm = go (fate_at tr t c) refl (dec_lt 0 (tag_at tr t c))
    where
      go : (x : Fate) → fate_at tr t c ≡ x → Dec (0 < tag_at tr t c) → tag_at next t c ≡ tag_at tr t c
      go (ended k e) is d = tag-ended tr o t c k e lt is
      go unfinished is (yes pos) = tag_open tr o t c lt is
          ∙ first-keeps (largest (own_tags c (take t tr))) (own_tags c (up_to_end t (fate_at tr t c) tr))
          (own_at c o) pos
      go unfinished is (no h) =
          let low : tag_at tr t c ≡ 0 = omega arith in
          tag_open tr o t c lt is
          ∙ first_next (largest (own_tags c (take t tr))) (own_tags c (up_to_end t (fate_at tr t c) tr))
          (own_at c o) low
          ∙ first-low (largest (own_tags c (take t tr))) (own_at c o) (low-calm t c is low calm) ∙ sym low

  -- A row stays where the entry gives no ending at its node, and no new tag.
  pub row_calm : (t : ℕ) → t < length tr → (b : Begun) → ((c : ℕ) → At b c → (ending_at c o ≡ none) × Known c)
      → row_of next t b ≡ row_of tr t b
  row_calm t lt nothing h = refl
  row_calm t lt (updating c p) h =
      λ i. (updating c p, fate-calm t c lt (h c refl).0 i, tag-calm t c lt (h c refl).1 i)
  row_calm t lt (scanning c) h = λ i. (scanning c, fate-calm t c lt (h c refl).0 i, 0)

  -- The row of an operation that has ended stays in any case.
  pub row-ended : (t : ℕ) → t < length tr → (b : Begun) → ¬ (fate_of tr t b ≡ unfinished)
      → row_of next t b ≡ row_of tr t b
  row-ended t lt nothing h = refl
  row-ended t lt (updating c p) h = go (fate_at tr t c) refl
    where
      go : (x : Fate) → fate_at tr t c ≡ x → row_of next t (updating c p) ≡ row_of tr t (updating c p)
      go unfinished is = absurd (h is)
      go (ended k e) is =
          λ i. (updating c p, (still-ended tr o t c k e lt is ∙ sym is) i, tag-ended tr o t c k e lt is i)
  row-ended t lt (scanning c) h = go (fate_at tr t c) refl
    where
      go : (x : Fate) → fate_at tr t c ≡ x → row_of next t (scanning c) ≡ row_of tr t (scanning c)
      go unfinished is = absurd (h is)
      go (ended k e) is = λ i. (scanning c, (still-ended tr o t c k e lt is ∙ sym is) i, 0)
