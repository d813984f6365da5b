-- The facts of a book are kept when the open update of a node gets its tag. That it is above the tags of the node's
-- other updates, and above what any view has of the node, follows from what is owed.
use Prim.Native.Nat.{ℕ, ◌≤◌, ◌<◌}
use native.Mathlib.Decide.{dec_lt}
use native.Mathlib.Omega.{arith}
use mathlib.Core.Path.{◌≡◌, refl, sym, ◌∙◌, ap, subst, subst₂}
use mathlib.Core.Logic.{◌≢◌, inl, inr}
use Rattle.logs.specs.Update.{upd}
use Rattle.logs.proofs.Update.{upd_other, upd-all}
use Rattle.history.specs.Message.{Entry}
use Rattle.history.specs.Trace.{Begun, nothing, updating, scanning, entry_at}
use Rattle.history.specs.Order.{EndedBefore}
use Rattle.history.specs.Views.{HasView, end_view}
use Rattle.eqaso.proofs.Book.{Book, tags, At, OpenAt}
use Rattle.eqaso.proofs.Facts.{Place, Closed, Fit, Facts, TagDue}
use Rattle.eqaso.proofs.Keep.{not-ended, node-one}

abbrev node_of : Begun → ℕ
node_of nothing = 0
node_of (updating c p) = c
node_of (scanning c) = c

-- The open update at t of node c gets tag s.
module _ {n now : ℕ} {B : Book} (f : Facts n now B) {c t p s : ℕ} (o : OpenAt B c t) (is : B.begun t ≡ updating c p)
    (bare : B.tag t ≡ 0) (due : TagDue B t s) where
  tag_fits : Fit n (B.begun t) (B.fate t) s
  tag_fits = subst₂ (λ b x. Fit n b x s) (sym is) (sym o.unended)
      (subst₂ (λ b x. Fit n b x (B.tag t)) is o.unended (f.fit t))

  -- The new tag is above those of the node's other updates: they ended before this one began.
  pub above-own : (u q : ℕ) → B.begun u ≡ updating c q → B.tag u < s
  above-own u q e = go (dec_lt u t) (dec_lt t u)
    where
      at : At (B.begun u) c
      at = subst (λ b. At b c) (sym e) refl

      go : Dec (u < t) → Dec (t < u) → B.tag u < s
      go (yes lt) d = due.above u c q e (f.apart u t c at o.here lt)
      go (no h) (yes lt) = absurd (not-ended u o.unended (f.apart t u c o.here at lt))
      go (no h) (no g) = let e : u ≡ t = omega arith in omega (arith, ap B.tag e, due.positive)

  above_place : (e : Entry) → Place B c e → e.tag < s
  above_place e (inl h) = omega (arith, ap (λ x. x.tag) h, due.positive)
  above_place e (inr (u, q, h, pos, k)) = omega (arith, ap (λ x. x.tag) k, above-own u q h)

  pub above-views : (a : ℕ) → HasView (B.fate a) → (entry_at (end_view (B.fate a)) c).tag < s
  above-views a h = above_place _ (f.places a h c (node-one f o))

  tag-old : (u : ℕ) → u ≢ t → upd B.tag t s u ≡ B.tag u
  tag-old u ne = upd_other B.tag t s u ne

  place-tags : (w : ℕ) (e : Entry) → Place B w e → Place (tags t s B) w e
  place-tags w e (inl h) = inl h
  place-tags w e (inr (u, q, h, pos, k)) =
      let same = tag-old u λ e. omega (arith, bare, pos, ap B.tag e) in
      inr (u, q, h, rw same pos, rw same k)

  -- The update at t ended before nothing, so another one did.
  ended-other : (u x : ℕ) → EndedBefore (B.fate u) x → u ≢ t
  ended-other u x h e = not-ended x o.unended (subst (λ z. EndedBefore (B.fate z) x) e h)

  closed-tags : (a : ℕ) → HasView (B.fate a) → Closed (tags t s B) (end_view (B.fate a))
  closed-tags a h u x i j q r eu ex before = rw (tag-old u (ended-other u x before)) (upd-all
      (λ x y. B.begun x ≡ updating j r → EndedBefore (B.fate u) x → 0 < y → y ≤ (entry_at (end_view (B.fate a)) j).tag
      → B.tag u ≤ (entry_at (end_view (B.fate a)) i).tag)
      B.tag t s (λ x ne e. f.closed a h u x i j q r eu e)
      (λ e bef pos le. absurd (omega (
        arith,
        le,
        subst (λ k. (entry_at (end_view (B.fate a)) k).tag < s)
            (ap node_of (sym is ∙ e)) (above-views a h),
      )))
      x ex before)

  rises-tags : (u x i j q r : ℕ) → B.begun u ≡ updating i q → B.begun x ≡ updating j r
      → EndedBefore (B.fate u) x → 0 < upd B.tag t s x → upd B.tag t s u < upd B.tag t s x
  rises-tags u x i j q r eu ex before = rw (tag-old u (ended-other u x before)) (upd-all
      (λ x y. B.begun x ≡ updating j r → EndedBefore (B.fate u) x → 0 < y → B.tag u < y)
      B.tag t s (λ x ne e. f.rises u x i j q r eu e) (λ e bef pos. due.above u i q eu bef) x ex before)

  unseen-tags : (a u i q : ℕ) → B.begun u ≡ updating i q → EndedBefore (B.fate a) u → HasView (B.fate a)
      → 0 < upd B.tag t s u → (entry_at (end_view (B.fate a)) i).tag < upd B.tag t s u
  unseen-tags a u i q e before h = upd-all
      (λ u y. B.begun u ≡ updating i q → EndedBefore (B.fate a) u → 0 < y
      → (entry_at (end_view (B.fate a)) i).tag < y)
      B.tag t s (λ u ne k bef. f.unseen a u i q k bef h)
      (λ k bef pos. subst (λ j. (entry_at (end_view (B.fate a)) j).tag < s) (ap node_of (sym is ∙ k)) (above-views a h))
      u e before

  pub facts-tag : Facts n now (tags t s B)
  facts-tag = record {
    fit = upd-all (λ j x. Fit n (B.begun j) (B.fate j) x) B.tag t s (λ j ne. f.fit j) tag_fits;
    blank = f.blank;
    between = f.between;
    apart = f.apart;
    sized = f.sized;
    chain = f.chain;
    places = λ a h w one. place-tags w _ (f.places a h w one);
    closed = closed-tags;
    grows = f.grows;
    rises = rises-tags;
    unseen = unseen-tags;
  }
