-- One single order of a trace, from the facts of its book.
use Prim.Native.Nat.{ℕ, ◌≤◌, ◌<◌}
use native.Mathlib.Decide.{ℕ_discrete, dec_lt}
use native.Mathlib.Omega.{arith}
use mathlib.Core.Path.{◌≡◌, refl, sym, ◌∙◌, ap, subst}
use mathlib.Core.Logic.{◌⊎◌, inl, inr}
use lib.ListN.{length}
use Rattle.logs.specs.Log.{◌∈◌}
use Rattle.order.specs.Sequence.{before}
use Rattle.order.specs.Line.{update, scan, Line}
use Rattle.order.proofs.Line.{line, latest}
use Rattle.history.specs.Message.{absent}
use Rattle.history.specs.Event.{none, done, shown, spent}
use Rattle.history.specs.Trace.{Trace, Begun, nothing, updating, scanning, begun, Fate, unfinished, ended, fate, tag_at}
use Rattle.history.specs.Trace.{entry_at}
use Rattle.history.specs.Order.{IsScan, Shows, EndsInKind, PlacedBy, Placed, written, SingleOrder}
use Rattle.history.specs.Views.{HasView, end_view}
use Rattle.history.proofs.Written.{UpdateOf, written_none, written_last}
use Rattle.eqaso.proofs.Book.{tag_of, plain, book_of, At}
use Rattle.eqaso.proofs.Facts.{Fit, Facts, Place}
use Rattle.eqaso.proofs.Items.{kind_of, view, tag, Scan, update-at, scan-at, all, placed_of, all_of, holds-to}
use Rattle.eqaso.proofs.Items.{holds_of, items, Precedes, sound}
use Rattle.eqaso.proofs.Kept.{Kept}

scan-kind : (b : Begun) → IsScan b → kind_of b ≡ scan
scan-kind (updating node report) h = elim h [ ]
scan-kind nothing h = elim h [ ]
scan-kind (scanning c) h = refl

ends-in-kind : (n : ℕ) (b : Begun) (x : Fate) (s : ℕ) → Fit n b x s → (HasView x → length (end_view x) ≡ n)
    → EndsInKind n b x
ends-in-kind n nothing x s fit sized = tt
ends-in-kind n (updating c p) unfinished s fit sized = tt
ends-in-kind n (updating c p) (ended k (done r v)) s fit sized = sized tt
ends-in-kind n (updating c p) (ended k spent) s fit sized = tt
ends-in-kind n (scanning c) unfinished s fit sized = tt
ends-in-kind n (scanning c) (ended k (shown r v)) s fit sized = sized tt
ends-in-kind n _ _ s fit sized = elim fit [ ]

module _ (n : ℕ) (tr : Trace) (F : Facts n (length tr) (plain tr)) where
  -- An update with a tag that a scan shows has a place.
  shown-placed : (x : Fate) (u w p s : ℕ) → Fit n (updating w p) x (tag_at tr u w) → Shows tr s w (tag_at tr u w) p
      → PlacedBy tr u (updating w p) x
  shown-placed unfinished u w p s f h = (s, h)
  shown-placed (ended k (shown _ _)) u w p s f h = elim f [ ]
  shown-placed (ended k none) u w p s f h = elim f [ ]
  shown-placed (ended k (done r v)) u w p s f h = tt
  shown-placed (ended k spent) u w p s f h = absurd (omega (arith, f.1, h.tagged))

  abbrev order : Line (items n tr F) (Precedes n tr F)
  order = line (items n tr F) (Precedes n tr F) (sound n tr F)

  update-kind : (w t : ℕ) → UpdateOf tr w t → kind_of (begun tr t) ≡ update
  update-kind w t (p, e) = ap kind_of e

  -- Of two updates of a node the one with the larger tag began later.
  latest-of : (w v u q p : ℕ) → begun tr v ≡ updating w q → begun tr u ≡ updating w p → 0 < tag n tr F v
      → tag n tr F v ≤ tag n tr F u → (v ≡ u) ⊎ Precedes n tr F v u
  latest-of w v u q p was is pos le = go (dec_lt v u) (dec_lt u v)
    where
      at : (t r : ℕ) → begun tr t ≡ updating w r → At (begun tr t) w
      at t r h = subst (λ b. At b w) (sym h) refl

      go : Dec (v < u) → Dec (u < v) → (v ≡ u) ⊎ Precedes n tr F v u
      go (yes lt) d = inr (F.apart v u w (at v q was) (at u p is) lt)
      go (no h) (yes lt) = absurd
          (omega (arith, F.rises u v w w p q is was (F.apart u v w (at u p is) (at v q was) lt) pos))
      go (no h) (no g) = inl (omega arith)

  legal-by : (s : ℕ) → s ∈ all n tr F → (S : Scan n tr F s) → kind_of (begun tr s) ≡ scan → (w : ℕ)
      → Place (plain tr) w (entry_at (view n tr F s) w)
      → entry_at (view n tr F s) w ≡ written tr w (before ℕ_discrete s order.line) absent
  legal-by s i S k w (inl e) = e ∙ sym (written_none tr w (before ℕ_discrete s order.line) absent
      ((latest order).none (UpdateOf tr w) (update-kind w) s i k λ v m (q, is) h.
      let x = update-at n tr F v (placed_of n tr F v m) (update-kind w v (q, is)) in
      omega (arith, x.tagged, holds_of n tr F s v w q is h, ap (λ a. a.tag) e)))
  legal-by s i S k w (inr (u, p, is, pos, e)) =
      let same : tag n tr F u ≡ tag_at tr u w = ap (tag_of tr u) is in
      let entry : entry_at (view n tr F s) w ≡ record { tag = tag_at tr u w; report = p }
      = e ∙ ap (λ t. record { tag = t; report = p }) same in
      let shows : Shows tr s w (tag_at tr u w) p = record {
        scan = S.is;
        finished = S.finished;
        tagged = omega arith;
        entry = ap (λ v. entry_at v w) (sym S.same) ∙ entry;
      } in
      let placed : Placed tr u = subst (λ b. PlacedBy tr u b (fate tr u)) (sym is)
      (shown-placed (fate tr u) u w p s
      (subst (λ b. Fit n b (fate tr u) (tag_of tr u b)) is (F.fit u)) shows) in
      let top : (entry_at (view n tr F s) w).tag ≡ tag n tr F u = ap (λ a. a.tag) e in
      entry ∙ sym (written_last tr w p is (before ℕ_discrete s order.line) absent
      ((latest order).last (UpdateOf tr w) (update-kind w) s u i (all_of n tr F u placed) k (p, is)
      (holds-to n tr F s u w p is (omega arith))
      λ v m (q, was) h.
      let x = update-at n tr F v (placed_of n tr F v m) (update-kind w v (q, was)) in
      latest-of w v u q p was is x.tagged (omega (arith, holds_of n tr F s v w q was h))))

  single : SingleOrder n tr
  single = record {
    kinds = λ t. ends-in-kind n (begun tr t) (fate tr t) (tag n tr F t) (F.fit t) (F.sized t);
    line = order.line;
    once = order.once;
    members = λ t. (λ i. placed_of n tr F t ((order.whole t).0 i), λ h. (order.whole t).1 (all_of n tr F t h));
    tagged = λ t c p i is.
        let x = update-at n tr F t (placed_of n tr F t ((order.whole t).0 i)) (update-kind c t (p, is)) in
        subst (λ s. 0 < s) (ap (tag_of tr t) is) x.tagged;
    legal = λ s i is w one.
        let k = scan-kind (begun tr s) is in
        let j = (order.whole s).0 i in
        let S = scan-at n tr F s (placed_of n tr F s j) k in
        ap (λ v. entry_at v w) (sym S.same) ∙ legal-by s j S k w (F.places s S.viewed w one);
    timely = λ a b i j h. order.kept a b ((order.whole a).0 i) ((order.whole b).0 j) h;
  }

-- The trace of which all this is kept has one single order.
pub single-order : {n : ℕ} {tr : Trace} → Kept n tr → SingleOrder n tr
unfolding book_of
single-order {n} {tr} k = single n tr k.facts
