-- What a node has written last along a line, told from the last update of that node in it.
use Prim.Native.Nat.{ℕ, ◌<◌}
use native.Mathlib.Decide.{ℕ_discrete}
use mathlib.Core.Path.{◌≡◌, refl, sym, ◌∙◌, ap, subst}
use mathlib.Core.Bool.{cond, decide}
use mathlib.Core.List.Memᴰ
use mathlib.Core.List.{List, [], ◌∷◌}
use Rattle.logs.specs.Log.{◌∈◌}
use Rattle.order.specs.Sequence.{None, Last, here, later}
use Rattle.history.specs.Message.{Entry}
use Rattle.history.specs.Trace.{Trace, Begun, nothing, updating, scanning, begun, tag_at, writes_by}
use Rattle.history.specs.Order.{written}

-- The operation at t is an update of node w.
abbrev pub UpdateOf : Trace → ℕ → ℕ → Type 0
UpdateOf tr w t = (p : ℕ) × (begun tr t ≡ updating w p)

module _ (tr : Trace) (w : ℕ) where
  other-writes : (t : ℕ) (b : Begun) (old : Entry) → ¬ ((p : ℕ) × (b ≡ updating w p)) → writes_by tr t w b old ≡ old
  unfolding decide
  other-writes t nothing old h = refl
  other-writes t (scanning c) old h = refl
  other-writes t (updating c p) old h = go (ℕ_discrete c w)
    where
      go : (d : Dec (c ≡ w)) → cond (decide d) (record { tag = tag_at tr t c; report = p }) old ≡ old
      go (yes e) = absurd (h (p, ap (λ a. updating a p) e))
      go (no e) = refl

  own-writes : (t p : ℕ) (old : Entry) → writes_by tr t w (updating w p) old
      ≡ record { tag = tag_at tr t w; report = p }
  unfolding decide
  own-writes t p old = go (ℕ_discrete w w)
    where
      go : (d : Dec (w ≡ w)) → cond (decide d) (record { tag = tag_at tr t w; report = p }) old
          ≡ record { tag = tag_at tr t w; report = p }
      go (yes e) = refl
      go (no e) = absurd (e refl)

  pub written_none : (l : List ℕ) (old : Entry) → None (UpdateOf tr w) l → written tr w l old ≡ old
  unfolding written
  written_none [] old h = refl
  written_none (t ∷ l) old h =
      written_none l (writes_by tr t w (begun tr t) old) (λ x i. h x (Memᴰ.tail i))
      ∙ other-writes t (begun tr t) old (h t (Memᴰ.head refl))

  pub written_last : {u : ℕ} (p : ℕ) → begun tr u ≡ updating w p → (l : List ℕ) (old : Entry) → Last (UpdateOf tr w) u l
      → written tr w l old ≡ record { tag = tag_at tr u w; report = p }
  unfolding written
  written_last p is [] old h = elim h [ ]
  written_last p is (t ∷ l) old (later m) = written_last p is l (writes_by tr t w (begun tr t) old) m
  written_last {u} p is (t ∷ l) old (here e q rest) =
      written_none l (writes_by tr t w (begun tr t) old) rest
      ∙ ap (λ b. writes_by tr t w b old) (subst (λ x. begun tr x ≡ updating w p) (sym e) is)
      ∙ own-writes t p old ∙ ap (λ x. record { tag = tag_at tr x w; report = p }) e

-- Whoever has written something has written it last, or something later.
module _ (tr : Trace) (w : ℕ) (tagged : (u p : ℕ) → begun tr u ≡ updating w p → 0 < tag_at tr u w) where
  writes-some : (t : ℕ) (b : Begun) (old : Entry) → begun tr t ≡ b → 0 < old.tag → 0 < (writes_by tr t w b old).tag
  unfolding decide
  writes-some t nothing old e h = h
  writes-some t (scanning c) old e h = h
  writes-some t (updating c p) old e h = go (ℕ_discrete c w)
    where
      go : (d : Dec (c ≡ w)) → 0 < (cond (decide d) (record { tag = tag_at tr t c; report = p }) old).tag
      go (yes is) = subst (λ a. 0 < tag_at tr t a) (sym is) (tagged t p (e ∙ ap (λ a. updating a p) is))
      go (no is) = h

  written-some : (l : List ℕ) (old : Entry) → 0 < old.tag → 0 < (written tr w l old).tag
  unfolding written
  written-some [] old h = h
  written-some (t ∷ l) old h =
      written-some l (writes_by tr t w (begun tr t) old) (writes-some t (begun tr t) old refl h)

  update-writes : (t p : ℕ) (old : Entry) → begun tr t ≡ updating w p → 0 < (writes_by tr t w (begun tr t) old).tag
  unfolding decide
  update-writes t p old e = subst (λ b. 0 < (writes_by tr t w b old).tag) (sym e) (go (ℕ_discrete w w))
    where
      go : (d : Dec (w ≡ w)) → 0 < (cond (decide d) (record { tag = tag_at tr t w; report = p }) old).tag
      go (yes is) = tagged t p e
      go (no is) = absurd (is refl)

  pub update-written : {u : ℕ} (p : ℕ) → begun tr u ≡ updating w p → (l : List ℕ) (old : Entry) → u ∈ l
      → 0 < (written tr w l old).tag
  unfolding written
  update-written p e [] old h = elim h [ ]
  update-written p e (t ∷ l) old (Memᴰ.head h) = written-some l (writes_by tr t w (begun tr t) old)
      (update-writes t p old (subst (λ x. begun tr x ≡ updating w p) h e))
  update-written p e (t ∷ l) old (Memᴰ.tail i) = update-written p e l (writes_by tr t w (begun tr t) old) i
