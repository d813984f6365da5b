-- Traces that one clause on the line alone rules out: that each operation stands in it once, that only those with a
-- place do, that updates in it have a tag, and that scans show what stands before them.
use Prim.Native.Nat.{ℕ, zero, suc, ◌<◌}
use native.Mathlib.Decide.{ℕ_discrete, dec_lt}
use native.Mathlib.Omega.{arith}
use mathlib.Core.Path.{◌≡◌, refl, sym, ◌∙◌, ap, subst}
use mathlib.Core.Bool.{decide}
use mathlib.Core.Logic.{◌⊎◌, inl, inr}
use mathlib.Core.List.{[], ◌∷◌}
use Rattle.logs.specs.Log.{◌∈◌}
use Rattle.order.specs.Sequence.{before, Last}
use Rattle.order.proofs.Sequence.{before-in, before-once, before-within, last_of}
use Rattle.history.specs.Message.{Entry, absent}
use Rattle.history.specs.Event.{update, scan, none, spent}
use Rattle.history.specs.Trace.{Trace, updating, begun, tag_at, first_ending, tags_sent, own_tags, largest}
use Rattle.history.specs.Trace.{first_above}
use Rattle.history.specs.Order.{SingleOrder}
use Rattle.history.proofs.Written.{UpdateOf, written_none, written_last}
use Rattle.history.proofs.RuledOut.{begins, handles, own, entry, is_done, shows, updater}

-- A scan shows an update although a later one of its node had ended before the scan began. The line 0 2 0 4, in which
-- the first update stands twice, fits all else.
abbrev reverted : Trace
reverted =
    begins 1 (update 7) ∷ handles 1 (is_done (entry 1 7 ∷ [])) (own 1 1 7)
    ∷ begins 1 (update 8) ∷ handles 1 (is_done (entry 2 8 ∷ [])) (own 1 2 8)
    ∷ begins 1 scan ∷ handles 1 (shows (entry 1 7 ∷ [])) [] ∷ []

reverted-updates : (u p : ℕ) → begun reverted u ≡ updating 1 p → (u ≡ 0) ⊎ (u ≡ 2)
reverted-updates zero p e = inl refl
reverted-updates (suc zero) p e = absurd (omega (arith, ap updater e))
reverted-updates (suc (suc zero)) p e = inr refl
reverted-updates (suc (suc (suc zero))) p e = absurd (omega (arith, ap updater e))
reverted-updates (suc (suc (suc (suc zero)))) p e = absurd (omega (arith, ap updater e))
reverted-updates (suc (suc (suc (suc (suc zero))))) p e = absurd (omega (arith, ap updater e))
reverted-updates (suc (suc (suc (suc (suc (suc u)))))) p e = absurd (omega (arith, ap updater e))

pub reverted-out : ¬ SingleOrder 1 reverted
unfolding first_ending tags_sent own_tags largest first_above ℕ_discrete dec_lt decide
reverted-out o =
    let early = o.timely 0 2 ((o.members 0).1 tt) ((o.members 2).1 tt) (omega arith) in
    let late = o.timely 2 4 ((o.members 2).1 tt) ((o.members 4).1 tt) (omega arith) in
    let last : Last (UpdateOf reverted 1) 2 (before ℕ_discrete 4 o.line) =
    last_of ℕ_discrete (before ℕ_discrete 4 o.line) late (8, refl) (before-once ℕ_discrete 4 o.line o.once)
    λ v m (p, is). elim (reverted-updates v p is) [
      | inl e ↦ inr (subst (λ z. z ∈ before ℕ_discrete 2 (before ℕ_discrete 4 o.line)) (sym e)
          (before-within ℕ_discrete 4 o.line late early))
      | inr e ↦ inl e
    ] in
    let sees = o.legal 4 ((o.members 4).1 tt) tt 1 (omega arith, omega arith) in
    omega (
      arith,
      ap (λ (e : Entry). e.tag) (sees
          ∙ written_last reverted 1 8 refl (before ℕ_discrete 4 o.line) absent last),
    )

-- A scan shows an update that has let its value out and is spent. The line 0 3 fits all else.
abbrev spent-shown : Trace
spent-shown =
    begins 1 (update 7) ∷ handles 1 none (own 1 1 7) ∷ handles 1 spent []
    ∷ begins 1 scan ∷ handles 1 (shows (entry 1 7 ∷ [])) [] ∷ []

spent-update : (u p : ℕ) → begun spent-shown u ≡ updating 1 p → u ≡ 0
spent-update zero p e = refl
spent-update (suc zero) p e = absurd (omega (arith, ap updater e))
spent-update (suc (suc zero)) p e = absurd (omega (arith, ap updater e))
spent-update (suc (suc (suc zero))) p e = absurd (omega (arith, ap updater e))
spent-update (suc (suc (suc (suc zero)))) p e = absurd (omega (arith, ap updater e))
spent-update (suc (suc (suc (suc (suc u))))) p e = absurd (omega (arith, ap updater e))

pub spent-shown-out : ¬ SingleOrder 1 spent-shown
unfolding first_ending tags_sent own_tags largest first_above ℕ_discrete dec_lt decide
spent-shown-out o =
    let sees = o.legal 3 ((o.members 3).1 tt) tt 1 (omega arith, omega arith) in
    omega (
      arith,
      ap (λ (e : Entry). e.tag) (sees
          ∙ written_none spent-shown 1 (before ℕ_discrete 3 o.line) absent λ u m (p, is).
          (o.members 0).0 (subst (λ z. z ∈ o.line) (spent-update u p is) (before-in ℕ_discrete 3 o.line m))),
    )

-- An update with a report of zeros that is done and has sent nothing: whoever looks sees an absence, and no harm. The
-- line of it alone fits all else.
abbrev unsent : Trace
unsent = begins 1 (update 0) ∷ handles 1 (is_done (absent ∷ [])) [] ∷ []

pub unsent-out : ¬ SingleOrder 1 unsent
unfolding first_ending tags_sent own_tags largest first_above ℕ_discrete dec_lt decide
unsent-out o = let pos : 0 < tag_at unsent 0 1 = o.tagged 0 1 0 ((o.members 0).1 tt) refl in absurd (omega (arith, pos))

-- A scan shows a report that nobody wrote. The line of it alone fits all else.
abbrev pub invented : Trace
invented = begins 1 scan ∷ handles 1 (shows (entry 5 9 ∷ [])) [] ∷ []

no-update : (u p : ℕ) → ¬ (begun invented u ≡ updating 1 p)
no-update zero p e = omega (arith, ap updater e)
no-update (suc zero) p e = omega (arith, ap updater e)
no-update (suc (suc u)) p e = omega (arith, ap updater e)

pub invented-out : ¬ SingleOrder 1 invented
unfolding first_ending ℕ_discrete decide
invented-out o =
    let sees = o.legal 0 ((o.members 0).1 tt) tt 1 (omega arith, omega arith) in
    omega (
      arith,
      ap (λ (e : Entry). e.tag) (sees
          ∙ written_none invented 1 (before ℕ_discrete 0 o.line) absent λ u m (p, is). no-update u p is),
    )
