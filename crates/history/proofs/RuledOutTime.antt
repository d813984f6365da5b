-- Traces that have no line since it would have to turn real time round: a scan that misses an update which ended before
-- it began, a scan that misses what an earlier one has shown, and a scan that shows an unfinished update and misses one
-- which ended before that began.
use Prim.Native.Nat.{ℕ, zero, suc, ◌<◌}
use native.Mathlib.Decide.{ℕ_discrete, dec_lt}
use native.Mathlib.Omega.{arith}
use mathlib.Core.Path.{◌≡◌, refl, sym, ◌∙◌, ap, subst}
use mathlib.Core.Bool.{decide}
use mathlib.Core.Logic.{◌⊎◌, inl, inr}
use mathlib.Core.List.{[], ◌∷◌}
use Rattle.logs.specs.Log.{◌∈◌}
use Rattle.order.specs.Sequence.{before}
use Rattle.order.proofs.Sequence.{before-trans}
use Rattle.history.specs.Message.{Entry, absent}
use Rattle.history.specs.Event.{update, scan, none}
use Rattle.history.specs.Trace.{Trace, updating, begun, tag_at, first_ending, tags_sent, own_tags, largest}
use Rattle.history.specs.Trace.{first_above}
use Rattle.history.specs.Order.{Shows, written, SingleOrder}
use Rattle.history.proofs.Written.{written_none, update-written}
use Rattle.history.proofs.RuledOut.{begins, handles, own, entry, is_done, shows, updater, in?}

-- The scan misses an update that had ended. A line that leaves the update out fits all else.
abbrev pub missed : Trace
missed =
    begins 1 (update 7) ∷ handles 1 (is_done (entry 1 7 ∷ [])) (own 1 1 7)
    ∷ begins 1 scan ∷ handles 1 (shows (absent ∷ [])) [] ∷ []

missed-tagged : (u p : ℕ) → begun missed u ≡ updating 1 p → 0 < tag_at missed u 1
unfolding first_ending tags_sent own_tags largest first_above ℕ_discrete dec_lt decide
missed-tagged zero p e = omega arith
missed-tagged (suc zero) p e = absurd (omega (arith, ap updater e))
missed-tagged (suc (suc zero)) p e = absurd (omega (arith, ap updater e))
missed-tagged (suc (suc (suc zero))) p e = absurd (omega (arith, ap updater e))
missed-tagged (suc (suc (suc (suc u)))) p e = absurd (omega (arith, ap updater e))

pub missed-out : ¬ SingleOrder 1 missed
unfolding first_ending tags_sent own_tags largest first_above ℕ_discrete dec_lt decide
missed-out o =
    let here = o.timely 0 2 ((o.members 0).1 tt) ((o.members 2).1 tt) (omega arith) in
    let sees = o.legal 2 ((o.members 2).1 tt) tt 1 (omega arith, omega arith) in
    let some = update-written missed 1 missed-tagged 7 refl (before ℕ_discrete 2 o.line) absent here in
    omega (arith, some, ap (λ e. e.tag) sees)

-- The first scan shows an unfinished update, the second begins when the first has ended and misses it. The line 4 0 2,
-- in which the second scan stands first, fits all else.
abbrev inverted : Trace
inverted =
    begins 1 (update 7) ∷ handles 1 none (own 1 1 7)
    ∷ begins 2 scan ∷ handles 2 (shows (entry 1 7 ∷ absent ∷ [])) []
    ∷ begins 2 scan ∷ handles 2 (shows (absent ∷ absent ∷ [])) [] ∷ []

inverted-update : (u p : ℕ) → begun inverted u ≡ updating 1 p → u ≡ 0
inverted-update zero p e = refl
inverted-update (suc zero) p e = absurd (omega (arith, ap updater e))
inverted-update (suc (suc zero)) p e = absurd (omega (arith, ap updater e))
inverted-update (suc (suc (suc zero))) p e = absurd (omega (arith, ap updater e))
inverted-update (suc (suc (suc (suc zero)))) p e = absurd (omega (arith, ap updater e))
inverted-update (suc (suc (suc (suc (suc zero))))) p e = absurd (omega (arith, ap updater e))
inverted-update (suc (suc (suc (suc (suc (suc u)))))) p e = absurd (omega (arith, ap updater e))

inverted-tagged : (u p : ℕ) → begun inverted u ≡ updating 1 p → 0 < tag_at inverted u 1
unfolding first_ending tags_sent own_tags largest first_above ℕ_discrete dec_lt decide
inverted-tagged u p e = subst (λ k. 0 < tag_at inverted k 1) (sym (inverted-update u p e)) (omega arith)

-- The update stands before the scan that shows it, so before the later one.
pub inverted-out : ¬ SingleOrder 2 inverted
unfolding first_ending tags_sent own_tags largest first_above ℕ_discrete dec_lt decide
inverted-out o =
    let first = o.legal 2 ((o.members 2).1 tt) tt 1 (omega arith, omega arith) in
    let second = o.legal 4 ((o.members 4).1 tt) tt 1 (omega arith, omega arith) in
    let late = o.timely 2 4 ((o.members 2).1 tt) ((o.members 4).1 tt) (omega arith) in
    by (in? 0 (before ℕ_discrete 2 o.line)) late first second
  where
    by : Dec (0 ∈ before ℕ_discrete 2 o.line) → 2 ∈ before ℕ_discrete 4 o.line
        → entry 1 7 ≡ written inverted 1 (before ℕ_discrete 2 o.line) absent
        → absent ≡ written inverted 1 (before ℕ_discrete 4 o.line) absent → ⊥
    by (yes early) late first second = omega (
      arith,
      ap (λ (e : Entry). e.tag) second,
      update-written inverted 1 inverted-tagged 7 refl (before ℕ_discrete 4 o.line) absent
          (before-trans ℕ_discrete 4 o.line early late),
    )
    by (no early) late first second = omega (arith, ap (λ (e : Entry). e.tag) (first ∙ none_before))
      where
        none_before : written inverted 1 (before ℕ_discrete 2 o.line) absent ≡ absent
        none_before = written_none inverted 1 (before ℕ_discrete 2 o.line) absent λ u i (p, e).
            early (subst (λ k. k ∈ before ℕ_discrete 2 o.line) (inverted-update u p e) i)

-- The scan of node 3 shows the unfinished update of node 2 and misses that of node 1, which had ended. The line 3 0 1
-- fits all else.
abbrev skipped : Trace
skipped =
    begins 3 scan
    ∷ begins 1 (update 7) ∷ handles 1 (is_done (entry 1 7 ∷ absent ∷ absent ∷ [])) (own 1 1 7)
    ∷ begins 2 (update 8) ∷ handles 2 none (own 2 2 8)
    ∷ handles 3 (shows (absent ∷ entry 2 8 ∷ absent ∷ [])) [] ∷ []

-- Its updates are at index 1, of node 1, and at index 3, of node 2.
skipped-updates : (u w p : ℕ) → begun skipped u ≡ updating w p → 0 < w
    → ((u ≡ 1) × (w ≡ 1)) ⊎ ((u ≡ 3) × (w ≡ 2))
skipped-updates zero w p e pos = absurd (omega (arith, ap updater e))
skipped-updates (suc zero) w p e pos = inl (refl, sym (ap updater e))
skipped-updates (suc (suc zero)) w p e pos = absurd (omega (arith, ap updater e))
skipped-updates (suc (suc (suc zero))) w p e pos = inr (refl, sym (ap updater e))
skipped-updates (suc (suc (suc (suc zero)))) w p e pos = absurd (omega (arith, ap updater e))
skipped-updates (suc (suc (suc (suc (suc zero))))) w p e pos = absurd (omega (arith, ap updater e))
skipped-updates (suc (suc (suc (suc (suc (suc u)))))) w p e pos = absurd (omega (arith, ap updater e))

skipped-tagged : (u p : ℕ) → begun skipped u ≡ updating 1 p → 0 < tag_at skipped u 1
unfolding first_ending tags_sent own_tags largest first_above ℕ_discrete dec_lt decide
skipped-tagged u p e = elim (skipped-updates u 1 p e (omega arith))
    [ inl h ↦ subst (λ k. 0 < tag_at skipped k 1) (sym h.0) (omega arith) | inr h ↦ absurd (omega (arith, h.1)) ]

-- The unfinished update stands before the scan that shows it, so the one that had ended does too.
pub skipped-out : ¬ SingleOrder 3 skipped
unfolding first_ending tags_sent own_tags largest first_above ℕ_discrete dec_lt decide
skipped-out o =
    let sees = o.legal 0 ((o.members 0).1 tt) tt in
    let shows : Shows skipped 0 2 2 8 = record { scan = tt; finished = tt; tagged = omega arith; entry = refl } in
    let early = o.timely 1 3 ((o.members 1).1 tt) ((o.members 3).1 (0, shows)) (omega arith) in
    by (in? 3 (before ℕ_discrete 0 o.line)) early (sees 1 (omega arith, omega arith))
    (sees 2 (omega arith, omega arith))
  where
    by : Dec (3 ∈ before ℕ_discrete 0 o.line) → 1 ∈ before ℕ_discrete 3 o.line
        → absent ≡ written skipped 1 (before ℕ_discrete 0 o.line) absent
        → record { tag = 2; report = 8 } ≡ written skipped 2 (before ℕ_discrete 0 o.line) absent → ⊥
    by (yes late) early one two = omega (
      arith,
      ap (λ (e : Entry). e.tag) one,
      update-written skipped 1 skipped-tagged 7 refl (before ℕ_discrete 0 o.line) absent
          (before-trans ℕ_discrete 0 o.line early late),
    )
    by (no late) early one two = omega (arith, ap (λ (e : Entry). e.tag) (two ∙ none))
      where
        none : written skipped 2 (before ℕ_discrete 0 o.line) absent ≡ absent
        none = written_none skipped 2 (before ℕ_discrete 0 o.line) absent λ u i (p, e).
            late (elim (skipped-updates u 2 p e (omega arith))
            [ inl h ↦ absurd (omega (arith, h.1)) | inr h ↦ subst (λ k. k ∈ before ℕ_discrete 0 o.line) h.0 i ])
