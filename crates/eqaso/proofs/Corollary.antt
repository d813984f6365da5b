-- Two things that follow for a reader: with no update every scan shows absences, and the view that an operation ends
-- with has every update that ended before it began.
use Prim.Native.Nat.{ℕ, ◌≤◌, ◌<◌}
use native.Mathlib.Decide.{ℕ_discrete}
use native.Mathlib.Omega.{arith}
use mathlib.Core.Path.{◌≡◌, ◌∙◌, subst}
use Rattle.order.specs.Sequence.{before}
use Rattle.history.specs.Message.{absent}
use Rattle.history.specs.Event.{done, spent, none, shown}
use Rattle.history.specs.Trace.{Trace, Begun, updating, scanning, begun, Fate, unfinished, ended, fate, tag_at}
use Rattle.history.specs.Trace.{scan_view}
use Rattle.history.specs.Trace.{entry_at, nothing}
use Rattle.history.specs.Order.{OneTo, Finished, IsScan, PlacedBy, EndedBefore, SingleOrder}
use Rattle.history.specs.Views.{HasView, end_view}
use Rattle.history.proofs.Written.{written_none}
use Rattle.eqaso.proofs.Book.{tag_of, book_of}
use Rattle.eqaso.proofs.Facts.{Fit}
use Rattle.eqaso.proofs.Items.{own_view}
use Rattle.eqaso.proofs.Kept.{Kept}

scan-placed : (tr : Trace) (s : ℕ) (b : Begun) (x : Fate) → IsScan b → Finished x → PlacedBy tr s b x
scan-placed tr s (updating node report) x h f = elim h [ ]
scan-placed tr s nothing x h f = elim h [ ]
scan-placed tr s (scanning c) x h f = f

pub scan-without-updates : {n : ℕ} {tr : Trace} → SingleOrder n tr
    → ((u c p : ℕ) → ¬ (begun tr u ≡ updating c p)) → (s : ℕ) → IsScan (begun tr s) → Finished (fate tr s)
    → (w : ℕ) → OneTo n w → entry_at (scan_view (fate tr s)) w ≡ absent
scan-without-updates {n} {tr} o no-update s scan end w one =
    o.legal s ((o.members s).1 (scan-placed tr s (begun tr s) (fate tr s) scan end)) scan w one
    ∙ written_none tr w (before ℕ_discrete s o.line) absent (λ u i (p, e). no-update u w p e)

-- An update with a tag, so one that is not spent.
pub view-has-earlier : {n : ℕ} {tr : Trace} → Kept n tr → (u c p t : ℕ) → begun tr u ≡ updating c p → 0 < tag_at tr u c
    → EndedBefore (fate tr u) t → HasView (fate tr t) → tag_at tr u c ≤ (entry_at (end_view (fate tr t)) c).tag
unfolding book_of
view-has-earlier {n} {tr} k u c p t is pos before viewed =
    let fit = subst (λ b. Fit n b (fate tr u) (tag_of tr u b)) is (k.facts.fit u) in
    let (had, own) = own_view n (fate tr u) c p (tag_at tr u c) t fit pos before in
    omega (arith, own, k.facts.grows u t before had viewed c (one_of (fate tr u) fit))
  where
    one_of : (x : Fate) → Fit n (updating c p) x (tag_at tr u c) → OneTo n c
    one_of unfinished h = h
    one_of (ended i (shown _ _)) h = elim h [ ]
    one_of (ended i none) h = elim h [ ]
    one_of (ended i (done r v)) h = h.0
    one_of (ended i spent) h = h.0
