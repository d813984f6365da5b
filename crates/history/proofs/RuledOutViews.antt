-- Traces that break what else is claimed of views: two good rounds that each miss what the other has, a scan that shows
-- a report where nobody updates, and a scan that misses an update which ended before it began.
use Prim.Native.Nat.{ℕ, zero, suc}
use native.Mathlib.Decide.{ℕ_discrete, dec_lt}
use native.Mathlib.Omega.{arith}
use mathlib.Core.Path.{refl, sym, ap, subst}
use mathlib.Core.Bool.{decide}
use mathlib.Core.Logic.{inl, inr}
use mathlib.Core.List.Memᴰ
use mathlib.Core.List.{List, [], ◌∷◌}
use Rattle.history.specs.Message.{View, absent, good}
use Rattle.history.specs.Event.{none, Sent, sent_to}
use Rattle.history.specs.Trace.{Trace, Begun, nothing, updating, scanning, begun, first_ending, tags_sent, own_tags}
use Rattle.history.specs.Trace.{largest, first_above, let_out_to}
use Rattle.history.specs.Views.{RoundsComparable, ShowsAbsence, HasEarlier}
use Rattle.history.proofs.RuledOut.{handles, entry}
use Rattle.history.proofs.RuledOutLine.{invented}
use Rattle.history.proofs.RuledOutTime.{missed}

abbrev first : View
first = entry 1 7 ∷ absent ∷ []

abbrev second : View
second = absent ∷ entry 1 8 ∷ []

-- Node 1 lets out the first view as that of a good round, and node 2 the second.
abbrev lends : View → List Sent
lends v = record { to = 1; message = good 1 v } ∷ []

abbrev apart : Trace
apart = handles 1 none (lends first) ∷ handles 2 none (lends second) ∷ []

pub apart_out : ¬ RoundsComparable 2 apart
unfolding let_out_to sent_to ℕ_discrete decide
apart_out h = elim (h 1 1 2 1 1 1 first second (Memᴰ.head refl) (Memᴰ.head refl)) [
  | inl below ↦ omega (arith, below 1 (omega arith, omega arith))
  | inr below ↦ omega (arith, below 2 (omega arith, omega arith))
]

abbrev IsUpdate : Begun → Type 0
IsUpdate nothing = ⊥
IsUpdate (updating c p) = Unit {0}
IsUpdate (scanning c) = ⊥

no-update : (u : ℕ) → ¬ IsUpdate (begun invented u)
no-update zero h = h
no-update (suc zero) h = h
no-update (suc (suc u)) h = h

pub invented-shown-out : ¬ ShowsAbsence 1 invented
unfolding first_ending ℕ_discrete decide
invented-shown-out h = omega (
  arith,
  ap (λ e. e.tag) (h (λ u c p e. no-update u (subst IsUpdate (sym e) tt)) 0 tt tt 1 (omega arith, omega arith)),
)

pub missed-earlier-out : ¬ HasEarlier missed
unfolding first_ending tags_sent own_tags largest first_above ℕ_discrete dec_lt decide
missed-earlier-out h = omega (arith, h 0 1 7 2 refl (omega arith) (omega arith) tt)
