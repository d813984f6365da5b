-- Traces in which an operation ends as the other kind does, or with a view of another length than n. Each has one
-- operation, and the line of it alone, or the empty one, fits all other clauses: nothing reads the view of an update,
-- an entry that is not there is read as absent, and one too many is never read.
use native.Mathlib.Decide.{ℕ_discrete}
use native.Mathlib.Omega.{arith}
use mathlib.Core.Bool.{decide}
use mathlib.Core.List.{[], ◌∷◌}
use Rattle.history.specs.Message.{absent}
use Rattle.history.specs.Event.{update, scan, spent}
use Rattle.history.specs.Trace.{Trace, first_ending}
use Rattle.history.specs.Order.{SingleOrder}
use Rattle.history.proofs.RuledOut.{begins, handles, own, entry, is_done, shows}

abbrev scan-done : Trace
scan-done = begins 1 scan ∷ handles 1 (is_done (absent ∷ [])) [] ∷ []

pub scan-done-out : ¬ SingleOrder 1 scan-done
unfolding first_ending ℕ_discrete decide
scan-done-out o = o.kinds 0

abbrev scan-spent : Trace
scan-spent = begins 1 scan ∷ handles 1 spent [] ∷ []

pub scan-spent-out : ¬ SingleOrder 1 scan-spent
unfolding first_ending ℕ_discrete decide
scan-spent-out o = o.kinds 0

abbrev update-shown : Trace
update-shown = begins 1 (update 7) ∷ handles 1 (shows (entry 1 7 ∷ [])) (own 1 1 7) ∷ []

pub update-shown-out : ¬ SingleOrder 1 update-shown
unfolding first_ending ℕ_discrete decide
update-shown-out o = o.kinds 0

-- Of two nodes, the scan says nothing of the second.
abbrev short : Trace
short = begins 1 scan ∷ handles 1 (shows (absent ∷ [])) [] ∷ []

pub short-out : ¬ SingleOrder 2 short
unfolding first_ending ℕ_discrete decide
short-out o = omega (arith, o.kinds 0)

-- Of one node, the scan shows a report of a second.
abbrev long : Trace
long = begins 1 scan ∷ handles 1 (shows (absent ∷ entry 1 9 ∷ [])) [] ∷ []

pub long-out : ¬ SingleOrder 1 long
unfolding first_ending ℕ_discrete decide
long-out o = omega (arith, o.kinds 0)

-- An update that is done with an empty view.
abbrev viewless : Trace
viewless = begins 1 (update 7) ∷ handles 1 (is_done []) (own 1 1 7) ∷ []

pub viewless-out : ¬ SingleOrder 1 viewless
unfolding first_ending ℕ_discrete decide
viewless-out o = omega (arith, o.kinds 0)

-- One that is done with an entry more than nodes.
abbrev overlong : Trace
overlong = begins 1 (update 7) ∷ handles 1 (is_done (entry 1 7 ∷ absent ∷ [])) (own 1 1 7) ∷ []

pub overlong-out : ¬ SingleOrder 1 overlong
unfolding first_ending ℕ_discrete decide
overlong-out o = omega (arith, o.kinds 0)
