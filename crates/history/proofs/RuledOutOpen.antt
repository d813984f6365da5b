-- Traces that are not quiet: nothing waits, and an operation of a standing node is open.
use Prim.Native.Nat.{ℕ}
use native.Mathlib.Decide.{ℕ_discrete}
use native.Mathlib.Omega.{arith}
use mathlib.Core.Path.{◌≡◌, refl, ap₂, ◌∙◌}
use mathlib.Core.Bool.{decide}
use mathlib.Core.List.{[], ◌∷◌}
use Rattle.history.specs.Event.{Operation, update, scan, sent_to}
use Rattle.history.specs.Trace.{Trace, first_ending, stopped, let_out_to, handed_over, waits}
use Rattle.history.specs.Order.{NothingWaits, Quiet}
use Rattle.history.proofs.RuledOut.{begins}

-- An operation that begins and asks nobody.
abbrev mute : Operation → Trace
mute op = begins 1 op ∷ []

nothing-waits : (op : Operation) → NothingWaits 1 (mute op)
unfolding let_out_to handed_over sent_to ℕ_discrete decide
nothing-waits op a b (lo, hi) (low, high) up =
    let first : a ≡ 1 = omega arith in
    let second : b ≡ 1 = omega arith in
    ap₂ (waits (mute op)) first second ∙ refl

pub open-scan-out : ¬ Quiet 1 (mute scan)
unfolding first_ending stopped ℕ_discrete decide
open-scan-out q = q (nothing-waits scan) 0 refl

pub open-update-out : (p : ℕ) → ¬ Quiet 1 (mute (update p))
unfolding first_ending stopped ℕ_discrete decide
open-update-out p q = q (nothing-waits (update p)) 0 refl
