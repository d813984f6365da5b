-- Demand 3 of the algorithm over sets: of every list of events, with any numbers in them, there is one single order of
-- its operations, and nothing is left open where no message waits for a standing node.
use Prim.Native.Nat.{ℕ, ◌+◌, ◌<◌}
use mathlib.Core.Bool.{Bool}
use Rattle.eqaso.specs.Claims.{Demand3}
use Rattle.eqaso.proofs.OneOrder.{one-order}
use Rattle.eqaso.proofs.Quiet.{quiet}

pub demand3 : (n f : ℕ) (room : ℕ → Bool) → f + f < n → Demand3 n f room
demand3 n f room half es = (one-order n f room half es, quiet n f room half es)
