-- The first half of demand 3: every list of events has a single order of its operations.
use Prim.Native.Nat.{ℕ, ◌+◌, ◌<◌}
use mathlib.Core.Bool.{Bool}
use mathlib.Core.List.{List}
use Rattle.history.specs.Event.{Event}
use Rattle.history.specs.Order.{SingleOrder}
use Rattle.eqaso.specs.Cluster.{trace}
use Rattle.eqaso.proofs.Single.{single-order}
use Rattle.eqaso.proofs.Run.{good}

pub one-order : (n f : ℕ) (room : ℕ → Bool) → f + f < n → (es : List Event) → SingleOrder n (trace n f room es)
one-order n f room half es = single-order (good n f room half es).kept
