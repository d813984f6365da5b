-- Demand 3 of the code, for every f with 2f < n. A run starts from what fresh makes of lent bytes b of the length for
-- n, with that f recorded, and every event of a list gets the bytes as the one before left them, refused or not. The
-- trace is made of what the definitions answer and let out that the contracts of fresh, begin, deliver and stop are
-- equated with. Of every list, with any numbers in it: there is one single order of its operations, and where no
-- message waits for a standing node, no operation is open.
use Rattle.std.specs.Prelude.{ℕ, ◌+◌, ◌<◌, ◌≡◌, List, length}
use Rattle.view.specs.Size.{nodes}
use Rattle.layout.specs.Layout.{cluster_size}
use Rattle.history.specs.Order.{OneTo, SingleOrder, Quiet}
use Rattle.mirror.specs.Run.{Event, trace_of}

abbrev pub Demand3 : Type 0
Demand3 = (n f : ℕ) → OneTo nodes n → f + f < n → (b : List ℕ) → length b ≡ cluster_size n → (es : List Event)
    → SingleOrder n (trace_of n f b es) × Quiet n (trace_of n f b es)
