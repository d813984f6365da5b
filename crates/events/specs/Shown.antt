-- What is claimed of the view beside the answer of an event, on any bytes: it has nothing past the n that they state,
-- whatever their records hold there. Where more than sixteen nodes are stated, every event is refused.
use Rattle.std.specs.Prelude.{ℕ, ◌≤◌, ◌≡◌, List}
use Rattle.view.specs.Size.{nodes}
use Rattle.view.specs.View.{no_view, AbsentPast}
use Rattle.record.specs.declared.Operation.{Operation}
use Rattle.layout.specs.Layout.{stated}
use Rattle.outgoing.specs.declared.Extent.{Extent}
use Rattle.events.specs.Event.{begin, deliver}
use Rattle.events.specs.Stop.{stop}

abbrev pub BeginAbsent : Type 0
BeginAbsent = (c : ℕ) (o : Operation) (x : Extent) (b : List ℕ) → stated b ≤ nodes
    → AbsentPast (stated b) (begin c o x b).view

abbrev pub DeliverAbsent : Type 0
DeliverAbsent = (a c : ℕ) (x : Extent) (b : List ℕ) → stated b ≤ nodes
    → AbsentPast (stated b) (deliver a c x b).view

-- A stop shows nothing.
abbrev pub StopAbsent : Type 0
StopAbsent = (c : ℕ) (b : List ℕ) → (stop c b).view ≡ no_view
