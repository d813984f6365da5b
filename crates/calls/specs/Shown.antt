-- What is claimed of the view that a call shows: it has nothing past the record's n, whatever the record holds there.
-- Where n is above sixteen, the record is refused.
-- Assumes nothing.
use Rattle.std.specs.Prelude.{ℕ, ◌≤◌, List}
use Rattle.view.specs.Size.{nodes}
use Rattle.view.specs.View.{AbsentPast}
use Rattle.record.specs.declared.Node.{Node}
use Rattle.record.specs.declared.Operation.{Operation}
use Rattle.step.specs.Told.{told_view}
use Rattle.calls.specs.Entry.{begin, message}

abbrev pub BeginAbsent : Type 0
BeginAbsent = (c : Node) (o : Operation) (out : List ℕ) → c.n ≤ nodes
    → AbsentPast c.n (told_view (begin c o out).answer)

abbrev pub MessageAbsent : Type 0
MessageAbsent = (c : Node) (s : ℕ) (b out : List ℕ) → c.n ≤ nodes
    → AbsentPast c.n (told_view (message c s b out).answer)
