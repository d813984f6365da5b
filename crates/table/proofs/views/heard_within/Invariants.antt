-- `table::views::heard_within` meets its contract: the invariant: the first cells were judged. Assumes nothing.
use Rattle.std.proofs.Common.{◌≡◌, leb, ℕ}
use Rattle.table.specs.Loop.{all}
use Rattle.view.specs.Size.{limit}
use Rattle.table.specs.Table.{at}
use Rattle.table.proofs.views.heard_within.Given as goal

abbrev pub invariant-loop-tag : goal.invariant-loop-tag
invariant-loop-tag l = l.ok ≡ all l.tag-index (λ (i : ℕ). leb (at l.h i) limit)
