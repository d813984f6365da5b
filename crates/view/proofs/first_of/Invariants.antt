-- `view::first_of` meets its contract.
use Rattle.std.proofs.Common.{◌≡◌, ◌++◌, get_or, drop, replicate}
use Rattle.octets.specs.Loop.{tab}
use Rattle.view.specs.Size.{nodes}
use Rattle.view.specs.Report.{no_report}
use Rattle.view.proofs.first_of.Given as goal

abbrev pub invariant-loop-i : goal.invariant-loop-i
invariant-loop-i l = (l.first.tags ≡ tab l.i (λ k. get_or l.v.tags k 0) ++ drop l.i (replicate nodes 0))
    × (l.first.reports ≡ tab l.i (λ k. get_or l.v.reports k no_report) ++ drop l.i (replicate nodes no_report))
