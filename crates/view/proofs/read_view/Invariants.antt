-- `view::read_view` meets its contract.
use mathlib.Core.Path.{◌≡◌}
use mathlib.Core.List.{◌++◌}
use lib.ListN.{drop, replicate}
use Rattle.octets.specs.Loop.{tab}
use Rattle.view.specs.Size.{nodes}
use Rattle.view.specs.Report.{no_report}
use Rattle.view.specs.View.{tag_at, report_at}
use Rattle.view.proofs.read_view.Given as goal

abbrev pub invariant-loop-i : goal.invariant-loop-i
invariant-loop-i l = (l.v.tags ≡ tab l.i (tag_at l.b) ++ drop l.i (replicate nodes 0)) ×
    (l.v.reports ≡ tab l.i (report_at l.b) ++ drop l.i (replicate nodes no_report))
