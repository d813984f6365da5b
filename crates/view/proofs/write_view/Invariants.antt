-- `view::write_view` meets its contract.
use mathlib.Core.Path.{◌≡◌}
use lib.ListN.{length, get_or}
use Rattle.octets.specs.Bytes.{put}
use Rattle.octets.specs.Loop.{join}
use Rattle.view.specs.Report.{no_report}
use Rattle.view.specs.View.{entry_bytes}
use Rattle.view.proofs.write_view.Given as goal

abbrev pub invariant-loop-i : goal.invariant-loop-i
invariant-loop-i l = (l.out ≡ put l.initial.out 0
    (join l.i (λ j. entry_bytes (get_or l.v.tags j 0) (get_or l.v.reports j no_report))))
    × (length l.out ≡ length l.initial.out)
