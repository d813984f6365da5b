-- `answers::put_entries` meets its contract: after i turns its loop has what the definition has after i.
use Prim.Native.Nat.{ℕ, ◌+◌, ◌*◌, ◌≤◌}
use mathlib.Core.Path.{◌≡◌}
use mathlib.Core.List.{List}
use lib.ListN.{length, get_or}
use Rattle.octets.specs.Bytes.{put}
use Rattle.octets.specs.Loop.{join}
use Rattle.view.specs.Report.{no_report, report_number}
use Rattle.view.specs.declared.Report.{Report}
use Rattle.answers.specs.Answer.{entry, entry_room}
use Rattle.answers.proofs.put_entries.Given as goal

abbrev pub rule : List ℕ → List Report → ℕ → List ℕ
rule tags reports i = entry (get_or tags i 0) (report_number (get_or reports i no_report))

abbrev pub invariant-loop-i : goal.invariant-loop-i
invariant-loop-i l = (l.out ≡ put l.initial.out l.at (join l.i (rule l.v.tags l.v.reports))) ×
    (l.end ≡ l.at + length (join l.i (rule l.v.tags l.v.reports))) × (l.end ≤ l.at + entry_room * l.i)
    × (length l.out ≡ length l.initial.out)
