-- A report's number tells its eight bytes, and they tell the report.
use mathlib.Core.Path.{◌≡◌, sym, ap, ◌∙◌}
use Prim.Native.Nat.{ℕ}
use Rattle.octets.specs.Bytes.{be}
use Rattle.octets.proofs.Number.{be-num}
use Rattle.view.specs.Report.{Counts, report_bytes, report_of}
use Rattle.view.specs.declared.Report.{Report}
use Rattle.view.proofs.ReportBytes.{report-back, report-bytes}
use Rattle.refine.specs.Meaning.{code}
use Rattle.refine.specs.Reports.{SameReport}

from-code : (p : Report) → Counts p → be 8 (code p) ≡ report_bytes p
from-code p h = be-num (report_bytes p) (report-bytes p h)

pub same-report : SameReport
same-report p q h k e =
    sym (report-back p) ∙ ap report_of (sym (from-code p h) ∙ ap (λ (x : ℕ). be 8 x) e ∙ from-code q k) ∙ report-back q
