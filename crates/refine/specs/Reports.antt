-- The algorithm over sets knows a report by its number: reports with the same number are the same.
use Rattle.std.specs.Prelude.{◌≡◌}
use Rattle.view.specs.Report.{Counts}
use Rattle.view.specs.declared.Report.{Report}
use Rattle.refine.specs.Meaning.{code}

abbrev pub SameReport : Type 0
SameReport = (p q : Report) → Counts p → Counts q → code p ≡ code q → p ≡ q
