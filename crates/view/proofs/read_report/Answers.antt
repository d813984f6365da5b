-- `view::read_report` meets its contract.
use mathlib.Core.Path.{ap, ◌∙◌}
use Rattle.view.specs.Report.{report_from}
use Rattle.view.proofs.ReportBytes.{from-number}
use Rattle.view.proofs.read_report.Goals as goal

pub returns : goal.returns
returns c =
    c.report_from.ensures ∙ ap report_from c.number8.ensures
    ∙ from-number c.args.b.now (λ i. (c.type_inv.b i).fits)
    c.requires
