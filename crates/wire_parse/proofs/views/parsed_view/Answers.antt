-- `wire_parse::views::parsed_view` meets its contract: where the view is handed back, the message is a good one.
use Rattle.std.proofs.Common.{◌∙◌, ap}
use Rattle.octets.specs.Answer.{returned}
use Rattle.refusal.specs.Refusal.{answer}
use Rattle.wire.specs.declared.Message.{Message}
use Rattle.wire_parse.proofs.views.parsed_view.Goals as goal

pub slice_bounds-result-count : goal.slice_bounds-result-count
slice_bounds-result-count c =
    let w = c.in-Ok-Good in
    let e = rw w.is at w.field-0-is in
    c.requires w.field-0-0 (ap answer w.is ∙ ap (λ (m : Message). returned m) e)

pub slice_bounds-result-start : goal.slice_bounds-result-start
slice_bounds-result-start c =
    let w = c.in-Ok-Good in
    let e = rw w.is at w.field-0-is in
    c.requires w.field-0-0 (ap answer w.is ∙ ap (λ (m : Message). returned m) e)
