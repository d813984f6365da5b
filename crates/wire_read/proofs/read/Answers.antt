-- `wire_read::read` meets its contract: `parse` judges the bytes, and `parsed_view` gives the view of its answer.
use mathlib.Core.Path.{◌∙◌}
use Rattle.refusal.specs.Refusal.{answer}
use Rattle.wire.proofs.Handed.{read-room, read_view, read-address}
use Rattle.wire_read.proofs.read.Goals as goal

pub parsed_view-view-requires : goal.parsed_view-view-requires
parsed_view-view-requires c = read-room c.args.n c.args.b.now (answer c.parse-parsed.result) c.parse-parsed.ensures

pub returns : goal.returns
returns c =
    let a = c.args in
    let p = answer c.parse-parsed.result in
    let e = c.parse-parsed.ensures in (
      e,
      c.parsed_view-view.ensures.0 ∙ read_view a.n a.b.now p e,
      c.parsed_view-view.ensures.1 ∙ read-address a.n a.b.now p e a.b.ref_ptr,
    )
