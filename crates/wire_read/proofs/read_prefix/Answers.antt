-- `wire_read::read_prefix` meets its contract: `parse_prefix` judges the bytes, and `found_view` gives the view of its
-- answer.
use mathlib.Core.Path.{◌∙◌}
use Rattle.refusal.specs.Refusal.{answer}
use Rattle.wire.proofs.Handed.{front-room, found-view, found-address}
use Rattle.wire_read.proofs.read_prefix.Goals as goal

pub found_view-view-requires : goal.found_view-view-requires
found_view-view-requires c =
    front-room c.args.n c.args.b.now (answer c.parse_prefix-found.result) c.parse_prefix-found.ensures

pub returns : goal.returns
returns c =
    let a = c.args in
    let f = answer c.parse_prefix-found.result in
    let e = c.parse_prefix-found.ensures in (
      e,
      c.found_view-view.ensures.0 ∙ found-view a.n a.b.now f e,
      c.found_view-view.ensures.1 ∙ found-address a.n a.b.now f e a.b.ref_ptr,
    )
