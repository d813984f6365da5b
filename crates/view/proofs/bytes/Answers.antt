-- `view::bytes` meets its contract.
use Rattle.view.specs.Size.{nodes, view_size}
use mathlib.Core.Path.{◌∙◌}
use lib.ListN.{replicate}
use Rattle.octets.proofs.Put.{put-over}
use Rattle.view.specs.View.{view_bytes}
use Rattle.view.proofs.ViewBytes.{length-view_bytes}
use Rattle.view.proofs.bytes.Goals as goal

pub returns : goal.returns
returns c =
    let v = c.args.v in
    c.write_view.ensures ∙ put-over (replicate (view_size nodes) 0) (view_bytes nodes v)
    (length-view_bytes nodes v)
