-- `frame_bytes::marks::last_tags` meets its contract.
use Rattle.std.proofs.Common.{rules}
use Rattle.octets.proofs.FromFn.{from_fn-tab}
use Rattle.view.specs.Size.{nodes}
use Rattle.table.specs.Table.{tag_of}
use Rattle.region.specs.Record.{view_in, last_in}
use Rattle.frame_bytes.proofs.Marked.{marked}
use Rattle.frame_bytes.proofs.marks.last_tags.Goals as goal

pub returns : goal.returns
returns c =
    let a = c.args in
    marked a.n (tag_of (view_in a.r.now last_in))
    (from_fn-tab _ _ _ (λ i y q e. search rules) c.from_fn.result nodes 0 c.from_fn.ensures.items) c.requires.1
