-- `frame_bytes::marks::heard_from` meets its contract.
use Rattle.std.proofs.Common.{rules}
use Rattle.octets.specs.Word.{words}
use Rattle.octets.proofs.FromFn.{from_fn-tab}
use Rattle.view.specs.Size.{nodes}
use Rattle.table.specs.Table.{heard_of, cells}
use Rattle.region.specs.Record.{heard_place}
use Rattle.frame_bytes.proofs.Marked.{marked}
use Rattle.frame_bytes.proofs.marks.heard_from.Goals as goal

pub returns : goal.returns
returns c =
    let a = c.args in
    marked a.n (heard_of (words cells a.r.now heard_place) a.s)
    (from_fn-tab _ _ _ (λ i y q e. search rules) c.from_fn.result nodes 0 c.from_fn.ensures.items) c.requires.1
