-- `layout::stopped_nodes` meets its contract.
use Rattle.std.proofs.Common.{rules, ◌∙◌}
use Rattle.std.proofs.lemmas.Iterator.Consumers.{count_from_yields_List, YieldsList-at, YieldsList-from_filter}
use Rattle.table.proofs.Ranges.{yields-up_to, filtered}
use Rattle.layout.specs.Layout.{stopped}
use Rattle.layout.proofs.stopped_nodes.Goals as goal

pub returns : goal.returns
returns c =
    let n = c.args.n in
    let p = stopped c.args.b.now in
    let e = c.new.ensures in
    let road = YieldsList-at c.filter.ensures.source (yields-up_to n e.start e.end e.exhausted) in
    count_from_yields_List _ _ c.count.ensures.ran
    (YieldsList-from_filter _ p road c.filter.ensures.closure (λ x b q k. search rules))
    ∙ filtered n p
