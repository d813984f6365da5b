-- `table::quorum::agreeing_nodes` meets its contract. Assumes nothing.
use Rattle.std.proofs.Common.{rules, ◌∙◌}
use Rattle.std.proofs.lemmas.Iterator.Consumers.{count_from_yields_List, YieldsList-at, YieldsList-from_filter}
use Rattle.table.specs.Quorum.{agrees, agreeing}
use Rattle.table.proofs.Ranges.{yields-up_to, filtered}
use Rattle.table.proofs.quorum.agreeing_nodes.Goals as goal

pub returns : goal.returns
unfolding agreeing agrees
returns c =
    let a = c.args in
    let p = agrees a.n a.own a.heard.now a.held.now in
    let e = c.new.ensures in
    let road = YieldsList-at c.filter.ensures.source (yields-up_to a.n e.start e.end e.exhausted) in
    count_from_yields_List _ _ c.count.ensures.ran
    (YieldsList-from_filter _ p road c.filter.ensures.closure (λ x b q k. search rules))
    ∙ filtered a.n p
