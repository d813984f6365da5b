-- `step_bytes::agree::agreeing_in` meets its contract.
use Rattle.std.proofs.Common.{rules, ◌∙◌}
use Rattle.std.proofs.lemmas.Iterator.Consumers.{count_from_yields_List, YieldsList-at, YieldsList-from_filter}
use Rattle.octets.specs.Word.{words}
use Rattle.table.specs.Table.{cells}
use Rattle.table.specs.Quorum.{agrees, agreeing}
use Rattle.table.proofs.Ranges.{yields-up_to, filtered}
use Rattle.region.specs.Record.{heard_place, view_in, atround_in}
use Rattle.step_bytes.proofs.agree.agreeing_in.Goals as goal

pub returns : goal.returns
unfolding agreeing agrees
returns c =
    let a = c.args in
    let p = agrees a.n a.own (words cells a.r.now heard_place) (view_in a.r.now atround_in).tags in
    let e = c.new.ensures in
    let road = YieldsList-at c.filter.ensures.source (yields-up_to a.n e.start e.end e.exhausted) in
    count_from_yields_List _ _ c.count.ensures.ran
    (YieldsList-from_filter _ p road c.filter.ensures.closure (λ x b q k. search rules))
    ∙ filtered a.n p
