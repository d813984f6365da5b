-- `lines::place_of` meets its contract: where no byte is x, the place is the end.
use Rattle.std.proofs.Common.{rules, ◌≡◌, eqb}
use Rattle.std.specs.List.{position}
use Rattle.std.proofs.lemmas.Iterator.{YieldsList-from_slice}
use Rattle.std.proofs.lemmas.Iterator.Search.{position_from_yields_List}
use Rattle.lines.proofs.Fields.{place-end}
use Rattle.lines.proofs.place_of.Goals as goal

pub returns : goal.returns
returns c =
    let s = c.args.s.now in
    let found : c.position.result ≡ position (λ y. eqb y c.args.x) s =
    position_from_yields_List (λ y. eqb y c.args.x) _ _ _ c.position.ensures.ran (YieldsList-from_slice s cc)
    (λ y b q k. search rules) in
    place-end c.args.x s c.position.result c.unwrap_or.result found c.unwrap_or.ensures
