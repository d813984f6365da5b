-- `cluster::handing::hand_over` meets its contract.
use mathlib.Core.Path.{sym, ◌∙◌}
use Rattle.cluster.proofs.handing.hand_over.Goals as goal

pub has_spare-requires : goal.has_spare-requires
has_spare-requires c = let h = c.requires.0 in (h.small, h.low, h.high, h.long)

pub hand_here-requires : goal.hand_here-requires
hand_here-requires c =
    let p = c.requires in (p.0, p.1, p.2, sym c.has_spare.ensures ∙ c.if-has_spare.true)

pub hand_apart-requires : goal.hand_apart-requires
hand_apart-requires c = let p = c.requires in (p.0, p.1, p.2)

pub returns-then-has_spare : goal.returns-then-has_spare
returns-then-has_spare c = c.hand_here.ensures

pub returns-else-has_spare : goal.returns-else-has_spare
returns-else-has_spare c = c.hand_apart.ensures
