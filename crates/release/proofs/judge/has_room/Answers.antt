-- `release::judge::has_room` meets its contract.
use Rattle.std.proofs.Common.{rules, take, ◌∙◌}
use Rattle.std.proofs.lemmas.Iterator.Search.{all_from_yields_List}
use Rattle.table.proofs.Ranges.{yields-up_to, tested}
use Rattle.outgoing.specs.Entries.{entries}
use Rattle.outgoing.specs.Room.{room_before}
use Rattle.release.proofs.judge.has_room.Goals as goal

pub returns : goal.returns
returns c =
    let a = c.args in
    let p = room_before a.cut a.gone a.c (take a.left (entries a.n a.a a.o)) a.b.now in
    let e = c.new.ensures in
    all_from_yields_List p _ _ _ c.all.ensures.ran (yields-up_to a.n e.start e.end e.exhausted)
    (λ x b q k. search rules)
    ∙ tested a.n p
