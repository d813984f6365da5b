-- `step_value::message_step` meets its contract. Assumes nothing.
use borrow.Author.Rules.{rules}
use Rattle.table.proofs.Laws.{length-mapped}
use Rattle.record.proofs.Parts.{parts, usable-of}
use Rattle.step.specs.Claims.{Long}
use Rattle.step.proofs.Handled.{react-parts}
use Rattle.step_value.proofs.message_step.Goals as goal

pub react_to-requires : goal.react_to-requires
react_to-requires c = let p = c.requires in (p.1, p.2, (parts _ p.0).n-high, p.3)

pub move_on-requires : goal.move_on-requires
move_on-requires c = let a = c.args in
    let p = c.requires in
    -- the lengths that the type says
    let long : Long a.c = record {
      last = (search rules, search (rules, length-mapped));
      atmax = (search rules, search (rules, length-mapped));
      atround = (search rules, search (rules, length-mapped));
    } in
    rw c.react_to.ensures (usable-of _ (react-parts a.c a.s a.m a.v (parts _ p.0) long
    p.1 p.2 p.3))
