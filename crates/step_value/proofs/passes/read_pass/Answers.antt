-- `step_value::passes::read_pass` meets its contract. Assumes nothing.
use Rattle.record.proofs.Parts.{parts}
use Rattle.step.proofs.Numbers.{max-most}
use Rattle.step.proofs.Turns.{reading-most}
use Rattle.step_value.proofs.passes.read_pass.Goals as goal

pub members-requires : goal.members-requires
members-requires c = (parts _ c.requires).n-high

pub after_read-requires : goal.after_read-requires
after_read-requires c =
    let d = c.args.s.node in
    let p = parts d c.requires in
    (p.request-high, rw c.max.ensures (max-most _ _ _ (reading-most d p c.in-Reading.is) p.max-high))
