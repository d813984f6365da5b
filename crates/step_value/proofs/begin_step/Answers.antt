-- `step_value::begin_step` meets its contract. Assumes nothing.
use Rattle.record.proofs.Parts.{parts, usable-of}
use Rattle.step.proofs.Handled.{begun-parts}
use Rattle.step_value.proofs.begin_step.Goals as goal

pub begun_step-requires : goal.begun_step-requires
begun_step-requires c = (parts _ c.requires.0).request-high

pub move_on-requires : goal.move_on-requires
move_on-requires c = let p = c.requires in
    rw c.begun_step.ensures (usable-of _ (begun-parts c.args.c c.args.o (parts _ p.0)
    p.1 p.2))
