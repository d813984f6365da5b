-- `step_value::passes::move_on` meets its contract: each pass keeps the record usable for the next. Assumes nothing.
use Rattle.record.proofs.Parts.{parts, usable-of}
use Rattle.step.specs.Move.{reads, writes}
use Rattle.step.proofs.Safe.{reads-parts, writes-parts, compares-parts}
use Rattle.step_value.proofs.passes.move_on.Goals as goal

pub write_pass-requires : goal.write_pass-requires
write_pass-requires c =
    let a = c.args in
    rw c.read_pass.ensures (usable-of _ (reads-parts a.f a.s (parts _ c.requires)))

pub compare_pass-requires : goal.compare_pass-requires
compare_pass-requires c =
    let a = c.args in
    rw (c.write_pass.ensures, c.read_pass.ensures)
    (usable-of _ (writes-parts a.f (reads a.f a.s) (reads-parts a.f a.s (parts _ c.requires))))

pub borrow_pass-requires : goal.borrow_pass-requires
borrow_pass-requires c =
    let a = c.args in
    rw (c.compare_pass.ensures, c.write_pass.ensures, c.read_pass.ensures)
    (usable-of _ (compares-parts a.f (writes a.f (reads a.f a.s)) (writes-parts a.f (reads a.f a.s)
    (reads-parts a.f a.s (parts _ c.requires)))))
