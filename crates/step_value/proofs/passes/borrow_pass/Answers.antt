-- `step_value::passes::borrow_pass` meets its contract. Assumes nothing.
use Rattle.record.proofs.Parts.{parts}
use Rattle.step_value.proofs.passes.borrow_pass.Goals as goal

pub first_of-requires : goal.first_of-requires
first_of-requires c = (parts _ c.requires).n-high
