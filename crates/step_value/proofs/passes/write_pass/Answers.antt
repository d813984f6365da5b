-- `step_value::passes::write_pass` meets its contract. Assumes nothing.
use Rattle.record.proofs.Parts.{parts}
use Rattle.step_value.proofs.passes.write_pass.Goals as goal

pub members-requires : goal.members-requires
members-requires c = (parts _ c.requires).n-high
