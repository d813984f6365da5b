-- `view::absent` meets its contract.
use Rattle.view.proofs.absent.Goals as goal

pub returns : goal.returns
returns c = simp c.none.ensures
