-- `cluster::handing::hand_apart` meets its contract.
use Rattle.cluster.proofs.handing.hand_apart.Goals as goal

pub returns : goal.returns
returns c = c.hand_on.ensures
