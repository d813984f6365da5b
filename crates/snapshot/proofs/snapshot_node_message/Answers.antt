-- `snapshot::snapshot_node_message` meets its contract.
use Rattle.snapshot.proofs.snapshot_node_message.Goals as goal

pub returns : goal.returns
returns c =
    let m = c.message-a.ensures in
    (c.node_code.ensures _ _ _ m.0, m.1)
