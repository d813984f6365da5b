-- `snapshot::snapshot_node_begin_scan` meets its contract.
use Rattle.snapshot.proofs.snapshot_node_begin_scan.Goals as goal

pub returns : goal.returns
returns c = c.node_code.ensures _ _ _ c.begin-a.ensures
