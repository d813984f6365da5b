-- `snapshot::snapshot_node_begin_update` meets its contract.
use mathlib.Core.Path.{sym}
use Rattle.snapshot.proofs.snapshot_node_begin_update.Goals as goal

pub returns : goal.returns
returns c =
    let a = c.args in
    rw (sym c.read_report.ensures) (c.node_code.ensures _ _ _ c.begin-a.ensures)
