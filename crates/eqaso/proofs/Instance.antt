-- Demand 3 at document 01's session: one node, an update, a scan, and a delivery with nothing to deliver.
use native.Mathlib.Omega.{arith}
use Rattle.history.specs.Order.{SingleOrder, Quiet}
use Rattle.eqaso.specs.Claims.{sixteen}
use Rattle.eqaso.specs.Cluster.{trace}
use Rattle.eqaso.proofs.Runs.{session}
use Rattle.eqaso.proofs.Claims.{claim3}

pub session-ordered : SingleOrder 1 (trace 1 0 sixteen session) × Quiet 1 (trace 1 0 sixteen session)
session-ordered = claim3 1 0 (omega arith, omega arith) (omega arith) session
