-- `session_byte::run_in` meets its contract.
use Rattle.std.proofs.Common.{arith}
use Rattle.session_line.specs.Act.{ran}
use Rattle.session_byte.specs.Memory.{lent, cluster, on_cluster}
use Rattle.session_byte.proofs.Front.{front, front_back}
use Rattle.session_byte.proofs.run_in.Goals as goal

pub returns : goal.returns
unfolding cluster on_cluster
returns c =
    let x = c.args in
    let m = x.m.now in
    let z = c.lent_for.ensures.0 in
    let r = c.run_at.ensures in
    let s = front m (lent x.n) z in (
      front_back m (lent x.n) (λ b. (ran x.l b).bytes) z (omega arith) c.run_at.auto.b r.0,
      rw s at r.1,
      rw s at r.2,
    )
