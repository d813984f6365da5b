-- `session_byte::fresh_in` meets its contract.
use Rattle.std.proofs.Common.{arith}
use Rattle.events.specs.Event.{fresh}
use Rattle.session_byte.specs.Memory.{lent, on_cluster}
use Rattle.session_byte.proofs.Front.{front_back}
use Rattle.session_byte.proofs.fresh_in.Goals as goal

pub returns : goal.returns
unfolding on_cluster
returns c =
    let x = c.args in
    front_back x.m.now (lent x.n) (λ b. (fresh x.n x.f b).bytes) c.lent_for.ensures.0 (omega arith) c.fresh.auto.b
    c.fresh.ensures.3
