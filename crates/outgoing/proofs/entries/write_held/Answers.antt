-- `outgoing::entries::write_held` meets its contract.
use native.Mathlib.Omega.{arith}
use Rattle.view.specs.Size.{view_size}
use Rattle.view.specs.View.{view_bytes}
use Rattle.view.proofs.ViewBytes.{length-view_bytes}
use Rattle.outgoing.proofs.Slot.{front-put, good-put}
use Rattle.outgoing.proofs.entries.write_held.Goals as goal

pub returns : goal.returns
returns c =
    let x = c.args in
    let v = view_bytes x.n x.v in
    let l = length-view_bytes x.n x.v in
    let w = c.good.ensures in
    good-put x.tag v _ x.s.now (front-put _ v (view_size x.n) l c.write_view.ensures) (omega (arith, l))
    (omega arith) w.0 w.1
