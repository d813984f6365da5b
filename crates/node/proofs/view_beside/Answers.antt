-- `node::view_beside` meets its contract. Assumes nothing.
use Rattle.std.proofs.Common.{sym, ap, ◌∙◌, arith}
use Rattle.wire.specs.Layout.{allowed}
use Rattle.wire.specs.declared.Message.{Message}
use Rattle.wire.proofs.Numbers.{view-length}
use Rattle.node.proofs.view_beside.Goals as goal

pub read_view-requires : goal.read_view-requires
read_view-requires c =
    let a = c.args in
    let p = c.requires in
    let e = view-length a.n _ a.v.now
    (ap (λ (x : Message). allowed a.n x a.v.now) (sym c.in-Good.is) ∙ p.1) in
    (p.0, omega (arith, e))
