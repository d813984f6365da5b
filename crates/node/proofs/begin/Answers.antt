-- `node::begin` meets its contract. Assumes nothing.
use Rattle.std.proofs.Common.{sym}
use Rattle.calls.proofs.Rooms.{begin-fit}
use Rattle.reply.proofs.Received.{begin-received}
use Rattle.node.proofs.begin.Goals as goal

pub let_out-requires : goal.let_out-requires
let_out-requires c =
    let a = c.args in
    let s = c.begin_step.result in
    let usable = sym c.if-not-is_usable.ensures in
    let idle = sym c.if-has_open.ensures in
    let enough = sym c.if-is_full.ensures in
    let fit = begin-fit a.c a.o s _ c.begin_step.ensures usable idle enough c.if-out-lt-OUTPUT.false in
    (begin-received _ a.c.f a.c a.o s c.begin_step.ensures, fit.0, fit.1, fit.2, fit.3)
