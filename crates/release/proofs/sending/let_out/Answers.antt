-- `release::sending::let_out` meets its contract.
use Rattle.outgoing.proofs.Out.{let-three}
use Rattle.release.proofs.sending.let_out.Goals as goal

pub returns : goal.returns
returns c =
    let a = c.args in
    let-three a.n a.a a.c a.left a.o a.b.now c.let_handled.ensures
    (c.left_past-second.ensures a.a a.o.view) c.let_sent.ensures
    (c.left_past-third.ensures a.a a.o.view)
    c.let_sent-2.ensures
