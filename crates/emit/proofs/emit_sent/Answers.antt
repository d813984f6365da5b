-- `emit::emit_sent` meets its contract. Assumes nothing.
use native.Mathlib.Omega.{arith}
use Rattle.emit.proofs.Runs.{sent-none, sent-one, sent-two, room-one, room-two}
use Rattle.emit.proofs.emit_sent.Goals as goal

pub emit_one-requires : goal.emit_one-requires
emit_one-requires c =
    let a = c.args in
    room-one a.v.now a.at a.m a.n _ c.requires c.in-One.is

pub emit_one-next-requires : goal.emit_one-next-requires
emit_one-next-requires c =
    let a = c.args in
    let r = room-two a.v.now a.at a.m a.n _ c.requires c.in-Two.is in
    (r.0, r.1, omega (arith, r.3))

pub emit_one-requires-in-Two : goal.emit_one-requires-in-Two
emit_one-requires-in-Two c =
    let a = c.args in
    let r = room-two a.v.now a.at a.m a.n _ c.requires c.in-Two.is in
    (r.0, r.2, omega (arith, r.3, c.emit_one-next.ensures.0, c.emit_one-next.auto.out))

pub returns-in-Nothing : goal.returns-in-Nothing
returns-in-Nothing c =
    let a = c.args in
    sent-none a.v.now a.at a.m a.out.now c.in-Nothing.is

pub returns-in-One : goal.returns-in-One
returns-in-One c =
    let a = c.args in
    let first = c.emit_one.ensures in
    sent-one a.v.now a.at a.m a.out.now _ _ c.in-One.is first.0 first.1

pub returns-in-Two : goal.returns-in-Two
returns-in-Two c =
    let a = c.args in
    let first = c.emit_one-next.ensures in
    let second = c.emit_one-in-Two.ensures in
    let r = room-two a.v.now a.at a.m a.n _ c.requires c.in-Two.is in
    sent-two a.v.now a.at a.m a.out.now _ _ _ _ c.in-Two.is
    (omega (arith, r.3)) first.0 first.1 second.0 second.1
