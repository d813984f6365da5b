-- `cluster::deliver` meets its contract.
use Rattle.std.proofs.lemmas.Result.{err_from_is_err_and}
use native.Mathlib.Omega.{arith}
use mathlib.Core.Path.{◌≡◌, sym, ap, ◌∙◌}
use Rattle.octets.specs.Answer.{returned}
use Rattle.refusal.specs.declared.Refusal.TheVariants.{Empty, Layout}
use Rattle.wire.specs.Codec.{front}
use Rattle.refusal.specs.Refusal.{number, answer}
use Rattle.region.specs.Channel.{first}
use Rattle.layout.specs.Layout.{channel}
use Rattle.events.proofs.Told.{becomes, refuses, number-some}
use Rattle.events.proofs.Admitted.{ready, deliver-refused}
use Rattle.events.proofs.Handed.{front-lawful, some-waits, deliver-empty, deliver-unread, deliver-hands}
use Rattle.cluster.proofs.deliver.Goals as goal

pub returns-in_err-n : goal.returns-in_err-n
returns-in_err-n c =
    let a = c.args in
    let k = c.in_err-n.field-0.0 in
    let p = err_from_is_err_and c.from_residual.result c.from_residual.ensures.1 in
    rw (p.1, p.2) (refuses k (deliver-refused a.a a.c a.x a.b.now c.in_err-n.ensures.refused (number-some k)))

pub waiting_at-requires : goal.waiting_at-requires
waiting_at-requires c =
    let a = c.args in
    let h = ready a.a a.c a.b.now c.in_ok-n.n c.in_ok-n.ensures.counted (sym c.in_ok-n.ensures.refused) in
    (h.from_low, omega (arith, h.from-high, h.small), h.low, omega (arith, h.high, h.long))

pub returns-then-waiting_at-eq0 : goal.returns-then-waiting_at-eq0
returns-then-waiting_at-eq0 c =
    let a = c.args in
    refuses Empty (deliver-empty a.a a.c a.x a.b.now c.in_ok-n.n c.in_ok-n.ensures.counted
    (sym c.in_ok-n.ensures.refused) c.waiting_at.ensures.0
    c.if-waiting_at-eq0.true)

pub first_at-requires : goal.first_at-requires
first_at-requires c =
    let a = c.args in
    let h = ready a.a a.c a.b.now c.in_ok-n.n c.in_ok-n.ensures.counted (sym c.in_ok-n.ensures.refused) in
    (h.from_low, omega (arith, h.from-high, h.small), h.low, omega (arith, h.high, h.long))

pub hand_over-requires : goal.hand_over-requires
hand_over-requires c =
    let a = c.args in
    let n = c.in_ok-n.n in
    let s = first (channel a.b.now a.a a.c) in
    let e : front n s ≡ returned (c.in-Ok.m, c.in-Ok.field-0-1) = sym (ap (front n) c.first_at.ensures) ∙ sym
    c.parse_prefix.ensures
    ∙ ap answer c.in-Ok.is in (
      ready a.a a.c a.b.now n c.in_ok-n.ensures.counted (sym c.in_ok-n.ensures.refused),
      front-lawful n s c.in-Ok.m c.in-Ok.field-0-1 e,
      (c.in-Ok.field-0-1, e),
    )

pub returns-in-Err : goal.returns-in-Err
returns-in-Err c =
    let a = c.args in
    let n = c.in_ok-n.n in
    let t = channel a.b.now a.a a.c in
    refuses Layout (deliver-unread a.a a.c a.x a.b.now n c.in_ok-n.ensures.counted
    (sym c.in_ok-n.ensures.refused) (some-waits t c.waiting_at.ensures.0 c.if-waiting_at-eq0.false)
    (number c.in-Err.field-0)
    (sym (ap (front n) c.first_at.ensures) ∙ sym c.parse_prefix.ensures ∙ ap answer
    c.in-Err.is))

pub returns-in-Ok : goal.returns-in-Ok
returns-in-Ok c =
    let a = c.args in
    let n = c.in_ok-n.n in
    let t = channel a.b.now a.a a.c in
    let e : front n (first t) ≡ returned (c.in-Ok.m, c.in-Ok.field-0-1) = sym (ap (front n) c.first_at.ensures) ∙ sym
    c.parse_prefix.ensures
    ∙ ap answer c.in-Ok.is in
    becomes c.hand_over.result c.hand_over.new.b
    (deliver-hands a.a a.c a.x a.b.now n c.in_ok-n.ensures.counted
    (sym c.in_ok-n.ensures.refused) (some-waits t c.waiting_at.ensures.0
    c.if-waiting_at-eq0.false)
    c.in-Ok.m c.in-Ok.field-0-1 e)
    c.hand_over.ensures
