-- `cluster::stop` meets its contract.
use Rattle.std.proofs.lemmas.Result.{err_from_is_err_and}
use native.Mathlib.Omega.{arith}
use mathlib.Core.Path.{sym, ◌∙◌}
use Rattle.refusal.specs.declared.Refusal.TheVariants.{Stops}
use Rattle.events.proofs.Told.{gives, refuses, number-some}
use Rattle.events.proofs.Admitted.{ready, stop-refused, stop_is, stop-many, stop_halts}
use Rattle.cluster.proofs.stop.Goals as goal

pub returns-in_err-n : goal.returns-in_err-n
returns-in_err-n c =
    let a = c.args in
    let k = c.in_err-n.field-0.0 in
    let p = err_from_is_err_and c.from_residual.result c.from_residual.ensures.1 in
    rw (p.1, p.2) (refuses k (stop-refused a.c a.b.now c.in_err-n.ensures.refused (number-some k)))

pub may_cut-requires : goal.may_cut-requires
may_cut-requires c =
    let a = c.args in
    let h = ready a.c a.c a.b.now c.in_ok-n.n c.in_ok-n.ensures.counted (sym c.in_ok-n.ensures.refused) in
    (h.small, h.long)

pub returns-then-not-may_cut : goal.returns-then-not-may_cut
returns-then-not-may_cut c =
    let a = c.args in
    let n = c.in_ok-n.n in
    refuses Stops (stop_is a.c a.b.now n c.in_ok-n.ensures.counted (sym c.in_ok-n.ensures.refused)
    ∙ stop-many a.c a.b.now n (sym c.may_cut.ensures ∙ c.if-not-may_cut.true))

pub halt_at-requires : goal.halt_at-requires
halt_at-requires c =
    let a = c.args in
    let h = ready a.c a.c a.b.now c.in_ok-n.n c.in_ok-n.ensures.counted (sym c.in_ok-n.ensures.refused) in
    (h.small, h.low, omega (arith, h.high, h.long))

pub returns : goal.returns
returns c =
    let a = c.args in
    let n = c.in_ok-n.n in
    gives c.given.result c.halt_at.new.b
    (stop_is a.c a.b.now n c.in_ok-n.ensures.counted (sym c.in_ok-n.ensures.refused)
    ∙ stop_halts a.c a.b.now n (sym c.may_cut.ensures ∙ c.if-not-may_cut.false))
    c.given.ensures.0 (c.given.ensures.1 ∙ c.absent.ensures) c.halt_at.ensures
