-- `cluster::begin` meets its contract.
use Rattle.std.proofs.lemmas.Result.{err_from_is_err_and}
use mathlib.Core.Path.{sym}
use Rattle.events.proofs.Told.{becomes, refuses, number-some}
use Rattle.events.proofs.Admitted.{ready, begin-refused, begin-opens}
use Rattle.cluster.proofs.begin.Goals as goal

pub returns-in_err-n : goal.returns-in_err-n
returns-in_err-n c =
    let a = c.args in
    let k = c.in_err-n.field-0.0 in
    let p = err_from_is_err_and c.from_residual.result c.from_residual.ensures.1 in
    rw (p.1, p.2) (refuses k (begin-refused a.c a.o a.x a.b.now c.in_err-n.ensures.refused (number-some k)))

pub open_at-requires : goal.open_at-requires
open_at-requires c =
    let a = c.args in
    ready a.c a.c a.b.now c.in_ok-n.n c.in_ok-n.ensures.counted (sym c.in_ok-n.ensures.refused)

pub returns : goal.returns
returns c =
    let a = c.args in
    becomes c.open_at.result c.open_at.new.b
    (begin-opens a.c a.o a.x a.b.now c.in_ok-n.n c.in_ok-n.ensures.counted
    (sym c.in_ok-n.ensures.refused))
    c.open_at.ensures
