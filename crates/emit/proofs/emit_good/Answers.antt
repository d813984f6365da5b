-- `emit::emit_good` meets its contract.
use Rattle.std.proofs.Common.{ℕ, ◌+◌, refl, ap, arith}
use Rattle.wire.proofs.Numbers.{size-most, view-length}
use Rattle.emit.proofs.Runs.{emitted, answered, same-length}
use Rattle.emit.proofs.emit_good.Goals as goal

pub good-requires : goal.good-requires
good-requires c =
    let a = c.args in
    let p = c.requires in
    omega (arith, size-most a.n p.0, view-length a.n a.tag a.v.now p.1)

pub unwrap-requires : goal.unwrap-requires
unwrap-requires c =
    let a = c.args in
    let law = emitted a.tag a.v.now a.out.now a.at c.requires.2 c.good.result c.good.new.out c.good.ensures.0
    c.good.ensures.1 in
    rw (answered c.good.result _ law.0) refl

pub overflow_add-result : goal.overflow_add-result
overflow_add-result c =
    let a = c.args in
    let law = emitted a.tag a.v.now a.out.now a.at c.requires.2 c.good.result c.good.new.out c.good.ensures.0
    c.good.ensures.1 in
    omega (arith, same-length c.good.result c.unwrap.ensures law.0, c.requires.2)

pub returns : goal.returns
returns c =
    let a = c.args in
    let law = emitted a.tag a.v.now a.out.now a.at c.requires.2 c.good.result c.good.new.out c.good.ensures.0
    c.good.ensures.1 in
    (ap (λ (k : ℕ). a.at + k) (same-length c.good.result c.unwrap.ensures law.0), law.1)
