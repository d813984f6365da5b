-- `session::read_bytes` meets its contract: after i turns its loop has what the definition has after i.
use Rattle.std.proofs.Common.{◌≡◌, ◌≤◌, ℕ, List, length, take, refl, sym, ap, ◌∙◌, arith, length-take}
use lib.Seq.{take-length}
use Rattle.session.proofs.Turning.{read_none, read_more, take-least}
use Rattle.session.proofs.read_bytes.Goals as goal

pub loop-x-init : goal.loop-x-init
loop-x-init c = let x = c.args in read_none x.p _ x.m.now x.out.now

pub step-t-requires : goal.step-t-requires
step-t-requires c =
    let front : List ℕ = take c.min.result c.args.piece.now in
    let few : length front ≤ length c.args.piece.now = rw length-take (omega arith) in
    omega (arith, c.loop-x.invariant.short, c.loop-x-test.true, few, c.requires)

pub loop-x-preserved : goal.loop-x-preserved
loop-x-preserved c =
    let e = c.step-t.ensures in
    read_more c.loop-x.invariant c.loop-x-test.true refl e.0 e.1 e.2 e.3

pub returns : goal.returns
returns c =
    let x = c.args in
    let r = c.loop-x.invariant in
    let front : List ℕ = take c.min.result x.piece.now in
    let few : length front ≤ length x.piece.now = rw length-take (omega arith) in
    let all : c.loop-x.x-index ≡ length front = omega (arith, c.loop-x-test.false, c.loop-x.auto.x-index-end) in
    let same : take c.loop-x.x-index front ≡ take x.count x.piece.now =
    ap (λ (k : ℕ). take k front) all ∙ take-length front
    ∙ take-least x.piece.now x.count c.min.result c.min.ensures in
    rw (sym same) (r.progress, r.memory, r.buffer, r.place, omega (arith, r.short, all, few, c.requires))
