-- `release::sending::let_message` meets its contract: after i turns its loop has what the definition has after i.
use Prim.Native.Nat.{ℕ, ◌+◌, min}
use native.Mathlib.Omega.{arith}
use mathlib.Core.Path.{◌≡◌, sym, ap, ◌∙◌}
use mathlib.Core.List.{List}
use Rattle.octets.specs.Loop.{up_to}
use Rattle.octets.proofs.Loop.{up_to-none, up_to-more}
use Rattle.block.specs.Block.{receive}
use Rattle.layout.specs.Layout.{on_block}
use Rattle.outgoing.proofs.Out.{let-nothing, let-answer, let-others}
use Rattle.release.proofs.sending.let_message.Goals as goal

pub returns-else-left-gt0 : goal.returns-else-left-gt0
returns-else-left-gt0 c =
    let a = c.args in
    sym (let-nothing a.n a.a a.c a.v a.m a.left a.b.now (omega arith))

pub returns-then-left-gt0 : goal.returns-then-left-gt0
returns-then-left-gt0 c =
    let a = c.args in
    c.receive_at-then-left-gt0.ensures
    ∙ ap (λ (t : List ℕ). on_block a.a (receive a.c t) a.b.now) c.slot_of-s.ensures
    ∙ sym (let-answer a.n a.a a.c a.v a.m a.left a.b.now
    (sym c.is_answer.ensures ∙ c.if-not-is_answer.false) c.if-left-gt0.true)

pub loop-k-init : goal.loop-k-init
loop-k-init c = sym (up_to-none _ _)

pub loop-k-preserved : goal.loop-k-preserved
loop-k-preserved c =
    let a = c.args in
    let k = c.loop-k.k in
    c.receive_at.ensures
    ∙ ap (λ (t : List ℕ). on_block (k + 1) (receive a.c c.slot_of-s.result) t) c.loop-k.invariant
    ∙ sym (up_to-more k (λ i. on_block (i + 1) (receive a.c c.slot_of-s.result)) a.b.now)

pub returns-after-loop-k : goal.returns-after-loop-k
returns-after-loop-k c =
    let a = c.args in
    let e : c.loop-k.k ≡ min a.left a.n = omega arith in
    c.loop-k.invariant
    ∙ ap (λ (j : ℕ). up_to j (λ i. on_block (i + 1) (receive a.c c.slot_of-s.result)) a.b.now) e
    ∙ ap (λ (t : List ℕ). up_to (min a.left a.n) (λ i. on_block (i + 1) (receive a.c t)) a.b.now)
    c.slot_of-s.ensures
    ∙ sym (let-others a.n a.a a.c a.v a.m a.left a.b.now
    (sym c.is_answer.ensures ∙ c.if-not-is_answer.true))
