-- `release::sending::let_handled` meets its contract.
use mathlib.Core.Path.{sym, ◌∙◌}
use Rattle.wire.specs.Layout.{value_size}
use Rattle.layout.specs.Slot.{slot_from}
use Rattle.outgoing.proofs.Forwarded.{let-forwarded}
use Rattle.release.proofs.sending.let_handled.Goals as goal

pub returns-then-is_forward : goal.returns-then-is_forward
returns-then-is_forward c =
    let a = c.args in
    let h = sym c.is_forward.ensures ∙ c.if-is_forward.true in
    c.let_forward.ensures
    ∙ sym (let-forwarded a.n a.a a.c a.v a.s a.left a.b.now
    (slot_from a.b.now a.from value_size) h (c.requires.6 h).1)
