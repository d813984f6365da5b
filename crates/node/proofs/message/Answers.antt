-- `node::message` meets its contract. Assumes nothing.
use Rattle.std.proofs.Common.{List, ℕ, sym, ap, ◌∙◌, subst}
use borrow.Author.Tests.{le-leb, le-ltb}
use Rattle.octets.specs.Answer.{returned}
use Rattle.octets.proofs.Test.{both_true}
use Rattle.wire.specs.Layout.{encode, allowed}
use Rattle.refusal.specs.Refusal.{answer}
use Rattle.wire.proofs.Handed.{read-room, read_view}
use Rattle.wire.proofs.RoundTrip.{read_only}
use Rattle.calls.specs.Entry.{taken}
use Rattle.calls.proofs.Refusals.{message-read}
use Rattle.reply.specs.Tells.{Tells}
use Rattle.node.proofs.message.Goals as goal

pub parsed_view-requires : goal.parsed_view-requires
parsed_view-requires c =
    let a = c.args in
    let read = sym c.parse-p.ensures ∙ ap answer c.in-Ok.is in
    read-room a.c.n a.b.now _ (sym read)

pub taken_message-requires : goal.taken_message-requires
taken_message-requires c =
    let a = c.args in
    let read = sym c.parse-p.ensures ∙ ap answer c.in-Ok.is in
    let m = c.in-Ok.m in
    let whole = read_only a.c.n a.b.now m read in
    let view = c.parsed_view.ensures.0 ∙ read_view a.c.n a.b.now _ (sym read) in (
      sym c.if-not-is_usable.ensures,
      c.if-s-lt1.false,
      c.if-c-s.false,
      ap (λ (v : List ℕ). allowed a.c.n m v) view ∙ whole.allowed-is,
      c.if-out-lt-OUTPUT.false,
      whole.bytes ∙ ap (encode m) (sym view),
    )

pub returns-in-Ok : goal.returns-in-Ok
returns-in-Ok c =
    let a = c.args in
    let long = le-ltb _ _ c.if-out-lt-OUTPUT.false in
    let sender = both_true (le-leb _ _ c.if-s-lt1.false) (le-leb _ _ c.if-c-s.false) in
    let read = sym c.parse-p.ensures ∙ ap answer c.in-Ok.is in
    let view = c.parsed_view.ensures.0 ∙ read_view a.c.n a.b.now _ (sym read) in
    let e = message-read a.c a.s a.b.now a.out.now long (sym c.if-not-is_usable.ensures) sender _ read in
    subst (Tells c.taken_message.result _)
    (ap (λ (v : List ℕ). taken a.c a.s v a.out.now (returned c.in-Ok.m)) view ∙ sym e)
    c.taken_message.ensures
