-- `node_bytes::message` meets its contract.
use Rattle.refusal.specs.declared.Refusal.TheVariants.{Layout, Node}
use Rattle.std.proofs.lemmas.Result.{err_from_is_err_and}
use Rattle.events.proofs.Told.{number-some}
use borrow.Author.Rules.{rules}
use mathlib.Core.Path.{◌≡◌, sym, ap, ◌∙◌}
use mathlib.Core.Bool.{true, false}
use mathlib.Core.List.{List}
use Prim.Native.Nat.{ℕ}
use lib.Dec.{leb}
use borrow.Author.Tests.{le-ltb, leb-true}
use Rattle.octets.specs.Answer.{returned}
use Rattle.octets.specs.Test.{both}
use Rattle.octets.proofs.Test.{both_left, both_right}
use Rattle.wire.specs.Codec.{decode, view_part}
use Rattle.wire.specs.Layout.{encode, allowed}
use Rattle.refusal.specs.Refusal.{answer}
use Rattle.wire.proofs.Handed.{read-room, read_view}
use Rattle.wire.proofs.RoundTrip.{read_only}
use Rattle.calls.specs.Entry as N
use Rattle.calls.proofs.Refusals.{message-2, message-3, message-7, message-read}
use Rattle.region.specs.Record.{record_of}
use Rattle.calls_bytes.specs.Entry.{in_bytes}
use Rattle.node_bytes.proofs.Admitted.{admitted, turned, at-admitted, refused-at}
use Rattle.node_bytes.proofs.Stepped.{becomes-shown, refuses-shown}
use Rattle.node_bytes.proofs.message.Goals as goal

pub returns-in_err-n : goal.returns-in_err-n
returns-in_err-n c =
    let a = c.args in
    let k = c.in_err-n.field-0.0 in
    let p = err_from_is_err_and c.from_residual.result c.from_residual.ensures.1 in
    rw (p.1, p.2) (refuses-shown k (turned a.r.now a.out.now (λ d. N.message d a.s a.b.now a.out.now)
    (λ l u. message-2 _ a.s a.b.now a.out.now (le-ltb _ _ l) u) c.in_err-n.ensures.refused (number-some k)))

pub returns-then-not-s-n : goal.returns-then-not-s-n
returns-then-not-s-n c =
    let a = c.args in
    let test : both (leb 1 a.s) (leb a.s c.in_ok-n.n) ≡ false = search rules in
    let h = admitted N.least_output a.r.now a.out.now (sym c.in_ok-n.ensures.refused) in
    let d = record_of a.r.now in
    let e = c.in_ok-n.ensures.counted in
    refuses-shown Node (refused-at a.r.now a.out.now (λ d. N.message d a.s
    a.b.now a.out.now) h
    (message-3 d a.s a.b.now a.out.now (le-ltb _ _ h.room) h.can-step
    (ap (λ (j : ℕ). both (leb 1 a.s) (leb a.s j)) e ∙ test)))

pub parsed_view-requires : goal.parsed_view-requires
parsed_view-requires c =
    read-room c.in_ok-n.n c.args.b.now _ (ap answer (sym c.in-Ok.is) ∙ c.parse-p.ensures)

pub take_message-requires : goal.take_message-requires
take_message-requires c =
    let a = c.args in
    let test : both (leb 1 a.s) (leb a.s c.in_ok-n.n) ≡ true = search rules in
    let h = admitted N.least_output a.r.now a.out.now (sym c.in_ok-n.ensures.refused) in
    let d = record_of a.r.now in
    let e = c.in_ok-n.ensures.counted in
    let n = c.in_ok-n.n in
    let m = c.in-Ok.m in
    let read = sym c.parse-p.ensures ∙ ap answer c.in-Ok.is in
    let whole = read_only n a.b.now m read in
    let view = c.parsed_view.ensures.0 ∙ read_view n a.b.now _ (sym read) in
    let low = leb 1 a.s in
    let high = leb a.s n in
    let sender = test in (
      h.long,
      h.can-step,
      e,
      leb-true _ _ (both_left low high sender),
      leb-true _ _ (both_right low high sender),
      ap (λ (v : List ℕ). allowed n m v) view ∙ whole.allowed-is,
      h.room,
      whole.bytes ∙ ap (encode m) (sym view),
    )

pub returns-in-Ok : goal.returns-in-Ok
returns-in-Ok c =
    let a = c.args in
    let test : both (leb 1 a.s) (leb a.s c.in_ok-n.n) ≡ true = search rules in
    let h = admitted N.least_output a.r.now a.out.now (sym c.in_ok-n.ensures.refused) in
    let d = record_of a.r.now in
    let e = c.in_ok-n.ensures.counted in
    let sender = ap (λ (j : ℕ). both (leb 1 a.s) (leb a.s j)) e ∙ test in
    let n = c.in_ok-n.n in
    let m = c.in-Ok.m in
    let read = sym c.parse-p.ensures ∙ ap answer c.in-Ok.is in
    let view = c.parsed_view.ensures.0 ∙ read_view n a.b.now _ (sym read) ∙ ap (λ (j : ℕ). view_part j
    a.b.now) (sym e) in
    becomes-shown c.take_message.result _ _ _ _
    (at-admitted a.r.now a.out.now (λ d. N.message d a.s a.b.now a.out.now) h
    ∙ ap (in_bytes a.r.now) (message-read d a.s a.b.now a.out.now (le-ltb _ _ h.room)
    h.can-step sender m
    (ap (λ (j : ℕ). decode j a.b.now) e ∙ read)
    ∙ ap (λ (v : List ℕ). N.taken d a.s v a.out.now (returned m)) (sym view)))
    c.take_message.ensures

pub returns-in-Err : goal.returns-in-Err
returns-in-Err c =
    let a = c.args in
    let test : both (leb 1 a.s) (leb a.s c.in_ok-n.n) ≡ true = search rules in
    let h = admitted N.least_output a.r.now a.out.now (sym c.in_ok-n.ensures.refused) in
    let d = record_of a.r.now in
    let e = c.in_ok-n.ensures.counted in
    let sender = ap (λ (j : ℕ). both (leb 1 a.s) (leb a.s j)) e ∙ test in
    let read = sym c.parse-p.ensures ∙ ap answer c.in-Err.is in
    refuses-shown Layout (refused-at a.r.now a.out.now (λ d. N.message d a.s
    a.b.now a.out.now) h
    (message-7 d a.s a.b.now a.out.now (le-ltb _ _ h.room) h.can-step sender _
    (ap (λ (j : ℕ). decode j a.b.now) e ∙ read)))
