-- `node_bytes::begin` meets its contract.
use Rattle.refusal.specs.declared.Refusal.TheVariants.{Open, Requests}
use Rattle.std.proofs.lemmas.Result.{err_from_is_err_and}
use Rattle.events.proofs.Told.{number-some}
use mathlib.Core.Path.{sym, ap, ◌∙◌}
use lib.ListN.{length}
use borrow.Author.Tests.{le-ltb}
use Rattle.record.proofs.Parts.{parts}
use Rattle.step.specs.Move.{begun}
use Rattle.step.specs.declared.Ending.TheVariants.{None}
use Rattle.step.specs.declared.Step.{Step}
use Rattle.step.proofs.Waits.{begin-asks}
use Rattle.calls.specs.Entry as N
use Rattle.calls.proofs.Refusals.{begin-2, begin-5, begin-6, begin-goes}
use Rattle.calls.proofs.Rooms.{faults-below, begin-fit}
use Rattle.region.specs.Record.{record_of}
use Rattle.calls_bytes.specs.Entry.{in_bytes}
use Rattle.node_bytes.proofs.Admitted.{admitted, turned, at-admitted, refused-at}
use Rattle.node_bytes.proofs.Stepped.{called, becomes, refuses, stepped, begun_n, rest-can-write, rest-lets, read_short}
use Rattle.node_bytes.proofs.begin.Goals as goal

pub returns-in_err-n : goal.returns-in_err-n
returns-in_err-n c =
    let a = c.args in
    let k = c.in_err-n.field-0.0 in
    let p = err_from_is_err_and c.from_residual.result c.from_residual.ensures.1 in
    rw (p.1, p.2) (refuses k (turned a.r.now a.out.now (λ d. N.begin d a.o a.out.now)
    (λ l u. begin-2 _ a.o a.out.now (le-ltb _ _ l) u) c.in_err-n.ensures.refused (number-some k)))

pub is_open_in-requires : goal.is_open_in-requires
is_open_in-requires c =
    (admitted N.least_output c.args.r.now c.args.out.now (sym c.in_ok-n.ensures.refused)).long

pub returns-then-is_open_in : goal.returns-then-is_open_in
returns-then-is_open_in c =
    let a = c.args in
    let h = admitted N.least_output a.r.now a.out.now (sym c.in_ok-n.ensures.refused) in
    refuses Open (refused-at a.r.now a.out.now (λ d. N.begin d a.o a.out.now) h
    (begin-5 _ a.o a.out.now (le-ltb _ _ h.room) h.can-step (sym c.is_open_in.ensures
    ∙ c.if-is_open_in.true)))

pub is_full_in-requires : goal.is_full_in-requires
is_full_in-requires c =
    (admitted N.least_output c.args.r.now c.args.out.now (sym c.in_ok-n.ensures.refused)).long

pub returns-then-is_full_in : goal.returns-then-is_full_in
returns-then-is_full_in c =
    let a = c.args in
    let h = admitted N.least_output a.r.now a.out.now (sym c.in_ok-n.ensures.refused) in
    refuses Requests (refused-at a.r.now a.out.now (λ d. N.begin d a.o a.out.now) h
    (begin-6 _ a.o a.out.now (le-ltb _ _ h.room) h.can-step (sym c.is_open_in.ensures ∙ c.if-is_open_in.false)
    (sym c.is_full_in.ensures ∙ c.if-is_full_in.true)))

pub ask_in-sent-requires : goal.ask_in-sent-requires
ask_in-sent-requires c =
    let h = admitted N.least_output c.args.r.now c.args.out.now (sym c.in_ok-n.ensures.refused) in
    (h.long, (parts _ h.can-step).request-high)

pub emit_begin-length-requires : goal.emit_begin-length-requires
emit_begin-length-requires c =
    let a = c.args in
    let h = admitted N.least_output a.r.now a.out.now (sym c.in_ok-n.ensures.refused) in
    let d = record_of a.r.now in
    let f = d.f in
    let s = begun d a.o in
    let asks = begin-asks f d a.o (faults-below d h.can-step) in
    rest-can-write c.in_ok-n.n d.own c.ask_in-sent.result s (length a.out.now)
    (begin-fit d a.o s (length a.out.now) (sym asks) h.can-step
    (sym c.is_open_in.ensures ∙ c.if-is_open_in.false) (sym c.is_full_in.ensures ∙ c.if-is_full_in.false) h.room)
    c.ask_in-sent.ensures (begun_n d a.o ∙ c.in_ok-n.ensures.counted)
    (read_short d a.o c.ask_in-sent.ensures)

pub returns : goal.returns
returns c =
    let a = c.args in
    let h = admitted N.least_output a.r.now a.out.now (sym c.in_ok-n.ensures.refused) in
    let d = record_of a.r.now in
    let f = d.f in
    let s = begun d a.o in
    let asks = begin-asks f d a.o (faults-below d h.can-step) in
    becomes (called None c.emit_begin-length.result) _ _
    (at-admitted a.r.now a.out.now (λ d. N.begin d a.o a.out.now) h
    ∙ ap (in_bytes a.r.now) (begin-goes d a.o a.out.now (le-ltb _ _ h.room) h.can-step
    (sym c.is_open_in.ensures ∙ c.if-is_open_in.false) (sym c.is_full_in.ensures ∙ c.if-is_full_in.false)
    ∙ ap (λ (x : Step). N.let_out x a.out.now) asks))
    (stepped s c.in_ok-n.n a.r.now c.ask_in-sent.new.r a.out.now _ c.emit_begin-length.result
    c.ask_in-sent.ensures (begun_n d a.o ∙ c.in_ok-n.ensures.counted)
    (rest-lets c.in_ok-n.n d.own c.ask_in-sent.result _ _ a.out.now c.emit_begin-length.ensures))
