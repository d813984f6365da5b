-- `node_bytes::take_message` meets its contract.
use Rattle.refusal.specs.declared.Refusal.TheVariants.{Value}
use mathlib.Core.Path.{refl, sym, ap, ◌∙◌, subst}
use native.Mathlib.Omega.{arith}
use lib.ListN.{length}
use Rattle.view.specs.View.{view_of}
use Rattle.step.specs.declared.Step.{Step}
use Rattle.step.specs.declared.Ending.TheVariants.{None}
use Rattle.step.proofs.Allowed.{allowed-lawful}
use Rattle.calls.proofs.Refusals.{taken-9, taken-goes}
use Rattle.calls.proofs.Rim.{read-writer}
use Rattle.calls.proofs.Rooms.{faults-below}
use Rattle.region.specs.Record.{record_of}
use Rattle.region.proofs.Back.{sized-view}
use Rattle.react_bytes.proofs.Handling.{reacted-bytes}
use Rattle.react_bytes.proofs.Views.{allowed-there}
use Rattle.step_bytes.specs.Moved.{IsStep}
use Rattle.step_bytes.proofs.Planned.{can-plan, can-follow}
use Rattle.calls_bytes.specs.Entry.{in_bytes}
use Rattle.node_bytes.proofs.Admitted.{in-refused, small_n}
use Rattle.node_bytes.proofs.Stepped.{called, becomes-shown, refuses-shown, stepped, step-shows, handled, can_write}
use Rattle.node_bytes.proofs.Stepped.{step, step-n, step-fit, at_rest, rest-can-write, rest-lets}
use Rattle.node_bytes.proofs.Stepped.{handler-short, handler-received, step-received, f-in}
use Rattle.node_bytes.proofs.take_message.Goals as goal

pub is_stale_in-requires : goal.is_stale_in-requires
is_stale_in-requires c =
    let a = c.args in
    let p = c.requires in
    let small = small_n a.r.now p.1 p.2 in
    (p.0, p.3, omega (arith, p.4, small), read-writer a.n a.v.now a.m p.5 small)

pub returns-then-is_stale_in : goal.returns-then-is_stale_in
returns-then-is_stale_in c =
    let a = c.args in
    refuses-shown Value (ap (in_bytes a.r.now) (taken-9 _ a.s a.v.now
    a.out.now a.m (sym c.is_stale_in.ensures ∙ c.if-is_stale_in.true)) ∙ in-refused 9
    a.r.now a.out.now)

pub react_in-sent-requires : goal.react_in-sent-requires
react_in-sent-requires c =
    let a = c.args in
    let p = c.requires in
    let small = small_n a.r.now p.1 p.2 in (
      p.0,
      small,
      allowed-there a.n a.m a.v.now p.5,
      p.3,
      omega (arith, p.4, small),
      read-writer a.n a.v.now a.m p.5 small,
    )

pub plan_in-p-requires : goal.plan_in-p-requires
plan_in-p-requires c =
    let a = c.args in
    let p = c.requires in
    let small = small_n a.r.now p.1 p.2 in
    can-plan a.r.now c.react_in-sent.new.r a.n a.s a.m (view_of a.n a.v.now)
    (sized-view a.n a.v.now small) c.react_in-sent.ensures.1 p.2 p.1 p.3 p.4
    (allowed-lawful a.n a.m a.v.now p.5) (c.react_in-sent.auto.r ∙ p.0) small _
    (omega (arith, c.get_word-f.ensures, f-in a.r.now, faults-below _ p.1, p.2))

pub emit_handler-length-requires : goal.emit_handler-length-requires
emit_handler-length-requires c =
    let a = c.args in
    let p = c.requires in
    let r = a.r.now in
    let r' = c.react_in-sent.new.r in
    let sent = c.react_in-sent.result in
    let small = small_n r p.1 p.2 in
    let v = view_of a.n a.v.now in
    let whole = handled r r' a.n a.s c.get_word-f.result a.m a.v.now p.2 small
    c.get_word-f.ensures c.react_in-sent.ensures.0 c.react_in-sent.ensures.1 in
    let bytes = reacted-bytes r r' a.s a.m v (sized-view a.n a.v.now small)
    c.react_in-sent.ensures.1 in
    let fit = rest-can-write a.n a.s sent (step r a.n a.s a.m a.v.now p.2) (length a.out.now)
    (step-fit r a.n a.s a.m a.v.now p.2 _ p.1 p.3 p.4 p.5 p.6)
    (at_rest c.plan_in-p.result r' a.s sent (sym c.is_rest.ensures ∙ c.if-is_rest.true)
    bytes
    (sym (c.plan_in-p.ensures.0 a.s sent) ∙ whole))
    (step-n r a.n a.s a.m a.v.now p.2) (handler-short _ a.s a.m v
    c.react_in-sent.ensures.0) in (
      handler-received (record_of r) a.s a.m v a.v.now a.b.now c.react_in-sent.ensures.0 p.7,
      fit.0,
      fit.1,
      fit.2,
      fit.3,
      fit.4,
    )

pub returns-then-is_rest : goal.returns-then-is_rest
returns-then-is_rest c =
    let a = c.args in
    let p = c.requires in
    let r = a.r.now in
    let r' = c.react_in-sent.new.r in
    let sent = c.react_in-sent.result in
    let small = small_n r p.1 p.2 in
    let v = view_of a.n a.v.now in
    let whole = handled r r' a.n a.s c.get_word-f.result a.m a.v.now p.2 small
    c.get_word-f.ensures c.react_in-sent.ensures.0 c.react_in-sent.ensures.1 in
    let bytes = reacted-bytes r r' a.s a.m v (sized-view a.n a.v.now small)
    c.react_in-sent.ensures.1 in
    let does = at_rest c.plan_in-p.result r' a.s sent (sym c.is_rest.ensures
    ∙ c.if-is_rest.true) bytes
    (sym (c.plan_in-p.ensures.0 a.s sent) ∙ whole) in
    let s = step r a.n a.s a.m a.v.now p.2 in
    becomes-shown (called None c.emit_handler-length.result) _ _ _ _ (ap (in_bytes r)
    (taken-goes (record_of r) a.s a.v.now a.out.now a.m (sym c.is_stale_in.ensures ∙
    c.if-is_stale_in.false))) (
      stepped s a.n r r' a.out.now _ c.emit_handler-length.result does
          (step-n r a.n a.s a.m a.v.now p.2) (rest-lets a.n a.s sent _ _ a.out.now
          c.emit_handler-length.ensures),
      step-shows s r r' a.out.now _ _ does refl,
    )

pub follow_in-e-requires : goal.follow_in-e-requires
follow_in-e-requires c =
    let a = c.args in
    let p = c.requires in
    let small = small_n a.r.now p.1 p.2 in
    can-follow a.r.now c.react_in-sent.new.r a.n a.s a.m (view_of a.n a.v.now)
    (sized-view a.n a.v.now small) c.react_in-sent.ensures.1 p.2 p.1 p.3 p.4
    (allowed-lawful a.n a.m a.v.now p.5) (c.react_in-sent.auto.r ∙ p.0) small c.plan_in-p.result
    c.plan_in-p.ensures.1

pub emit_all-length-requires : goal.emit_all-length-requires
emit_all-length-requires c =
    let a = c.args in
    let p = c.requires in
    let r = a.r.now in
    let whole = handled r c.react_in-sent.new.r a.n a.s c.get_word-f.result a.m a.v.now
    p.2
    (small_n r p.1 p.2) c.get_word-f.ensures c.react_in-sent.ensures.0
    c.react_in-sent.ensures.1 in
    let does = subst (λ (x : Step). IsStep c.follow_in-e.result
    c.follow_in-e.new.r x)
    (sym (c.plan_in-p.ensures.0 a.s c.react_in-sent.result) ∙ whole)
    c.follow_in-e.ensures in
    let fit = can_write (step r a.n a.s a.m a.v.now p.2) a.n (length a.out.now)
    (step-fit r a.n a.s a.m a.v.now p.2 _ p.1 p.3 p.4 p.5 p.6) does
    (step-n r a.n a.s a.m a.v.now p.2) in (
      step-received r a.n a.s a.m a.v.now a.b.now p.2 does p.7,
      fit.0,
      fit.1,
      fit.2,
      fit.3,
    )

pub returns : goal.returns
returns c =
    let a = c.args in
    let p = c.requires in
    let r = a.r.now in
    let whole = handled r c.react_in-sent.new.r a.n a.s c.get_word-f.result a.m a.v.now
    p.2
    (small_n r p.1 p.2) c.get_word-f.ensures c.react_in-sent.ensures.0
    c.react_in-sent.ensures.1 in
    let does = subst (λ (x : Step). IsStep c.follow_in-e.result
    c.follow_in-e.new.r x)
    (sym (c.plan_in-p.ensures.0 a.s c.react_in-sent.result) ∙ whole)
    c.follow_in-e.ensures in
    let s = step r a.n a.s a.m a.v.now p.2 in
    becomes-shown (called c.follow_in-e.result.ending
    c.emit_all-length.result) _ _ _ _ (ap (in_bytes r)
    (taken-goes (record_of r) a.s a.v.now a.out.now a.m (sym c.is_stale_in.ensures ∙
    c.if-is_stale_in.false))) (
      stepped s a.n r c.follow_in-e.new.r a.out.now _
          c.emit_all-length.result does
          (step-n r a.n a.s a.m a.v.now p.2) c.emit_all-length.ensures,
      step-shows s r c.follow_in-e.new.r a.out.now _ _ does c.show_view.ensures,
    )
