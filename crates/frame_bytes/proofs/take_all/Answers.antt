-- `frame_bytes::take_all` meets its contract.
use Rattle.std.specs.Prelude.{Ok, Err}
use Rattle.octets.specs.Test.{pick}
use Rattle.calls_bytes.specs.Frame.{is_ending}
use Rattle.frame_bytes.proofs.Judging.{never}
use borrow.Author.Rules.{rules}
use Prim.Native.Nat.{ℕ, ◌<◌}
use mathlib.Core.Path.{refl, sym, ap, ◌∙◌, subst}
use mathlib.Core.List.{List}
use native.Mathlib.Omega.{arith}
use lib.ListN.{length, length-drop}
use lib.Seq.{length-take-le}
use Rattle.octets.proofs.Test.{true-false}
use Rattle.refusal.specs.Refusal.{answer}
use Rattle.wire.proofs.Handed.{front-room, found-view, part_end}
use Rattle.wire.proofs.RoundTrip.{front-some, front-within}
use Rattle.step.specs.Told.{nothing}
use Rattle.calls_bytes.specs.Entry.{LentResult}
use Rattle.calls_bytes.specs.Frame.{one_by_one}
use Rattle.calls_bytes.proofs.Walk.{whole-none}
use Rattle.node_bytes.specs.Called.{Shows}
use Rattle.node_bytes.proofs.Stepped.{called}
use Rattle.frame_bytes.proofs.Loops.{empty, found-allowed, found-bytes}
use Rattle.frame_bytes.proofs.Taking.{same_ending, so, room, sent-inside, later, tell', on, room-on, view-on, back}
use Rattle.frame_bytes.proofs.Taking.{first-along, last-along, in-word}
use Rattle.frame_bytes.proofs.take_all.Goals as goal

pub loop-t-init : goal.loop-t-init
loop-t-init c =
    let a = c.args in
    (nothing, first-along a.r.now a.n a.s a.b.now a.out.now c.requires.0, refl, refl, c.requires.1)

pub slice_bounds-take_message-end : goal.slice_bounds-take_message-end
slice_bounds-take_message-end c =
    let t = c.loop-t.t.now in
    let high = front-within c.args.n t _ _ (sym c.loop-t.invariant.4 ∙ ap answer c.in-Ok.is) in
    sym (length-take-le _ t high)

pub found_view-requires : goal.found_view-requires
found_view-requires c =
    front-room c.args.n c.loop-t.t.now _ c.loop-t.invariant.4

pub slice_bounds-take_message-count : goal.slice_bounds-take_message-count
slice_bounds-take_message-count c =
    c.loop-t.invariant.1.stand.inside

pub slice_bounds-take_message-start : goal.slice_bounds-take_message-start
slice_bounds-take_message-start c =
    let h = c.loop-t.invariant.1.stand.inside in search rules

pub slice_bounds-take_message-end-in-loop-t : goal.slice_bounds-take_message-end-in-loop-t
slice_bounds-take_message-end-in-loop-t c =
    let h = c.loop-t.invariant.1.stand.inside in search rules

pub take_message-requires : goal.take_message-requires
take_message-requires c =
    let n = c.args.n in
    let p = c.requires.0 in
    let t = c.loop-t.t.now in
    let read = sym c.loop-t.invariant.4 ∙ ap answer c.in-Ok.is in
    let view = c.found_view.ensures.0 ∙ found-view n t _ c.loop-t.invariant.4 in
    let along = c.loop-t.invariant.1 in
    let big = room n c.args.s p.low p.high t _ c.loop-t.ending _ along p.ends _ _ read in (
      along.stand.long,
      along.stand.can-step,
      along.stand.n-is,
      p.low,
      p.high,
      found-allowed n t _ _ read _ view,
      rw (part_end c.loop-t.at c.loop-t.out) big,
      found-bytes n t _ _ read _ view,
    )

pub overflow_add-at : goal.overflow_add-at
overflow_add-at c =
    let n = c.args.n in
    let p = c.requires.0 in
    let t = c.loop-t.t.now in
    let read = sym c.loop-t.invariant.4 ∙ ap answer c.in-Ok.is in
    let view = c.found_view.ensures.0 ∙ found-view n t _ c.loop-t.invariant.4 in
    let inside = sent-inside n c.args.s p.low p.high t (so c.loop-t.invariant.0 c.loop-t.ending c.loop-t.r c.loop-t.at
    c.loop-t.out)
    c.loop-t.ending _ c.loop-t.invariant.1 p.ends _ _ read _ view _ (part_end c.loop-t.at c.loop-t.out)
    (Ok c.in_ok-a.a) _ _
    _ _
    c.in_ok-a.ensures in
    in-word inside c.loop-t.invariant.3 c.well_formed.1.1.1.1.1.0.0

pub slice_bounds-t-count : goal.slice_bounds-t-count
slice_bounds-t-count c =
    front-within c.args.n c.loop-t.t.now _ _ (sym c.loop-t.invariant.4 ∙ ap answer c.in-Ok.is)

pub slice_bounds-t-start : goal.slice_bounds-t-start
slice_bounds-t-start c =
    let high = front-within c.args.n c.loop-t.t.now _ _ (sym c.loop-t.invariant.4 ∙ ap answer c.in-Ok.is) in
    search rules

pub slice_bounds-t-end : goal.slice_bounds-t-end
slice_bounds-t-end c =
    let high = front-within c.args.n c.loop-t.t.now _ _ (sym c.loop-t.invariant.4 ∙ ap answer c.in-Ok.is) in
    search rules

pub loop-t-smaller : goal.loop-t-smaller
loop-t-smaller c =
    let t = c.loop-t.t.now in
    let k = c.in-Ok.k in
    let read = sym c.loop-t.invariant.4 ∙ ap answer c.in-Ok.is in
    let low = front-some c.args.n t _ _ read in
    let high = front-within c.args.n t _ _ read in
    let l = ap (λ (z : List ℕ). length z) (part_end k t) ∙ length-drop k t in
    omega (arith, low, high, l)

pub loop-t-preserved : goal.loop-t-preserved
loop-t-preserved c =
    let n = c.args.n in
    let s = c.args.s in
    let p = c.requires.0 in
    let t = c.loop-t.t.now in
    let k = c.in-Ok.k in
    let read = sym c.loop-t.invariant.4 ∙ ap answer c.in-Ok.is in
    let view = c.found_view.ensures.0 ∙ found-view n t _ c.loop-t.invariant.4 in
    let whole = one_by_one c.args.r.now s c.args.b.now c.args.out.now in
    let so_far = so c.loop-t.invariant.0 c.loop-t.ending c.loop-t.r c.loop-t.at c.loop-t.out in
    let x = c.first_ending-ending.ensures
    ∙ ap (pick (is_ending c.loop-t.ending) c.loop-t.ending)
    (same_ending (later n s p.low p.high t so_far c.loop-t.ending whole c.loop-t.invariant.1 p.ends _ k
    read _ view _ (part_end c.loop-t.at c.loop-t.out) (Ok c.in_ok-a.a) _ _ _ _ c.in_ok-a.ensures)) in
    let end = back c.loop-t.at c.loop-t.out c.take_message.new.out in (
      tell' n s p.low p.high t so_far c.loop-t.ending whole c.loop-t.invariant.1 p.ends _ k
          read _ view _ (part_end c.loop-t.at c.loop-t.out) (Ok c.in_ok-a.a) _ _ _ _ c.in_ok-a.ensures
          c.first_ending-ending.result x _ end,
      rw (part_end k t) (on n s p.low p.high t so_far c.loop-t.ending whole c.loop-t.invariant.1 p.ends _ k
          read _ view _ (part_end c.loop-t.at c.loop-t.out) (Ok c.in_ok-a.a) _ _ _ _ c.in_ok-a.ensures
          c.first_ending-ending.result x _
          end),
      view-on n s p.low p.high t so_far c.loop-t.ending whole c.loop-t.invariant.1 p.ends _ k
          read _ view _ (part_end c.loop-t.at c.loop-t.out) (Ok c.in_ok-a.a) _ _ _ _ c.in_ok-a.ensures
          c.first_ending-ending.result x _
          end _
          c.loop-t.invariant.2,
      room-on n s p.low p.high t so_far c.loop-t.ending whole c.loop-t.invariant.1 p.ends _ k
          read _ view _ (part_end c.loop-t.at c.loop-t.out) (Ok c.in_ok-a.a) _ _ _ _ c.in_ok-a.ensures
          c.first_ending-ending.result x _
          end ∙ c.loop-t.invariant.3,
      c.parse_prefix-f.ensures,
    )

pub returns-in_err-a : goal.returns-in_err-a
returns-in_err-a c =
    let n = c.args.n in
    let p = c.requires.0 in
    let t = c.loop-t.t.now in
    let read = sym c.loop-t.invariant.4 ∙ ap answer c.in-Ok.is in
    let view = c.found_view.ensures.0 ∙ found-view n t _ c.loop-t.invariant.4 in
    never (later n c.args.s p.low p.high t
    (so c.loop-t.invariant.0 c.loop-t.ending c.loop-t.r c.loop-t.at c.loop-t.out) c.loop-t.ending _
    c.loop-t.invariant.1 p.ends _ _ read _ view _ (part_end c.loop-t.at c.loop-t.out) (Err c.in_err-a.field-0.0)
    _ _ _ _ c.in_err-a.ensures)

pub returns-in_default : goal.returns-in_default
returns-in_default c =
    let read = sym c.loop-t.invariant.4 ∙ ap answer c.in_default.is in
    let some : 0 < length c.loop-t.t.now = search rules in
    true-false _ c.loop-t.invariant.1.whole (whole-none c.args.n c.loop-t.t.now _ read some)

pub shape_of-r : goal.shape_of-r
shape_of-r c =
    c.loop-t.invariant.1.stand.long ∙ sym c.requires.0.long

pub shape_of-out : goal.shape_of-out
shape_of-out c = c.loop-t.invariant.3

pub returns : goal.returns
returns c =
    let st = c.loop-t.invariant.1.stand in
    subst (λ (e : LentResult). Shows (called c.loop-t.ending c.loop-t.at) c.loop-t.r c.loop-t.out c.loop-t.view e
    c.args.view.now)
    (last-along c.args.n c.args.s c.loop-t.t.now _ c.loop-t.ending _ c.loop-t.invariant.1
    (empty c.loop-t.t.now (search rules)))
    ((st.tells, refl, refl, refl, refl), c.loop-t.invariant.2)
