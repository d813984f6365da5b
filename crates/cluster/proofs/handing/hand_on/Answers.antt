-- `cluster::handing::hand_on` meets its contract.
use borrow.Author.Rules.{rules}
use Prim.Native.Nat.{ℕ}
use mathlib.Core.Path.{◌≡◌, refl, sym, ap, ap₂, ◌∙◌, subst}
use native.Mathlib.Omega.{arith}
use Rattle.refusal.specs.declared.Refusal.TheVariants.{Stops, Value}
use Rattle.view.specs.View.{view_of}
use Rattle.wire.specs.Codec.{view_at}
use Rattle.record.specs.Usable.{usable}
use Rattle.record.specs.declared.Node.{Node}
use Rattle.step.specs.Claims.{AllLawful}
use Rattle.step.specs.Move.{move_on, message_step}
use Rattle.step.specs.Step.{started, messages}
use Rattle.step.proofs.Allowed.{lawful-writer}
use Rattle.region.specs.Channel.{first}
use Rattle.region.specs.Record.{record_of}
use Rattle.region.proofs.Back.{sized-view, sized_of}
use Rattle.react_bytes.proofs.Handling.{reacted-step}
use Rattle.step_bytes.specs.Moved.{effect}
use Rattle.step_bytes.specs.declared.Effect.{Effect}
use Rattle.step_bytes.proofs.Cases.{as_step}
use Rattle.step_bytes.proofs.Moved.{sized-moved, step-bytes, step_back}
use Rattle.step_bytes.proofs.Planned.{can-plan, can-follow}
use Rattle.block.specs.Block.{take_off}
use Rattle.layout.specs.Layout.{node, channel, on_block}
use Rattle.step_bytes.proofs.Turned.{step_of}
use Rattle.outgoing.specs.Forward.{ReceivedAt}
use Rattle.outgoing.proofs.Judged.{cut-judged}
use Rattle.events.proofs.Told.{refuses, becomes}
use Rattle.events.proofs.Settled.{settle-told}
use Rattle.events.proofs.Handed.{hand-stale, hand-uncut, hand-settles}
use Rattle.cluster.proofs.Stepped.{at, view, step, step-received, step-lawful}
use Rattle.cluster.proofs.handing.hand_on.Goals as goal

pub is_stale_in-requires : goal.is_stale_in-requires
is_stale_in-requires c =
    let a = c.args in
    let h = c.requires.0 in (
      search rules,
      h.from_low,
      omega (arith, h.small, h.from-high),
      lawful-writer a.n a.m _ h.small
          c.requires.1,
    )

pub returns-then-is_stale_in : goal.returns-then-is_stale_in
returns-then-is_stale_in c =
    let a = c.args in
    let d = record_of c.copy_record_at.new.r in
    let at : d ≡ node a.b.now a.c = ap record_of c.copy_record_at.ensures in
    refuses Value (hand-stale a.n a.a a.c a.x a.b.now (first (channel a.b.now a.a a.c))
    a.m d at
    (sym c.is_stale_in.ensures ∙ c.if-is_stale_in.true))

pub returns-then-not-may_cut : goal.returns-then-not-may_cut
returns-then-not-may_cut c =
    let a = c.args in
    let d = record_of c.copy_record_at.new.r in
    let at : d ≡ node a.b.now a.c = ap record_of c.copy_record_at.ensures in
    refuses Stops (hand-uncut a.n a.a a.c a.x a.b.now (first (channel a.b.now a.a a.c))
    a.m d at
    (sym c.is_stale_in.ensures ∙ c.if-is_stale_in.false)
    (cut-judged a.n a.x a.b.now c.is_cut.ensures c.may_cut.ensures c.if-not-may_cut.true))

pub handle_first-sent-requires : goal.handle_first-sent-requires
handle_first-sent-requires c =
    let a = c.args in
    let h = c.requires.0 in (
      h.small,
      h.from_low,
      h.from-high,
      h.low,
      h.high,
      h.long,
      search rules,
      lawful-writer a.n a.m _ h.small c.requires.1,
    )

pub faults_in-requires : goal.faults_in-requires
faults_in-requires c =
    let h = c.requires.0 in omega (arith, h.long, h.low, h.high)

pub plan_in-p-requires : goal.plan_in-p-requires
plan_in-p-requires c =
    let a = c.args in
    let h = c.requires.0 in
    let r = c.copy_record_at.new.r in
    let at : record_of r ≡ node a.b.now a.c = ap record_of c.copy_record_at.ensures in
    let r' = c.handle_first-sent.new.r in
    let s = view_at a.n (first (channel a.b.now a.a a.c)) in
    let long = c.handle_first-sent.auto.r ∙ c.copy_record_at.auto.r ∙ c.requires.2 in
    can-plan r r' a.n a.a a.m (view_of a.n s) (sized-view a.n s h.small) c.handle_first-sent.ensures.1
    (ap (λ (y : Node). y.n) at ∙ h.same) (ap usable at ∙ h.can-step) h.from_low h.from-high c.requires.1
    long h.small _ (omega (arith, h.half, c.faults_in.ensures))

pub follow_in-e-requires : goal.follow_in-e-requires
follow_in-e-requires c =
    let a = c.args in
    let h = c.requires.0 in
    let r = c.copy_record_at.new.r in
    let at : record_of r ≡ node a.b.now a.c = ap record_of c.copy_record_at.ensures in
    let r' = c.handle_first-sent.new.r in
    let s = view_at a.n (first (channel a.b.now a.a a.c)) in
    let long = c.handle_first-sent.auto.r ∙ c.copy_record_at.auto.r ∙ c.requires.2 in
    can-follow r r' a.n a.a a.m (view_of a.n s) (sized-view a.n s h.small) c.handle_first-sent.ensures.1
    (ap (λ (y : Node). y.n) at ∙ h.same) (ap usable at ∙ h.can-step) h.from_low h.from-high c.requires.1
    long h.small c.plan_in-p.result c.plan_in-p.ensures.1

pub settle_delivery-room-requires : goal.settle_delivery-room-requires
unfolding message_step
settle_delivery-room-requires c =
    let a = c.args in
    let h = c.requires.0 in
    let r' = c.handle_first-sent.new.r in
    let most = c.faults_in.result in
    let s = started (record_of r') a.a c.handle_first-sent.result in
    let does = as_step (c.plan_in-p.ensures.0 a.a c.handle_first-sent.result) c.follow_in-e.ensures in
    let place = at a.n a.a a.c a.m a.b.now h in
    let whole = step a.n a.a a.c a.m a.b.now h in
    let v = view a.n a.a a.c a.m a.b.now h in
    let r = c.copy_record_at.new.r in
    let same : record_of r ≡ node a.b.now a.c = ap record_of c.copy_record_at.ensures in
    let is : c.follow_in-e.result ≡ effect whole = does.0 ∙ ap effect
    (ap (move_on most) (reacted-step r r' a.a a.m v (sized-view a.n _ h.small) c.handle_first-sent.ensures.1
    c.handle_first-sent.ensures.0) ∙ ap₂ (λ (j : ℕ) (d : Node). message_step j d a.a a.m v) c.faults_in.ensures same) in
    let long = c.follow_in-e.auto.r ∙ c.handle_first-sent.auto.r ∙ c.copy_record_at.auto.r ∙ c.requires.2
    in (
      h.small,
      h.from_low,
      h.from-high,
      h.low,
      h.high,
      h.long,
      long,
      step-bytes (move_on most s) (sized-moved most s (sized_of r')) does,
      subst (λ (e : Effect). ReceivedAt a.n a.a a.c e.outbox.view e.outbox.handler a.b.now place)
          (sym is) (step-received a.n a.a a.c a.m a.b.now h c.requires.3 whole.outbox.view),
      subst (λ (e : Effect). AllLawful a.n e.outbox.view (messages e.outbox)) (sym is)
          (step-lawful a.n a.a a.c a.m a.b.now h c.requires.1),
    )

pub shape_of-r : goal.shape_of-r
shape_of-r c =
    c.follow_in-e.auto.r ∙ c.handle_first-sent.auto.r ∙ c.copy_record_at.auto.r

pub returns : goal.returns
unfolding message_step
returns c =
    let a = c.args in
    let h = c.requires.0 in
    let r = c.copy_record_at.new.r in
    let d = record_of r in
    let at : d ≡ node a.b.now a.c = ap record_of c.copy_record_at.ensures in
    let r' = c.handle_first-sent.new.r in
    let t = first (channel a.b.now a.a a.c) in
    let v = view_of a.n (view_at a.n t) in
    let z = sized-view a.n (view_at a.n t) h.small in
    let most = c.faults_in.result in
    let s = started (record_of r') a.a c.handle_first-sent.result in
    let back = step_back (move_on most s) (sized-moved most s (sized_of r')) (as_step (c.plan_in-p.ensures.0 a.a
    c.handle_first-sent.result) c.follow_in-e.ensures) in
    becomes c.answered.result c.settle_delivery-room.new.b
    (hand-settles a.n a.a a.c a.x a.b.now t a.m d at
    (sym c.is_stale_in.ensures ∙ c.if-is_stale_in.false)
    (cut-judged a.n a.x a.b.now c.is_cut.ensures c.may_cut.ensures c.if-not-may_cut.false)
    c.faults_in.ensures refl
    (back ∙ ap (move_on most) (reacted-step r r' a.a a.m v z c.handle_first-sent.ensures.1
    c.handle_first-sent.ensures.0)))
    (settle-told a.n a.a a.c a.x (step_of (record_of c.follow_in-e.new.r) c.follow_in-e.result)
    (on_block a.c (take_off a.a) a.b.now) a.b.now
    c.answered.result c.settle_delivery-room.ensures.0 c.settle_delivery-room.ensures.1 c.is_cut-2.ensures
    c.answered.ensures.0 c.answered.ensures.1)
