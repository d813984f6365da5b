-- `cluster::handing::step_here` meets its contract.
use native.Mathlib.Omega.{arith}
use mathlib.Core.Path.{refl, sym, ap, ◌∙◌}
use Rattle.octets.specs.Answer.{returned}
use Rattle.octets.specs.Test.{pick}
use Rattle.octets.proofs.Test.{pick_same}
use Rattle.view.specs.View.{no_view}
use Rattle.step.specs.declared.Ending.{Ending}
use Rattle.step.specs.declared.Ending.TheVariants.{None}
use Rattle.step.specs.declared.Step.{Step}
use Rattle.step.proofs.Allowed.{lawful-writer}
use Rattle.step_bytes.specs.declared.Effect.{Effect}
use Rattle.block.specs.Block.{take_off}
use Rattle.layout.specs.Layout.{on_block}
use Rattle.outgoing.specs.Outgoing.{is_cut}
use Rattle.events.proofs.Settled.{settle-told}
use Rattle.cluster.proofs.Stepped.{step, t-long, plan-needs, follow-needs, has-room, as-started, rest-lawful}
use Rattle.cluster.proofs.Stepped.{rest-received, rest-released, is-effect, r-lawful, r-received, r-released}
use Rattle.cluster.proofs.handing.step_here.Goals as goal

pub first_place-from-requires : goal.first_place-from-requires
first_place-from-requires c =
    let h = c.requires.0 in (
      h.from_low,
      omega (arith, h.from-high, h.small),
      h.low,
      omega (arith, h.high, h.small),
      omega (arith, h.long, h.high),
    )

pub faults_in-f-requires : goal.faults_in-f-requires
faults_in-f-requires c = let h = c.requires.0 in omega (arith, h.long, h.low, h.high)

pub take_first-sent-requires : goal.take_first-sent-requires
take_first-sent-requires c =
    let a = c.args in
    let h = c.requires.0 in (
      h.small,
      h.from_low,
      omega (arith, h.from-high, h.small),
      h.low,
      omega (arith, h.high, h.small),
      omega (arith, h.long, h.high),
      lawful-writer a.n a.m _ h.small c.requires.1,
    )

pub plan_at-p-requires : goal.plan_at-p-requires
plan_at-p-requires c =
    let a = c.args in
    let p = c.requires in
    plan-needs a.n a.a a.c a.m a.b.now p.0 p.2 p.1 c.take_first-sent.new.b
    c.take_first-sent.result
    c.take_first-sent.ensures.0 c.take_first-sent.ensures.1 c.faults_in-f.result c.faults_in-f.ensures

pub release_handled-requires : goal.release_handled-requires
release_handled-requires c =
    let a = c.args in
    let p = c.requires in
    let h = p.0 in
    let still = sym c.is_rest.ensures ∙ c.if-is_rest.true in (
      h.small,
      h.from_low,
      h.from-high,
      h.low,
      h.high,
      t-long a.n a.a a.c a.m a.b.now h p.2 p.1 c.take_first-sent.new.b c.take_first-sent.result
          c.take_first-sent.ensures.0
          c.take_first-sent.ensures.1 ∙ h.long,
      rest-received a.n a.a a.c a.m a.b.now h p.2 p.1 c.take_first-sent.new.b c.take_first-sent.result
          c.take_first-sent.ensures.0
          c.take_first-sent.ensures.1 c.faults_in-f.result c.plan_at-p.result c.faults_in-f.ensures
          c.plan_at-p.ensures still
          c.first_place-from.result c.first_place-from.ensures,
      rest-lawful a.n a.a a.c a.m a.b.now h p.2 p.1 c.take_first-sent.new.b c.take_first-sent.result
          c.take_first-sent.ensures.0
          c.take_first-sent.ensures.1 c.faults_in-f.result c.plan_at-p.result c.faults_in-f.ensures
          c.plan_at-p.ensures still,
    )

pub returns-then-is_rest : goal.returns-then-is_rest
returns-then-is_rest c =
    let a = c.args in
    let p = c.requires in
    let h = p.0 in
    let still = sym c.is_rest.ensures ∙ c.if-is_rest.true in
    let whole = step a.n a.a a.c a.m a.b.now h in
    let alone = as-started a.n a.a a.c a.m a.b.now h p.2 p.1 c.take_first-sent.new.b c.take_first-sent.result
    c.take_first-sent.ensures.0 c.take_first-sent.ensures.1 c.faults_in-f.result c.plan_at-p.result
    c.faults_in-f.ensures
    c.plan_at-p.ensures
    still in
    let cut = is_cut a.x in
    settle-told a.n a.a a.c a.x whole (on_block a.c (take_off a.a) a.b.now) a.b.now
    c.given.result
    (has-room a.n a.a a.c a.m a.b.now h p.2 p.1 c.take_first-sent.new.b c.take_first-sent.result
    c.take_first-sent.ensures.0
    c.take_first-sent.ensures.1 a.x p.3)
    (rest-released a.n a.a a.c a.m a.b.now h p.2 p.1 c.take_first-sent.new.b c.take_first-sent.result
    c.take_first-sent.ensures.0
    c.take_first-sent.ensures.1 c.faults_in-f.result c.plan_at-p.result c.faults_in-f.ensures
    c.plan_at-p.ensures still a.x
    c.release_handled.ensures)
    refl
    (c.given.ensures.0 ∙ ap (λ (e : Ending). returned e) (sym (ap (λ (u : Step). pick cut None u.ending) alone
    ∙ pick_same cut None)))
    (c.given.ensures.1 ∙ c.absent.ensures ∙ sym (ap (λ (u : Step). pick cut no_view u.view) alone
    ∙ pick_same cut no_view))

pub follow_at-e-requires : goal.follow_at-e-requires
follow_at-e-requires c =
    let a = c.args in
    let p = c.requires in
    follow-needs a.n a.a a.c a.m a.b.now p.0 p.2 p.1 c.take_first-sent.new.b c.take_first-sent.result
    c.take_first-sent.ensures.0
    c.take_first-sent.ensures.1 c.plan_at-p.result c.plan_at-p.ensures.1

pub release-requires : goal.release-requires
release-requires c =
    let a = c.args in
    let p = c.requires in
    let h = p.0 in (
      h.small,
      h.from_low,
      h.from-high,
      h.low,
      h.high,
      c.follow_at-e.auto.b ∙ t-long a.n a.a a.c a.m a.b.now h p.2 p.1 c.take_first-sent.new.b c.take_first-sent.result
          c.take_first-sent.ensures.0 c.take_first-sent.ensures.1 ∙ h.long,
      r-received a.n a.a a.c a.m a.b.now h p.2 p.1 c.take_first-sent.new.b c.take_first-sent.result
          c.take_first-sent.ensures.0
          c.take_first-sent.ensures.1 c.follow_at-e.result c.follow_at-e.new.b c.faults_in-f.result c.plan_at-p.result
          c.faults_in-f.ensures
          c.plan_at-p.ensures c.follow_at-e.ensures.0 c.follow_at-e.ensures.1 c.first_place-from.result
          c.first_place-from.ensures,
      r-lawful a.n a.a a.c a.m a.b.now h p.2 p.1 c.take_first-sent.new.b c.take_first-sent.result
          c.take_first-sent.ensures.0
          c.take_first-sent.ensures.1 c.follow_at-e.result c.follow_at-e.new.b c.faults_in-f.result c.plan_at-p.result
          c.faults_in-f.ensures
          c.plan_at-p.ensures c.follow_at-e.ensures.0 c.follow_at-e.ensures.1,
    )

pub returns : goal.returns
returns c =
    let a = c.args in
    let p = c.requires in
    let h = p.0 in
    let whole = step a.n a.a a.c a.m a.b.now h in
    let same = is-effect a.n a.a a.c a.m a.b.now h p.2 p.1 c.take_first-sent.new.b c.take_first-sent.result
    c.take_first-sent.ensures.0 c.take_first-sent.ensures.1 c.follow_at-e.result c.follow_at-e.new.b
    c.faults_in-f.result c.plan_at-p.result
    c.faults_in-f.ensures c.plan_at-p.ensures c.follow_at-e.ensures.0 c.follow_at-e.ensures.1 in
    settle-told a.n a.a a.c a.x whole (on_block a.c (take_off a.a) a.b.now) a.b.now
    c.given-2.result
    (has-room a.n a.a a.c a.m a.b.now h p.2 p.1 c.take_first-sent.new.b c.take_first-sent.result
    c.take_first-sent.ensures.0
    c.take_first-sent.ensures.1 a.x p.3)
    (r-released a.n a.a a.c a.m a.b.now h p.2 p.1 c.take_first-sent.new.b c.take_first-sent.result
    c.take_first-sent.ensures.0
    c.take_first-sent.ensures.1 c.follow_at-e.result c.follow_at-e.new.b c.faults_in-f.result c.plan_at-p.result
    c.faults_in-f.ensures
    c.plan_at-p.ensures c.follow_at-e.ensures.0 c.follow_at-e.ensures.1 a.x c.release.ensures)
    c.is_cut.ensures
    (c.given-2.ensures.0 ∙ ap (λ (e : Effect). returned (pick c.is_cut.result None e.ending)) same)
    (c.given-2.ensures.1 ∙ ap (λ (e : Effect). pick c.is_cut.result no_view e.view) same)
