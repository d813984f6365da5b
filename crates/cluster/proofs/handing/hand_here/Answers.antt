-- `cluster::handing::hand_here` meets its contract.
use native.Mathlib.Omega.{arith}
use mathlib.Core.Path.{refl, sym, ◌∙◌}
use Rattle.refusal.specs.declared.Refusal.TheVariants.{Stops, Value}
use Rattle.step.proofs.Allowed.{lawful-writer}
use Rattle.region.specs.Channel.{first}
use Rattle.layout.specs.Layout.{node, channel}
use Rattle.outgoing.proofs.Judged.{cut-judged}
use Rattle.events.proofs.Told.{refuses, becomes}
use Rattle.events.proofs.Handed.{hand-stale, hand-uncut, hand-settles}
use Rattle.cluster.proofs.handing.hand_here.Goals as goal

pub is_stale_at-requires : goal.is_stale_at-requires
is_stale_at-requires c =
    let a = c.args in
    let h = c.requires.0 in (
      h.from_low,
      omega (arith, h.from-high, h.small),
      h.low,
      omega (arith, h.high, h.small),
      omega (arith, h.long, h.high),
      lawful-writer a.n a.m _ h.small c.requires.1,
    )

pub returns-then-is_stale_at : goal.returns-then-is_stale_at
returns-then-is_stale_at c =
    let a = c.args in
    refuses Value (hand-stale a.n a.a a.c a.x a.b.now (first (channel a.b.now a.a a.c)) a.m
    (node a.b.now a.c) refl (sym c.is_stale_at.ensures ∙ c.if-is_stale_at.true))

pub may_cut-requires : goal.may_cut-requires
may_cut-requires c = let h = c.requires.0 in (h.small, h.long)

pub returns-then-not-may_cut : goal.returns-then-not-may_cut
returns-then-not-may_cut c =
    let a = c.args in
    refuses Stops (hand-uncut a.n a.a a.c a.x a.b.now (first (channel a.b.now a.a a.c)) a.m
    (node a.b.now a.c) refl (sym c.is_stale_at.ensures ∙ c.if-is_stale_at.false)
    (cut-judged a.n a.x a.b.now c.is_cut.ensures c.may_cut.ensures c.if-not-may_cut.true))

pub returns : goal.returns
returns c =
    let a = c.args in
    becomes c.step_here.result c.step_here.new.b
    (hand-settles a.n a.a a.c a.x a.b.now (first (channel a.b.now a.a a.c)) a.m
    (node a.b.now a.c) refl (sym c.is_stale_at.ensures ∙ c.if-is_stale_at.false)
    (cut-judged a.n a.x a.b.now c.is_cut.ensures c.may_cut.ensures c.if-not-may_cut.false)
    refl refl refl)
    c.step_here.ensures
