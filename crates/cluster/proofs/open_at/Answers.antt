-- `cluster::open_at` meets its contract.
use native.Mathlib.Omega.{arith}
use mathlib.Core.Path.{refl, sym, ◌∙◌}
use Rattle.refusal.specs.declared.Refusal.TheVariants.{Full, Open, Requests, Stops}
use Rattle.layout.specs.Layout.{node}
use Rattle.outgoing.proofs.Judged.{cut-judged}
use Rattle.events.proofs.Settled.{open-busy, open_full, open-uncut}
use Rattle.events.proofs.Told.{refuses}
use Rattle.cluster.proofs.Begun.{asks, lawful, received, opens_not, t-long, opens}
use Rattle.cluster.proofs.open_at.Goals as goal

pub is_open_at-requires : goal.is_open_at-requires
is_open_at-requires c =
    let h = c.requires in
    (h.low, omega (arith, h.high, h.small), omega (arith, h.long, h.high))

pub returns-then-is_open_at : goal.returns-then-is_open_at
returns-then-is_open_at c =
    let a = c.args in
    refuses Open (open-busy a.n a.c a.o a.x a.b.now (node a.b.now a.c) refl
    (sym c.is_open_at.ensures ∙ c.if-is_open_at.true))

pub is_full_at-requires : goal.is_full_at-requires
is_full_at-requires c =
    let h = c.requires in
    (h.low, omega (arith, h.high, h.small), omega (arith, h.long, h.high))

pub returns-then-is_full_at : goal.returns-then-is_full_at
returns-then-is_full_at c =
    let a = c.args in
    refuses Requests (open_full a.n a.c a.o a.x a.b.now (node a.b.now a.c) refl
    (sym c.is_open_at.ensures ∙ c.if-is_open_at.false) (sym c.is_full_at.ensures
    ∙ c.if-is_full_at.true))

pub may_cut-requires : goal.may_cut-requires
may_cut-requires c =
    let h = c.requires in (h.small, h.long)

pub returns-then-not-may_cut : goal.returns-then-not-may_cut
returns-then-not-may_cut c =
    let a = c.args in
    refuses Stops (open-uncut a.n a.c a.o a.x a.b.now (node a.b.now a.c) refl
    (sym c.is_open_at.ensures ∙ c.if-is_open_at.false) (sym c.is_full_at.ensures ∙ c.if-is_full_at.false)
    (cut-judged a.n a.x a.b.now c.is_cut.ensures
    c.may_cut.ensures c.if-not-may_cut.true))

pub asked_at-sent-requires : goal.asked_at-sent-requires
asked_at-sent-requires c =
    let a = c.args in
    asks a.n a.c a.o a.x a.b.now c.requires (sym c.is_open_at.ensures ∙ c.if-is_open_at.false)
    (sym c.is_full_at.ensures ∙ c.if-is_full_at.false)

pub can_send-requires : goal.can_send-requires
can_send-requires c =
    let h = c.requires in (h.small, h.low, h.high, h.long)

pub returns-then-not-can_send : goal.returns-then-not-can_send
returns-then-not-can_send c =
    let a = c.args in
    refuses Full (opens_not a.n a.c a.o a.x a.b.now c.requires
    (sym c.is_open_at.ensures ∙ c.if-is_open_at.false) (sym c.is_full_at.ensures ∙ c.if-is_full_at.false)
    c.asked_at-sent.result c.asked_at-sent.ensures c.can_send.result c.can_send.ensures
    (cut-judged a.n a.x a.b.now c.is_cut.ensures c.may_cut.ensures c.if-not-may_cut.false)
    c.if-not-can_send.true)

pub ask_at-requires : goal.ask_at-requires
ask_at-requires c =
    let a = c.args in
    asks a.n a.c a.o a.x a.b.now c.requires (sym c.is_open_at.ensures ∙ c.if-is_open_at.false)
    (sym c.is_full_at.ensures ∙ c.if-is_full_at.false)

pub release_handled-requires : goal.release_handled-requires
release_handled-requires c =
    let a = c.args in
    let h = c.requires in
    let idle = sym c.is_open_at.ensures ∙ c.if-is_open_at.false in
    let more = sym c.is_full_at.ensures ∙ c.if-is_full_at.false in (
      h.small,
      h.low,
      h.high,
      h.low,
      h.high,
      t-long a.n a.c a.o a.x a.b.now h idle more c.asked_at-sent.result c.asked_at-sent.ensures c.can_send.result
          c.can_send.ensures c.ask_at.new.b c.ask_at.ensures,
      received a.n a.c a.o a.x a.b.now h idle more c.asked_at-sent.result c.asked_at-sent.ensures c.ask_at.new.b,
      lawful a.n a.c a.o a.x a.b.now h idle more c.asked_at-sent.result c.asked_at-sent.ensures,
    )

pub returns : goal.returns
returns c =
    let a = c.args in
    opens a.n a.c a.o a.x a.b.now c.requires (sym c.is_open_at.ensures ∙ c.if-is_open_at.false)
    (sym c.is_full_at.ensures ∙ c.if-is_full_at.false) c.asked_at-sent.result c.asked_at-sent.ensures
    c.can_send.result c.can_send.ensures c.ask_at.new.b c.ask_at.ensures
    (cut-judged a.n a.x a.b.now c.is_cut.ensures c.may_cut.ensures c.if-not-may_cut.false)
    c.if-not-can_send.false c.given.result c.release_handled.ensures
    c.given.ensures.0 (c.given.ensures.1 ∙ c.absent.ensures)
