-- `cluster::fresh` meets its contract.
use borrow.Author.Rules.{rules}
use lib.ListN.{length-set}
use mathlib.Core.Path.{sym, ◌∙◌}
use native.Mathlib.Omega.{arith}
use Rattle.refusal.specs.declared.Refusal.TheVariants.{Length, Size}
use Rattle.layout.specs.Layout.{stated_place}
use Rattle.layout.proofs.Check.{can-be}
use Rattle.events.proofs.Told.{gives, refuses, fresh-none, fresh-unfit, fresh-is, fresh-bytes, started-length}
use Rattle.cluster.proofs.fresh.Goals as goal

pub returns-then-not-can_be : goal.returns-then-not-can_be
returns-then-not-can_be c =
    refuses Size (fresh-none c.args.n c.args.f c.args.b.now (sym
    c.can_be.ensures ∙ c.if-not-can_be.true))

pub overflow_mul-n : goal.overflow_mul-n
overflow_mul-n c =
    let h = can-be c.args.n c.args.f (sym
    c.can_be.ensures ∙ c.if-not-can_be.false) in search rules

pub overflow_add-n : goal.overflow_add-n
overflow_add-n c =
    let h = can-be c.args.n c.args.f (sym
    c.can_be.ensures ∙ c.if-not-can_be.false) in search rules

pub returns-then-b-n : goal.returns-then-b-n
returns-then-b-n c =
    refuses Length (fresh-unfit c.args.n c.args.f
    c.args.b.now (sym c.can_be.ensures ∙ c.if-not-can_be.false)
    c.if-b-n.true)

pub overflow_cast-b : goal.overflow_cast-b
overflow_cast-b c =
    let h = can-be c.args.n
    c.args.f (sym
    c.can_be.ensures ∙ c.if-not-can_be.false) in search rules

pub overflow_cast-b-2 : goal.overflow_cast-b-2
overflow_cast-b-2 c =
    let h = can-be c.args.n c.args.f (sym c.can_be.ensures
    ∙ c.if-not-can_be.false) in
    omega (arith, h.1, h.2)

pub bounds-b-1 : goal.bounds-b-1
bounds-b-1 c =
    let long = length-set c.fill.new.self stated_place
    c.args.n ∙ c.fill.auto.self
    ∙ c.if-b-n.false in search rules

pub blank_blocks-requires : goal.blank_blocks-requires
blank_blocks-requires c =
    let h = can-be c.args.n c.args.f (sym c.can_be.ensures ∙ c.if-not-can_be.false) in (
      h.1,
      started-length c.args.n c.args.f c.args.b.now c.fill.new.self ∙ c.fill.auto.self
          ∙ c.if-b-n.false,
    )

pub shape_of-b : goal.shape_of-b
shape_of-b c =
    c.blank_blocks.auto.b ∙ started-length c.args.n c.args.f
    c.args.b.now c.fill.new.self ∙ c.fill.auto.self

pub returns : goal.returns
returns c =
    let a = c.args in
    let s = sym c.can_be.ensures ∙ c.if-not-can_be.false in
    gives c.given.result c.blank_blocks.new.b (fresh-is a.n a.f a.b.now s
    c.if-b-n.false)
    c.given.ensures.0 (c.given.ensures.1 ∙ c.absent.ensures)
    (fresh-bytes a.n a.f a.b.now (search rules) c.blank_blocks.ensures)
