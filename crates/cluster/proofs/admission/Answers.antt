-- `cluster::admission` meets its contract.
use borrow.Author.Rules.{rules}
use mathlib.Core.Path.{◌≡◌, sym, ◌∙◌}
use Rattle.octets.specs.Test.{both}
use Rattle.layout.specs.Layout.{is_node}
use Rattle.layout.proofs.Check.{fits-some}
use Rattle.events.proofs.Admitted.{is-unfit, is-unsound, is-nowhere, has_block, is-stopped, is-admitted}
use Rattle.cluster.proofs.admission.Goals as goal

pub returns-then-not-is_fit-clause-refused : goal.returns-then-not-is_fit-clause-refused
returns-then-not-is_fit-clause-refused c =
    let a = c.args in is-unfit a.a a.c a.b.now (sym c.is_fit.ensures ∙ c.if-not-is_fit.true)

pub is_sound-requires : goal.is_sound-requires
is_sound-requires c =
    sym c.is_fit.ensures ∙ c.if-not-is_fit.false

pub returns-then-not-is_sound-clause-refused : goal.returns-then-not-is_sound-clause-refused
returns-then-not-is_sound-clause-refused c =
    let a = c.args in
    is-unsound a.a a.c a.b.now (sym c.is_fit.ensures ∙ c.if-not-is_fit.false)
    (sym c.is_sound.ensures ∙ c.if-not-is_sound.true)

pub bounds-b-0 : goal.bounds-b-0
bounds-b-0 c =
    let h = fits-some c.args.b.now (sym c.is_fit.ensures ∙ c.if-not-is_fit.false) in search rules

pub returns-then-not-is_node-clause-refused : goal.returns-then-not-is_node-clause-refused
returns-then-not-is_node-clause-refused c =
    let a = c.args in
    let test : c.if-is_node.value ≡ both (is_node c.from-n.result a.a) (is_node c.from-n.result a.c) = search rules in
    is-nowhere a.a a.c a.b.now c.from-n.result c.from-n.ensures
    (sym c.is_fit.ensures ∙ c.if-not-is_fit.false) (sym c.is_sound.ensures ∙ c.if-not-is_sound.false)
    (sym test ∙ c.if-not-is_node.true)

pub stopped_at-requires : goal.stopped_at-requires
stopped_at-requires c =
    let a = c.args in
    let test : c.if-is_node.value ≡ both (is_node c.from-n.result a.a) (is_node c.from-n.result a.c) = search rules in
    has_block a.a a.c a.b.now c.from-n.result c.from-n.ensures
    (sym c.is_fit.ensures ∙ c.if-not-is_fit.false) (sym c.is_sound.ensures ∙ c.if-not-is_sound.false)
    (sym test ∙ c.if-not-is_node.false)

pub returns-then-stopped_at-clause-refused : goal.returns-then-stopped_at-clause-refused
returns-then-stopped_at-clause-refused c =
    let a = c.args in
    let test : c.if-is_node.value ≡ both (is_node c.from-n.result a.a) (is_node c.from-n.result a.c) = search rules in
    is-stopped a.a a.c a.b.now c.from-n.result c.from-n.ensures
    (sym c.is_fit.ensures ∙ c.if-not-is_fit.false) (sym c.is_sound.ensures ∙ c.if-not-is_sound.false)
    (sym test ∙ c.if-not-is_node.false) (sym c.stopped_at.ensures ∙ c.if-stopped_at.true)

pub returns-clause-refused : goal.returns-clause-refused
returns-clause-refused c =
    let a = c.args in
    let test : c.if-is_node.value ≡ both (is_node c.from-n.result a.a) (is_node c.from-n.result a.c) = search rules in
    is-admitted a.a a.c a.b.now c.from-n.result c.from-n.ensures
    (sym c.is_fit.ensures ∙ c.if-not-is_fit.false) (sym c.is_sound.ensures ∙ c.if-not-is_sound.false)
    (sym test ∙ c.if-not-is_node.false) (sym c.stopped_at.ensures ∙ c.if-stopped_at.false)
