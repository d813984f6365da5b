-- `step_bytes::rounds::good_in` meets its contract.
use borrow.Author.Rules.{rules}
use mathlib.Core.Path.{ap, ◌∙◌}
use Prim.Native.Nat.{ℕ}
use borrow.Author.Tests.{eq-eqb, ne_eqb}
use Rattle.step.specs.Move.{opened}
use Rattle.region.specs.Record.{record_of, record_bytes, atround_in}
use Rattle.step_bytes.proofs.Turned.{is-step, places_of, good-open, good-end}
use Rattle.step_bytes.proofs.rounds.good_in.Goals as goal

pub overflow_add-write : goal.overflow_add-write
unfolding record_of
overflow_add-write c = search rules

pub returns-then-i-eq0 : goal.returns-then-i-eq0
unfolding record_of
returns-then-i-eq0 c =
    let a = c.args in
    let d = record_of a.r.now in
    let zero = c.if-i-eq0.true in
    let p = c.requires in
    let held = c.load_view-held.ensures ∙ places_of a.r.now atround_in p.1 in
    let next = c.next_in-next.ensures in
    let request = c.get_word.ensures in
    let bytes = c.open_in.ensures in
    is-step (good-open d a.to a.sent a.k a.i a.t (eq-eqb _ _ zero))
    (simp (c.rested-e.ensures, request, next, held))
    (bytes ∙ ap (λ (t : ℕ). record_bytes (opened d a.k 1 t)) next)

pub returns : goal.returns
unfolding record_of
returns c =
    let a = c.args in
    let nonzero = c.if-i-eq0.false in
    let p = c.requires in
    let held = c.load_view-held.ensures
    ∙ places_of a.r.now atround_in p.1 in
    is-step (good-end (record_of a.r.now) a.to a.sent a.k a.i a.t (ne_eqb _ _ nonzero))
    (simp (c.rested-e.ensures, c.ending_of.ensures, held))
    c.close_in.ensures
