-- `step_bytes::agreement_in` meets its contract.
use borrow.Author.Tests.{le-leb, lt-leb}
use mathlib.Core.Path.{sym, ap, ◌∙◌}
use Prim.Native.Nat.{ℕ}
use lib.Dec.{leb}
use Rattle.step.specs.Step.{started}
use Rattle.region.specs.Record.{record_of}
use Rattle.step_bytes.proofs.Cases.{agreed-good, agreed-failed, maxtag-of, as_step}
use Rattle.step_bytes.proofs.agreement_in.Goals as goal

pub returns-then-get_word-t : goal.returns-then-get_word-t
returns-then-get_word-t c =
    let a = c.args in
    let r = a.r.now in
    let h = ap (λ (t : ℕ). leb t a.t) (sym (c.get_word.ensures ∙ maxtag-of r)) ∙ le-leb _ _ c.if-get_word-t.true in
    as_step (agreed-good (started (record_of r) a.to a.sent) a.k a.i a.t h)
    c.good_in.ensures

pub returns-else-get_word-t : goal.returns-else-get_word-t
returns-else-get_word-t c =
    let a = c.args in
    let r = a.r.now in
    let h = ap (λ (t : ℕ). leb t a.t) (sym (c.get_word.ensures ∙ maxtag-of r)) ∙ lt-leb _ _ c.if-get_word-t.false in
    as_step (agreed-failed (started (record_of r) a.to a.sent) a.k a.i a.t h)
    c.failed_in.ensures
