-- `step_bytes::rounds::failed_in` meets its contract.
use borrow.Author.Rules.{rules}
use mathlib.Core.Path.{◌≡◌, sym, ap, ◌∙◌}
use Prim.Native.Nat.{ℕ, ◌+◌}
use mathlib.Core.Bool.{true, false}
use lib.Dec.{leb}
use borrow.Author.Tests.{lt-ltb, le-ltb, le-leb, lt-leb}
use Rattle.octets.specs.Word.{word}
use Rattle.step.specs.Move.{opened}
use Rattle.region.specs.Record.{record_of, record_bytes, kept_place}
use Rattle.step_bytes.proofs.Turned.{is-step, failed-open, failed-lend, failed-wait}
use Rattle.step_bytes.proofs.rounds.failed_in.Goals as goal

pub overflow_add-write : goal.overflow_add-write
unfolding record_of
overflow_add-write c = search rules

pub returns-then-i-lt3 : goal.returns-then-i-lt3
unfolding record_of
returns-then-i-lt3 c =
    let a = c.args in
    let d = record_of a.r.now in
    let more = c.if-i-lt3.true in
    let next = c.next_in-next.ensures in
    let request = c.get_word.ensures in
    let bytes = c.open_in.ensures in
    is-step (failed-open d a.to a.sent a.k a.i a.t (lt-ltb _ _ more))
    (simp (c.rested-e.ensures, request, next))
    (bytes ∙ ap (λ (t : ℕ). record_bytes (opened d a.k (a.i + 1) t)) next)

pub returns-then-t-get_word : goal.returns-then-t-get_word
unfolding record_of
returns-then-t-get_word c =
    let a = c.args in
    let third = c.if-i-lt3.false in
    let kept = c.get_word-2.ensures in
    let above = c.if-t-get_word.true in
    let can : leb a.t (word a.r.now kept_place) ≡ true = sym (ap (leb a.t) kept) ∙ le-leb _ _ above in
    let lent = c.lend_in.ensures in
    is-step (failed-lend (record_of a.r.now) a.to a.sent a.k a.i a.t (le-ltb _ _ third) can)
    lent.0 lent.1

pub returns : goal.returns
unfolding record_of
returns c =
    let a = c.args in
    let third = c.if-i-lt3.false in
    let kept = c.get_word-2.ensures in
    let below = c.if-t-get_word.false in
    let cannot : leb a.t (word a.r.now kept_place) ≡ false = sym (ap (leb a.t) kept) ∙ lt-leb _ _ below in
    let bytes = c.close_in.ensures in
    is-step (failed-wait (record_of a.r.now) a.to a.sent a.k a.i a.t (le-ltb _ _ third) cannot)
    c.rested.ensures bytes
