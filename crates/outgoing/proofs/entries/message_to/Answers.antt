-- `outgoing::entries::message_to` meets its contract.
use Rattle.std.proofs.Common.{◌≡◌, sym, ap, ◌∙◌, arith}
use borrow.Author.Tests.{le-leb, lt-leb}
use mir.Val.{bool_byte}
use native.Mathlib.Decide.{dec_le}
use native.Mathlib.Nat.{lt_of_not-le}
use Rattle.outgoing.proofs.Laws.{answer-here, answer-elsewhere, others-reach, others-miss}
use Rattle.outgoing.proofs.entries.message_to.Goals as goal

pub returns-then-not-is_answer : goal.returns-then-not-is_answer
returns-then-not-is_answer c =
    let a = c.args in
    let other = sym c.is_answer.ensures ∙ c.if-not-is_answer.true in
    elim (dec_le a.b a.left) [
      | yes h ↦
          let one : c.from.result ≡ 1 = c.from.ensures ∙ ap bool_byte (le-leb a.b a.left h) in (
            omega arith,
            λ v. one ∙ sym (others-reach a.b a.left a.n a.a v a.m other (omega arith) (omega arith) h),
          )
      | no h ↦
          let past = lt_of_not-le h in
          let none : c.from.result ≡ 0 = c.from.ensures ∙ ap bool_byte (lt-leb a.b a.left past) in (
            omega arith,
            λ v. none ∙ sym (others-miss a.b a.left a.n a.a v a.m other past),
          )
    ]

pub returns-then-a-b : goal.returns-then-a-b
returns-then-a-b c = (
  omega (arith, c.min.ensures),
  λ v. c.min.ensures
      ∙ sym (answer-here c.args.b c.args.left c.args.n c.args.a v c.args.m
      (sym c.is_answer.ensures ∙ c.if-not-is_answer.false) c.if-a-b.true),
)

pub returns-else-a-b : goal.returns-else-a-b
returns-else-a-b c = (
  omega arith,
  λ v. sym (answer-elsewhere c.args.b c.args.left c.args.n c.args.a v c.args.m
      (sym c.is_answer.ensures ∙ c.if-not-is_answer.false) c.if-a-b.false),
)
