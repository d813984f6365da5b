-- `outgoing::entries::left_after` meets its contract.
use Prim.Native.Nat.{ℕ, ◌-◌}
use mathlib.Core.Path.{sym, ap, ◌∙◌}
use Rattle.outgoing.proofs.Laws.{length-answer, length-others}
use Rattle.outgoing.proofs.entries.left_after.Goals as goal

pub returns-then-is_answer : goal.returns-then-is_answer
returns-then-is_answer c =
    λ a v. c.saturating_sub.ensures ∙ ap (λ (k : ℕ). c.args.left - k)
    (sym (length-answer c.args.n a v c.args.m (sym
    c.is_answer.ensures ∙ c.if-is_answer.true)))

pub returns-else-is_answer : goal.returns-else-is_answer
returns-else-is_answer c =
    λ a v. c.saturating_sub-else-is_answer.ensures ∙ ap (λ (k : ℕ). c.args.left - k)
    (sym (length-others c.args.n a v c.args.m (sym
    c.is_answer.ensures ∙ c.if-is_answer.false)))
