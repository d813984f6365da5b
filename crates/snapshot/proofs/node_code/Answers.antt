-- `snapshot::node_code` meets its contract.
use Rattle.std.proofs.Common.{rules, ℕ, ◌≡◌, ap, ap₂, ◌∙◌, Ok, Err}
use Rattle.octets.specs.Answer.{Answer}
use Rattle.refusal.specs.Refusal.{answer}
use Rattle.step.specs.Told.{Told, told, told_view}
use Rattle.step.specs.declared.Ending.{Ending}
use Rattle.calls_bytes.specs.Entry.{LentResult}
use Rattle.node_bytes.specs.Called.{Reply, answer_of, length_of}
use Rattle.codes.specs.Code.{event_code, rule_in, lent}
use Rattle.snapshot.proofs.node_code.Goals as goal

-- the length that is lent, which was `before`
abbrev length_after : Reply → ℕ → ℕ
length_after (Ok a) before = a.length
length_after (Err k) before = before

same_length : (a : Reply) (e : LentResult) (before : ℕ) → answer_of a ≡ e.ending → length_of a ≡ e.length
    → length_after a before ≡ lent (λ x. e.length) e.ending before
same_length (Ok a) e before p q = q ∙ ap (λ (x : Answer Ending). lent (λ y. e.length) x before) p
same_length (Err k) e before p q = ap (λ (x : Answer Ending). lent (λ y. e.length) x before) p

pub returns : goal.returns
returns c state out e t =
    let a = c.args.a in
    let before = c.args.length.now in
    let length : c.lend_length.new.length ≡ length_after a before = search rules in
    let said : answer c.map-2.result ≡ answer_of a = search rules in (
      c.outcome_code.ensures (told_view e.answer)
          ∙ ap (λ (x : Answer Ending). event_code (told x (told_view e.answer)) (rule_in x)) said
          ∙ ap₂ (λ (x : Told) (y : Answer Ending). event_code x (rule_in y)) t.0 t.1,
      t.3,
      t.4,
      length ∙ same_length a e before t.1 t.2,
    )
