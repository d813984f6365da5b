-- `react_bytes::react_in` meets its contract.
use mathlib.Core.Path.{refl, ap, ap₂, ◌∙◌}
use Prim.Native.Nat.{ℕ}
use borrow.Author.Tests.{leb-true}
use Rattle.wire.specs.declared.Message.TheVariants.{ReadAnswer}
use Rattle.record.specs.Record.{with_wait}
use Rattle.record.specs.declared.Wait.{Wait}
use Rattle.step.specs.React.{read_wait, write_wait, react}
use Rattle.step.specs.declared.Sent.TheVariants.{One}
use Rattle.step.proofs.Allowed.{writer-from}
use Rattle.region.specs.Record.{record_of, record_bytes}
use Rattle.react_bytes.proofs.react_in.Goals as goal

pub received_in-requires : goal.received_in-requires
received_in-requires c =
    let p = c.requires in
    let w = writer-from _ (rw c.in-Value.is at p.5) in
    (p.0, p.3, p.4, w.0, w.1)

pub kept_in-requires : goal.kept_in-requires
kept_in-requires c =
    let p = c.requires in
    (p.0, p.1, leb-true _ _ (rw c.in-Good.is at p.2))

pub returns-in-Read : goal.returns-in-Read
unfolding react record_of
returns-in-Read c =
    let r = c.args.r.now in
    let q = c.in-Read.request in
    rw c.in-Read.is (
      ap (λ (x : ℕ). One (ReadAnswer q x)) c.get_word-tag.ensures,
      c.waiting_in.ensures ∙ ap (λ (w : Wait). record_bytes (with_wait (record_of r) w))
          c.load_wait.ensures,
    )

pub returns-in-ReadAnswer : goal.returns-in-ReadAnswer
unfolding react record_of
returns-in-ReadAnswer c =
    let a = c.args in
    let r = a.r.now in
    let q = c.in-ReadAnswer.request in
    let t = c.in-ReadAnswer.tag in
    rw c.in-ReadAnswer.is (
      refl,
      c.waiting_in-in-ReadAnswer.ensures ∙ ap (λ (w : Wait). record_bytes (with_wait (record_of r) w))
          (c.read_wait.ensures
          ∙ ap₂ (λ (w : Wait) (x : ℕ). read_wait x a.s q t w) c.load_wait-in-ReadAnswer.ensures
          c.get_word.ensures),
    )

pub returns-in-Write : goal.returns-in-Write
unfolding react
returns-in-Write c =
    rw c.in-Write.is (simp (c.write_sent.ensures, c.raised_in.ensures.0), c.raised_in.ensures.1)

pub returns-in-WriteAnswer : goal.returns-in-WriteAnswer
unfolding react record_of
returns-in-WriteAnswer c =
    let a = c.args in
    let r = a.r.now in
    let q = c.in-WriteAnswer.request in
    let t = c.in-WriteAnswer.tag in
    rw c.in-WriteAnswer.is (
      refl,
      c.waiting_in-in-WriteAnswer.ensures ∙ ap (λ (w : Wait). record_bytes (with_wait (record_of r) w))
          (c.write_wait.ensures
          ∙ ap₂ (λ (w : Wait) (x : ℕ). write_wait x a.s q t w) c.load_wait-in-WriteAnswer.ensures
          c.get_word-in-WriteAnswer.ensures),
    )

pub returns-in-Echo : goal.returns-in-Echo
unfolding react
returns-in-Echo c =
    rw c.in-Echo.is (
      simp (c.sent_where.ensures, c.raised_in-in-Echo.ensures.0),
      c.raised_in-in-Echo.ensures.1,
    )

pub returns-in-Value : goal.returns-in-Value
unfolding react
returns-in-Value c =
    rw c.in-Value.is (
      simp (c.sent_where-in-Value.ensures, c.received_in.ensures.0),
      c.received_in.ensures.1,
    )

pub returns-in-Good : goal.returns-in-Good
unfolding react
returns-in-Good c = rw c.in-Good.is (refl, c.kept_in.ensures)
