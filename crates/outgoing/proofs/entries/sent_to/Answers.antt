-- `outgoing::entries::sent_to` meets its contract.
use Rattle.std.proofs.Common.{sym, ap, ◌∙◌, List, take, arith}
use Rattle.outgoing.specs.Entries.{Entry, go_to}
use Rattle.outgoing.proofs.Laws.{nothing-to, entries-one, two_to}
use Rattle.outgoing.proofs.entries.sent_to.Goals as goal

pub returns-in-Nothing : goal.returns-in-Nothing
returns-in-Nothing c = (
  omega arith,
  λ v. rw c.in-Nothing.is (sym
      (nothing-to c.args.b c.args.left c.args.n
      c.args.a v)),
)

pub returns-in-One : goal.returns-in-One
returns-in-One c = (
  omega (arith, c.message_to.ensures.0),
  λ v. rw c.in-One.is (c.message_to.ensures.1 v
      ∙ ap (λ (t : List Entry). go_to c.args.b (take c.args.left t)) (sym (entries-one c.args.n
      c.args.a v _))),
)

pub returns-in-Two : goal.returns-in-Two
returns-in-Two c = (
  omega (arith, c.message_to-in-Two.ensures.0, c.message_to-in-Two-2.ensures.0),
  λ v. rw c.in-Two.is
      (two_to c.args.b c.args.left c.args.n
      c.args.a v _ _ (c.message_to-in-Two.ensures.1 v)
      (c.left_after.ensures
      c.args.a v)
      (c.message_to-in-Two-2.ensures.1 v)),
)
