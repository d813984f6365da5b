-- `outgoing::entries::left_past` meets its contract.
use Rattle.std.proofs.Common.{◌-◌, sym, ap, ◌∙◌, List, length}
use Rattle.outgoing.specs.Entries.{Entry}
use Rattle.outgoing.proofs.Laws.{nothing_left, entries-one, past_two}
use Rattle.outgoing.proofs.entries.left_past.Goals as goal

pub returns-in-Nothing : goal.returns-in-Nothing
returns-in-Nothing c = λ a v. rw c.in-Nothing.is (sym (nothing_left c.args.left
    c.args.n a v))

pub returns-in-One : goal.returns-in-One
returns-in-One c =
    λ a v. rw c.in-One.is (c.left_after.ensures a v ∙ ap (λ
    (t : List Entry). c.args.left - length t) (sym (entries-one c.args.n a v _)))

pub returns-in-Two : goal.returns-in-Two
returns-in-Two c =
    λ a v. rw c.in-Two.is (past_two c.args.left c.args.n a v _ _
    (c.left_after-in-Two.ensures a v) (c.left_after-in-Two-2.ensures a v))
