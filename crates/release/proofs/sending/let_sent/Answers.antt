-- `release::sending::let_sent` meets its contract.
use borrow.Author.Rules.{rules}
use mathlib.Core.Path.{sym, ap, ◌∙◌}
use mathlib.Core.List.{List}
use lib.ListN.{take}
use Rattle.outgoing.specs.Entries.{Entry}
use Rattle.outgoing.proofs.Laws.{entries-one}
use Rattle.outgoing.specs.Outgoing.{let_out}
use Rattle.outgoing.proofs.Out.{let-empty, let-two}
use Rattle.release.proofs.Lawful.{one-allowed, two-allowed}
use Rattle.release.proofs.sending.let_sent.Goals as goal

pub let_message-requires : goal.let_message-requires
let_message-requires c =
    let x = c.args in
    let p = c.requires in
    let is = c.in-One.is in
    (p.0, p.1, p.2, p.3, p.4, p.5, one-allowed x.n x.v x.s p.0 p.6 is)

pub let_message-requires-in-Two : goal.let_message-requires-in-Two
let_message-requires-in-Two c =
    let x = c.args in
    let p = c.requires in
    let is = c.in-Two.is in
    (p.0, p.1, p.2, p.3, p.4, p.5, (two-allowed x.n x.v x.s p.0 p.6 is).0)

pub let_message-requires-in-Two-2 : goal.let_message-requires-in-Two-2
let_message-requires-in-Two-2 c =
    let x = c.args in
    let p = c.requires in
    let is = c.in-Two.is in
    (p.0, p.1, p.2, p.3, p.4, search rules, (two-allowed x.n x.v x.s p.0 p.6 is).1)

pub returns-in-Nothing : goal.returns-in-Nothing
returns-in-Nothing c =
    let x = c.args in
    rw c.in-Nothing.is (sym (let-empty x.n x.a x.c x.v x.left x.b.now))

pub returns-in-One : goal.returns-in-One
returns-in-One c =
    let x = c.args in
    rw c.in-One.is (c.let_message.ensures
    ∙ ap (λ (l : List Entry). let_out x.n x.c (take x.left l) x.b.now)
    (sym (entries-one x.n x.a x.v _)))

pub returns-in-Two : goal.returns-in-Two
returns-in-Two c =
    let x = c.args in
    rw c.in-Two.is
    (let-two x.n x.a x.c x.left x.v _ _ x.b.now
    c.let_message-in-Two.ensures
    (c.left_after.ensures x.a x.v)
    c.let_message-in-Two-2.ensures)
