-- `node::taken_message` meets its contract. Assumes nothing.
use borrow.Author.Rules.{rules}
use Prim.Native.Nat.{◌≤◌}
use native.Mathlib.Omega.{arith}
use Rattle.record.proofs.Parts.{parts}
use Rattle.table.proofs.Laws.{length-mapped}
use Rattle.step.specs.Claims.{Long}
use Rattle.reply.proofs.Received.{message-received}
use Rattle.calls.proofs.Rim.{read-writer, read-lawful}
use Rattle.calls.proofs.Rooms.{message-fit}
use Rattle.view.specs.Size.{nodes}
use Rattle.node.proofs.taken_message.Goals as goal

pub is_stale_message-requires : goal.is_stale_message-requires
is_stale_message-requires c =
    let a = c.args in
    let p = c.requires in
    let small : a.c.n ≤ nodes = (parts _ p.0).n-high in
    (p.1, omega (arith, p.2, small), read-writer a.c.n a.v.now a.m p.3 small)

pub view_beside-view-requires : goal.view_beside-view-requires
view_beside-view-requires c =
    let p = c.requires in ((parts _ p.0).n-high, p.3)

pub message_step-requires : goal.message_step-requires
message_step-requires c =
    let a = c.args in
    let p = c.requires in
    (p.0, p.1, p.2, rw c.view_beside-view.ensures (read-lawful a.c.n a.v.now a.m p.3))

pub let_out-requires : goal.let_out-requires
let_out-requires c =
    let a = c.args in
    let p = c.requires in
    -- the lengths that the type says
    let long : Long a.c = record {
      last = (search rules, search (rules, length-mapped));
      atmax = (search rules, search (rules, length-mapped));
      atround = (search rules, search (rules, length-mapped));
    } in
    let fit = message-fit a.c a.s a.m c.view_beside-view.result c.message_step.result _ c.message_step.ensures p.0
    (rw c.view_beside-view.ensures (read-lawful a.c.n a.v.now a.m p.3)) long p.1 p.2 p.4 in (
      message-received a.b.now a.c.f a.c a.s a.m c.view_beside-view.result a.v.now c.message_step.result
          c.message_step.ensures p.5,
      fit.0,
      fit.1,
      fit.2,
      fit.3,
    )
