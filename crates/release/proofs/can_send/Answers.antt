-- `release::can_send` meets its contract.
use mathlib.Core.Path.{refl, ap, ◌∙◌}
use mathlib.Core.Bool.{false}
use lib.ListN.{take}
use Rattle.table.specs.Loop.{all}
use Rattle.view.specs.View.{no_view}
use Rattle.view.specs.declared.View.{View}
use Rattle.step.specs.declared.Outbox.{Outbox}
use Rattle.step.specs.declared.Sent.TheVariants.{Nothing}
use Rattle.outgoing.specs.Entries.{entries}
use Rattle.outgoing.specs.Room.{room_before}
use Rattle.outgoing.proofs.Judged.{judged}
use Rattle.release.proofs.can_send.Goals as goal

pub returns : goal.returns
returns c =
    let a = c.args in
    let p = c.requires in
    let alone : View → Outbox = λ v. record {
      to = a.c;
      handler = a.sent;
      reading = Nothing;
      comparing = Nothing;
      view = v;
    } in
    judged false a.n a.c a.c a.x (alone no_view) a.b.now p.0 p.1 p.2 p.1 p.2 p.3
    c.is_cut.ensures refl c.allowance.ensures
    (c.has_room.ensures ∙ ap (λ (v : View). all a.n (room_before c.is_cut.result 0 a.c
    (take c.allowance.result (entries a.n a.c (alone v))) a.b.now)) c.absent.ensures)
