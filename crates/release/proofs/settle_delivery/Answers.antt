-- `release::settle_delivery` meets its contract.
use borrow.Author.Rules.{rules}
use Prim.Native.Nat.{ℕ}
use mathlib.Core.Path.{refl, sym, ap, ◌∙◌, subst}
use mathlib.Core.Bool.{true}
use mathlib.Core.List.{List}
use Rattle.region.specs.Record.{record_of}
use Rattle.block.specs.Block.{keep_record}
use Rattle.region.specs.Channel.{oldest}
use Rattle.layout.specs.Layout.{channel, on_block}
use Rattle.layout.specs.Slot.{slot_place}
use Rattle.outgoing.specs.Entries.{entries}
use Rattle.outgoing.specs.Outgoing.{shortened, is_cut, halt_if, let_out}
use Rattle.outgoing.specs.Forward.{ReceivedAt}
use Rattle.outgoing.proofs.Judged.{judged, heard-read}
use Rattle.release.proofs.Passed.{received-taken, received-kept}
use Rattle.release.proofs.settle_delivery.Goals as goal

pub returns-then-not-has_room : goal.returns-then-not-has_room
returns-then-not-has_room c =
    let a = c.args in
    let p = c.requires in
    let j = judged true a.n a.a a.c a.x a.o a.b.now p.0 p.1 p.2 p.3 p.4 p.5
    c.is_cut.ensures c.gone.ensures c.allowance.ensures
    c.has_room.ensures (record_of a.r.now) (heard-read a.r.now) in
    (sym c.if-not-has_room.true ∙ j, refl)

pub release-requires : goal.release-requires
release-requires c =
    let a = c.args in
    let p = c.requires in
    let v = a.o.view in
    let s = a.o.handler in
    let at = slot_place a.a a.c (oldest (channel a.b.now a.a a.c)) in
    let taken = received-taken a.n a.a a.c p.0 p.1 p.2 p.3 p.4 v s a.b.now p.5 at p.8
    c.take_off_at.ensures in
    let kept = received-kept a.n a.a a.c p.0 p.1 p.2 p.3 p.4 v s c.take_off_at.new.b
    (c.take_off_at.auto.b ∙ p.5) at taken (record_of a.r.now) (heard-read a.r.now)
    c.keep_record_at.ensures in (
      p.0,
      p.1,
      p.2,
      p.3,
      p.4,
      search rules,
      subst (λ (j : ℕ). ReceivedAt a.n a.a a.c v s c.keep_record_at.new.b j)
          (sym c.first_place-from.ensures) kept,
      p.9,
    )

pub returns : goal.returns
returns c =
    let a = c.args in
    let p = c.requires in
    let j = judged true a.n a.a a.c a.x a.o a.b.now p.0 p.1 p.2 p.3 p.4 p.5
    c.is_cut.ensures c.gone.ensures c.allowance.ensures
    c.has_room.ensures (record_of a.r.now) (heard-read a.r.now) in (
      sym c.if-not-has_room.false ∙ j,
      c.release.ensures
          ∙ ap (λ (u : List ℕ). let_out a.n a.c (shortened a.x (entries a.n a.a a.o))
          (halt_if (is_cut a.x) a.n a.c u))
          (c.keep_record_at.ensures ∙ ap (on_block a.c (keep_record (record_of a.r.now)))
          c.take_off_at.ensures),
    )
