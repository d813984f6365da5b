-- `emit::emit_all` meets its contract: where no part holds a good message, the view's bytes do not matter.
use Rattle.std.proofs.Common.{◌≡◌, ◌∙◌, ℕ, false, List, [], length, refl, sym, ap}
use Rattle.octets.specs.Bytes.{put}
use Rattle.octets.proofs.Test.{true-false}
use Rattle.view.specs.View.{view_bytes}
use Rattle.step.specs.Step.{messages}
use Rattle.emit.specs.Good.{any_good}
use Rattle.emit.proofs.NoGood.{no-good, room-alike, runs-alike}
use Rattle.emit.proofs.Runs.{room_of}
use Rattle.emit.proofs.emit_all.Goals as goal
use Rattle.emit.proofs.emit_all.Goals.{then-holds_good, else-holds_good, then-holds_good-2, else-holds_good-2}

pub emit_parts-requires : goal.emit_parts-requires
emit_parts-requires c =
    let a = c.args in
    let p = c.requires in
    let none : any_good (messages a.o) ≡ false = no-good a.o (elim c.if-holds_good-2.branch [
      | then-holds_good-2 w ↦ true-false _ (w.value-is ∙ w.if-holds_good-2.true) c.if-holds_good-3.false
      | else-holds_good-2 w ↦ elim c.if-holds_good.branch [
        | then-holds_good v ↦ true-false _ (v.value-is ∙ v.if-holds_good.true) w.if-holds_good-2.false
        | else-holds_good v ↦ rw (
          sym c.holds_good.ensures ∙ v.if-holds_good.false,
          sym v.holds_good-else-holds_good.ensures ∙ sym v.value-is ∙ w.if-holds_good-2.false,
          sym w.holds_good-else-holds_good-2.ensures ∙ sym w.value-is ∙ c.if-holds_good-3.false,
        ) refl
      ]
    ]) in (
      p.0,
      room-alike a.n (view_bytes a.n a.o.view) [] (messages a.o) 0 _ none
          (room_of a.n a.o.view _ (messages a.o) _ refl p.1 p.2 p.3 p.4),
    )

pub returns-else-holds_good-3 : goal.returns-else-holds_good-3
returns-else-holds_good-3 c =
    let a = c.args in
    let none : any_good (messages a.o) ≡ false = no-good a.o (elim c.if-holds_good-2.branch [
      | then-holds_good-2 w ↦ true-false _ (w.value-is ∙ w.if-holds_good-2.true) c.if-holds_good-3.false
      | else-holds_good-2 w ↦ elim c.if-holds_good.branch [
        | then-holds_good v ↦ true-false _ (v.value-is ∙ v.if-holds_good.true) w.if-holds_good-2.false
        | else-holds_good v ↦ rw (
          sym c.holds_good.ensures ∙ v.if-holds_good.false,
          sym v.holds_good-else-holds_good.ensures ∙ sym v.value-is ∙ w.if-holds_good-2.false,
          sym w.holds_good-else-holds_good-2.ensures ∙ sym w.value-is ∙ c.if-holds_good-3.false,
        ) refl
      ]
    ]) in
    let alike = runs-alike a.n [] (view_bytes a.n a.o.view) (messages a.o) none in (
      c.emit_parts.ensures.0 ∙ ap (λ (x : List ℕ). length x) alike,
      c.emit_parts.ensures.1 ∙ ap (λ (x : List ℕ). put a.out.now 0 x) alike,
    )
