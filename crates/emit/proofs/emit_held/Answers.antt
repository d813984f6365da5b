-- `emit::emit_held` meets its contract. Assumes nothing.
use mathlib.Core.Path.{refl, ap, ◌∙◌}
use mathlib.Core.List.{List}
use Prim.Native.Nat.{ℕ}
use native.Mathlib.Nat.{le_of_eq}
use lib.ListN.{length}
use Rattle.octets.specs.Bytes.{put}
use Rattle.step.specs.Step.{messages}
use Rattle.calls.specs.Bytes.{run}
use Rattle.emit.proofs.Runs.{front_length, front-most, again-length, front-is, room_of}
use Rattle.emit.proofs.emit_held.Goals as goal

pub slice_bounds-write_view-end : goal.slice_bounds-write_view-end
slice_bounds-write_view-end c =
    front_length c.args.n _ refl c.requires.2

pub write_view-requires : goal.write_view-requires
write_view-requires c =
    let p = c.requires in
    (p.2, le_of_eq (front_length c.args.n _ refl p.2))

pub slice_bounds-view-end-2 : goal.slice_bounds-view-end-2
slice_bounds-view-end-2 c =
    front-most c.args.n _ refl c.requires.2 c.write_view.new.out c.write_view.auto.out

pub slice_bounds-emit_parts-end : goal.slice_bounds-emit_parts-end
slice_bounds-emit_parts-end c =
    again-length c.args.n _ refl c.requires.2 c.write_view.new.out c.write_view.auto.out

pub emit_parts-requires : goal.emit_parts-requires
emit_parts-requires c =
    let a = c.args in
    let p = c.requires in (
      p.0,
      room_of a.n a.o.view _ (messages a.o) _
          (front-is a.n _ refl p.2 c.write_view.new.out c.write_view.auto.out a.o.view c.write_view.ensures)
          p.1 p.2 p.3 p.4,
    )

pub returns : goal.returns
returns c =
    let a = c.args in
    let p = c.requires in
    let view = front-is a.n _ refl p.2 c.write_view.new.out c.write_view.auto.out a.o.view c.write_view.ensures in (
      c.emit_parts.ensures.0 ∙ ap (λ (v : List ℕ). length (run v (messages a.o))) view,
      c.emit_parts.ensures.1 ∙ ap (λ (v : List ℕ). put a.out.now 0 (run v (messages a.o)))
          view,
    )
