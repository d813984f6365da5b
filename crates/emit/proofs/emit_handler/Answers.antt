-- `emit::emit_handler` meets its contract.
use mathlib.Core.Path.{refl, ap, ◌∙◌}
use mathlib.Core.List.{List, []}
use Prim.Native.Nat.{ℕ}
use lib.ListN.{length}
use Rattle.octets.specs.Bytes.{put}
use Rattle.view.specs.View.{no_view, view_bytes}
use Rattle.step.specs.Step.{listed}
use Rattle.emit.proofs.NoGood.{room-alike, runs-alike}
use Rattle.emit.proofs.Runs.{room_of}
use Rattle.emit.proofs.emit_handler.Goals as goal

pub emit_first-requires : goal.emit_first-requires
emit_first-requires c =
    let a = c.args in
    let p = c.requires in (
      p.0,
      room-alike a.n (view_bytes a.n no_view) [] (listed a.m) 0 _ p.3
          (room_of a.n no_view _ (listed a.m) _ refl p.1 p.2 p.4 p.5),
    )

pub returns : goal.returns
returns c =
    let a = c.args in
    let alike = runs-alike a.n [] (view_bytes a.n no_view) (listed a.m) c.requires.3 in (
      c.emit_first.ensures.0 ∙ ap (λ (x : List ℕ). length x) alike,
      c.emit_first.ensures.1 ∙ ap (λ (x : List ℕ). put a.out.now 0 x) alike,
    )
