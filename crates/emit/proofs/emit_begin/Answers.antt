-- `emit::emit_begin` meets its contract.
use mathlib.Core.Path.{refl, ap, ◌∙◌}
use mathlib.Core.List.{List, []}
use Prim.Native.Nat.{ℕ}
use native.Mathlib.Nat.{zero-add}
use lib.ListN.{length}
use Rattle.octets.specs.Bytes.{put}
use Rattle.view.specs.View.{no_view, view_bytes}
use Rattle.step.specs.Step.{listed}
use Rattle.emit.proofs.NoGood.{room-alike, runs-alike}
use Rattle.emit.proofs.Runs.{room_of}
use Rattle.emit.proofs.emit_begin.Goals as goal

pub emit_sent-requires : goal.emit_sent-requires
emit_sent-requires c =
    let a = c.args in
    let p = c.requires in
    room-alike a.n (view_bytes a.n no_view) [] (listed a.m) 0 _ p.2
    (room_of a.n no_view _ (listed a.m) _ refl p.0 p.1 p.3 p.4)

pub returns : goal.returns
returns c =
    let a = c.args in
    let alike = runs-alike a.n [] (view_bytes a.n no_view) (listed a.m) c.requires.2 in (
      c.emit_sent.ensures.0 ∙ zero-add _ ∙ ap (λ (x : List ℕ). length x) alike,
      c.emit_sent.ensures.1 ∙ ap (λ (x : List ℕ). put a.out.now 0 x) alike,
    )
