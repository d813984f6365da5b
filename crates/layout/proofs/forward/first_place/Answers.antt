-- `layout::forward::first_place` meets its contract.
use Prim.Native.Nat.{ℕ, ◌+◌}
use mathlib.Core.Path.{ap, ap₂, ◌∙◌}
use lib.ListN.{get_or}
use Rattle.region.specs.Channel.{slot_at, oldest_place}
use Rattle.layout.proofs.Received.{oldest-at}
use Rattle.layout.proofs.forward.first_place.Goals as goal

pub returns : goal.returns
returns c =
    let a = c.args in
    let p = c.requires in
    let at = c.channel_at-at.ensures in
    ap₂ (λ (x y : ℕ). x + slot_at y) at (c.from.ensures
    ∙ ap (λ (x : ℕ). get_or a.b.now (x + oldest_place) 0) at ∙ oldest-at a.b.now a.a a.c p.0 p.1)
