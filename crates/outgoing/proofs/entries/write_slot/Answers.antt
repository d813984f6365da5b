-- `outgoing::entries::write_slot` meets its contract.
use Prim.Native.Nat.{ℕ}
use native.Mathlib.Omega.{arith}
use mathlib.Core.Path.{ap, ◌∙◌}
use mathlib.Core.List.{List, []}
use Rattle.octets.specs.Bytes.{put}
use Rattle.view.specs.View.{view_bytes}
use Rattle.wire.proofs.Short.{not_good}
use Rattle.wire_put.proofs.Allowed.{any-view, allowed-short}
use Rattle.outgoing.proofs.Slot.{slot-fits}
use Rattle.outgoing.proofs.entries.write_slot.Goals as goal

pub short-requires : goal.short-requires
short-requires c =
    let x = c.args in
    let p = c.requires in
    let same = any-view x.n x.m [] (view_bytes x.n x.v) (not_good x.m c.in_default.not-Good) in
    let ok = same.1 ∙ p.2 in
    (allowed-short x.n x.m p.0 ok, omega (arith, slot-fits x.n x.m [] p.0 ok, p.1))

pub returns-in_default : goal.returns-in_default
returns-in_default c =
    let x = c.args in
    c.short.ensures.1
    ∙ ap (λ (e : List ℕ). put x.s.now 0 e)
    (any-view x.n x.m [] (view_bytes x.n x.v) (not_good x.m c.in_default.not-Good)).0
