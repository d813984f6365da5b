-- `block::judge::view_sound` meets its contract.
use Prim.Native.Nat.{ℕ, ◌+◌, ◌≤◌}
use mathlib.Core.Path.{refl, ap, ◌∙◌}
use mathlib.Core.List.{List}
use native.Mathlib.Omega.{arith}
use lib.ListN.{length}
use Rattle.octets.proofs.Lent.{lent}
use Rattle.octets.proofs.Put.{part_bytes, length_part}
use Rattle.octets.specs.Bytes.{part}
use Rattle.view.specs.Size.{nodes, view_size}
use Rattle.view.specs.View.{view_ok}
use Rattle.region.specs.Record.{view_place}
use Rattle.block.proofs.Judged.{view-within}
use Rattle.block.proofs.judge.view_sound.Goals as goal

pub returns : goal.returns
returns c =
    let a = c.args in
    let r = a.r.now in
    let l : view_place a.i + view_size nodes ≤ length r = omega arith in
    c.view_ok.ensures ∙ ap (λ (s : List ℕ). view_ok nodes a.top s) (lent r (view_place a.i) (view_size nodes) refl)
    ∙ view-within a.top (part r (view_place a.i) (view_size nodes))
    (part_bytes r (view_place a.i) (view_size nodes) (λ i. (c.type_inv.r i).fits))
    (length_part r (view_place a.i) (view_size nodes) l)
