-- `wire_put::put_two` meets its contract.
use mathlib.Core.Path.{refl}
use Prim.Native.Nat.{ℕ, ◌≤◌}
use mathlib.Core.List.{List, [], ◌∷◌, ◌++◌}
use native.Mathlib.Omega.{arith}
use lib.ListN.{length}
use Rattle.octets.specs.Bytes.{be}
use Rattle.octets.proofs.Put.{put_then}
use Rattle.wire.specs.Layout.{kind, request, number_size, second_head, second_at, two_size}
use Rattle.wire_put.proofs.put_two.Goals as goal

pub returns : goal.returns
returns c =
    let a = c.args in
    let o = a.out.now in
    let room : two_size ≤ length o = c.requires in
    let u = kind a.k ++ request a.r in
    let h : List ℕ = 3 ∷ 0 ∷ 8 ∷ [] in
    let e = put_then o 0 (u ++ h) (be number_size a.t) second_at (omega arith) refl
    (put_then o 0 u h second_head (omega arith) refl c.put_one.ensures.1 c.put_bytes.ensures)
    c.put_word.ensures in
    (refl, e)
