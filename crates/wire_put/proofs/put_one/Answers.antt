-- `wire_put::put_one` meets its contract.
use Prim.Native.Nat.{ℕ, ◌+◌, ◌≤◌}
use mathlib.Core.Path.{refl}
use mathlib.Core.List.{List, [], ◌∷◌}
use native.Mathlib.Omega.{arith}
use lib.ListN.{length}
use Rattle.octets.specs.Bytes.{be}
use Rattle.octets.proofs.Put.{put_then}
use Rattle.wire.specs.Layout.{number_size, first_at}
use Rattle.wire_put.proofs.put_one.Goals as goal

pub returns : goal.returns
returns c =
    let a = c.args in
    let room : first_at + number_size ≤ length a.out.now = c.requires in
    let h : List ℕ = 1 ∷ 0 ∷ 1 ∷ a.k ∷ a.mark ∷ 0 ∷ 8 ∷ [] in
    let e = put_then a.out.now 0 h (be number_size a.x) first_at (omega arith) refl c.put_bytes.ensures
    c.put_word.ensures in
    (refl, e)
