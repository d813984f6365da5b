-- `figures::count_at` meets its contract.
use Rattle.std.proofs.Common.{◌≡◌, ℕ, ◌+◌, ◌*◌, List, length, get_or, ap, arith}
use native.Mathlib.Nat.{add-zero}
use Rattle.octets.specs.Bytes.{num, part}
use Rattle.octets.specs.Loop.{tab}
use Rattle.octets.proofs.Put.{length_part, get_d_part}
use Rattle.octets.proofs.Table.{tab-spelled}
use Rattle.figures.proofs.count_at.Goals as goal

num-two : (s : List ℕ) → length s ≡ 2 → num s ≡ get_or s 0 0 * 256 + get_or s 1 0
unfolding tab
num-two s e = let q : num s ≡ num (tab 2 (λ i. get_or s i 0)) = ap num (tab-spelled 2 s 0 e) in omega arith

pub returns : goal.returns
returns c =
    let v = c.args.v.now in
    let at = c.args.at in
    let q = num-two (part v at 2) (length_part v at 2 c.requires) in
    let a : get_or (part v at 2) 0 0 ≡ get_or v (at + 0) 0 = get_d_part v at 2 0 (omega arith) in
    let b : get_or (part v at 2) 1 0 ≡ get_or v (at + 1) 0 = get_d_part v at 2 1 (omega arith) in
    let f : get_or v (at + 0) 0 ≡ get_or v at 0 = ap (λ (k : ℕ). get_or v k 0) (add-zero at) in
    omega (arith, q, a, b, f, c.from_be_bytes.ensures)
