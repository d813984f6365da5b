-- Big-endian bytes and their number: each gives back the other.
use Prim.Native.Nat.{ℕ, zero, suc, ◌+◌, ◌*◌, ◌/◌, ◌%◌, ◌^◌, ◌<◌, ◌≤◌}
use mathlib.Core.Path.{◌≡◌, refl, sym, ap, ap₂, ◌∙◌}
use mathlib.Core.List.{List, [], ◌∷◌}
use native.Mathlib.Nat.{mul-suc, mod-lt, zero-div, zero-mod, mul-le-mul_right}
use native.Mathlib.Omega.{arith}
use lib.ListN.{length, get_or, replicate}
use lib.Pow.{pow-add, pow_pos, shr_lt, split, high, low}
use Rattle.octets.specs.Bytes.{Bytes, num, be}
use Rattle.octets.specs.Loop.{tab}
use Rattle.octets.proofs.Table.{tab-spelled}

-- one byte more weighs 256 times as much
pub weight : (k : ℕ) → 2 ^ (8 * suc k) ≡ 256 * 2 ^ (8 * k)
weight k = rw (mul-suc 8 k, pow-add 2 (8 * k) 8) (omega arith)

pub num-lt : (s : List ℕ) → Bytes s → num s < 2 ^ (8 * length s)
num-lt [] h = pow_pos 0
num-lt (x ∷ s) h =
    let ih : num s < 2 ^ (8 * length s) = num-lt s (λ i. h (suc i)) in
    let top : suc x * 2 ^ (8 * length s) ≤ 256 * 2 ^ (8 * length s) = mul-le-mul_right (2 ^ (8 * length s)) (h 0) in
    rw (weight (length s)) (omega arith)

pub length-be : (k x : ℕ) → length (be k x) ≡ k
length-be zero x = refl
length-be (suc k) x = ap suc (length-be k (x % 2 ^ (8 * k)))

pub num-be : (k x : ℕ) → x < 2 ^ (8 * k) → num (be k x) ≡ x
num-be zero x h = omega arith
num-be (suc k) x h =
    ap₂ (λ (l y : ℕ). x / 2 ^ (8 * k) * 2 ^ (8 * l) + y) (length-be k (x % 2 ^ (8 * k)))
    (num-be k (x % 2 ^ (8 * k)) (mod-lt x (pow_pos (8 * k)))) ∙ split x (8 * k)

-- of at least one byte the number is had back with no bound: the first of them is not cut
pub num-be-suc : (k x : ℕ) → num (be (suc k) x) ≡ x
num-be-suc k x =
    ap₂ (λ (l y : ℕ). x / 2 ^ (8 * k) * 2 ^ (8 * l) + y) (length-be k (x % 2 ^ (8 * k)))
    (num-be k (x % 2 ^ (8 * k)) (mod-lt x (pow_pos (8 * k)))) ∙ split x (8 * k)

pub be-num : (s : List ℕ) → Bytes s → be (length s) (num s) ≡ s
be-num [] h = refl
be-num (x ∷ s) h =
    let l : num s < 2 ^ (8 * length s) = num-lt s (λ i. h (suc i)) in
    ap₂ (λ (y z : ℕ). y ∷ be (length s) z) (high x (8 * length s) l) (low x (8 * length s) l)
    ∙ ap (λ (t : List ℕ). x ∷ t) (be-num s (λ i. h (suc i)))

pub be-zero : (k : ℕ) → be k 0 ≡ replicate k 0
be-zero zero = refl
be-zero (suc k) =
    ap₂ (λ (y z : ℕ). y ∷ be k z) (zero-div (2 ^ (8 * k))) (zero-mod (2 ^ (8 * k))) ∙ ap (λ (t : List ℕ). 0 ∷ t)
    (be-zero k)

-- bytes whose number is 0 are zeros
pub num-zero : (s : List ℕ) → Bytes s → num s ≡ 0 → s ≡ replicate (length s) 0
num-zero s h e = sym (be-num s h) ∙ ap (λ (x : ℕ). be (length s) x) e ∙ be-zero (length s)

-- the bytes of a number that they can hold are bytes
pub be-bytes : (k x : ℕ) → x < 2 ^ (8 * k) → Bytes (be k x)
be-bytes zero x h i = omega arith
be-bytes (suc k) x h zero =
    let e : 8 * suc k ≡ 8 + 8 * k = omega arith in
    shr_lt 8 (8 * k) (rw e at h)
be-bytes (suc k) x h (suc i) = be-bytes k (x % 2 ^ (8 * k)) (mod-lt x (pow_pos (8 * k))) i

pub num-eight : (s : List ℕ) → length s ≡ 8
    → num s
    ≡ (get_or s 0 0 * 16777216 + get_or s 1 0 * 65536 + get_or s 2 0 * 256 + get_or s 3 0) * 4294967296
    + (get_or s 4 0 * 16777216 + get_or s 5 0 * 65536 + get_or s 6 0 * 256 + get_or s 7 0)
unfolding tab
num-eight s e = let q : num s ≡ num (tab 8 (λ i. get_or s i 0)) = ap num (tab-spelled 8 s 0 e) in omega arith
