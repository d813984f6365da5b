-- The sum of a function of a node over the nodes 1 to n.
use Prim.Native.Nat.{ℕ, zero, suc, ◌+◌, ◌≤◌}
use native.Mathlib.Decide.{ℕ_discrete}
use native.Mathlib.Omega.{arith}
use mathlib.Core.Path.{sym, subst}

pub total : (ℕ → ℕ) → ℕ → ℕ
total f zero = 0
total f (suc n) = f (suc n) + total f n

pub total_mono : (f g : ℕ → ℕ) (n : ℕ) → ((w : ℕ) → 1 ≤ w → w ≤ n → f w ≤ g w) → total f n ≤ total g n
unfolding total
total_mono f g zero h = omega arith
total_mono f g (suc n) h =
    let top = h (suc n) (omega arith) (omega arith) in
    omega (arith, top, total_mono f g n λ w lo hi. h w lo (omega arith))

-- Of functions of which one is nowhere larger, equal sums say that neither is.
pub total-tight : (f g : ℕ → ℕ) (n : ℕ) → ((w : ℕ) → 1 ≤ w → w ≤ n → f w ≤ g w) → total g n ≤ total f n
    → (w : ℕ) → 1 ≤ w → w ≤ n → g w ≤ f w
unfolding total
total-tight f g zero h le w lo hi = absurd (omega arith)
total-tight f g (suc n) h le w lo hi =
    let top = h (suc n) (omega arith) (omega arith) in
    let low : (w : ℕ) → 1 ≤ w → w ≤ n → f w ≤ g w = λ w a b. h w a (omega arith) in
    let rest = total_mono f g n low in
    elim (ℕ_discrete w (suc n)) [
      | yes e ↦ subst (λ k. g k ≤ f k) (sym e) (omega arith)
      | no e ↦ total-tight f g n low (omega arith) w lo (omega arith)
    ]
