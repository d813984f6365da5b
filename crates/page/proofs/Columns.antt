-- A number right in its columns, column by column: what stands before each digit decides whether it is shown.
use Prim.Native.Nat.{ℕ, zero, suc, ◌+◌, ◌-◌, ◌/◌, ◌%◌, ◌^◌, ◌<◌, ◌≤◌}
use mathlib.Core.Path.{◌≡◌, refl, sym, ap, ap₂, ◌∙◌}
use mathlib.Core.Bool.{Bool}
use mathlib.Core.List.{List, [], ◌∷◌, ◌++◌, append_assoc}
use native.Mathlib.Decide.{ℕ_discrete}
use native.Mathlib.Omega.{arith}
use lib.ListN.{length, replicate, length-append, replicate-append-replicate}
use borrow.Author.Tests.{eq-eqb, ne_eqb}
use Rattle.octets.specs.Test.{pick}
use Rattle.digits.specs.Decimal.{fewest, decimal}
use Rattle.digits.proofs.DecimalBack.{ten-down, above, above_more}
use Rattle.page.specs.Page.{space, right, column_of}

-- k columns, of which the last is that of y
abbrev pub cols : ℕ → ℕ → List ℕ
cols zero y = []
cols (suc k) y = cols k (y / 10) ++ (column_of y ∷ [])

cols-zero : (k : ℕ) → cols k 0 ≡ replicate k space
cols-zero zero = refl
cols-zero (suc k) =
    let e : k + 1 ≡ suc k = omega arith in
    ap (λ (t : List ℕ). t ++ (space ∷ [])) (cols-zero k) ∙ replicate-append-replicate k 1 space
    ∙ ap (λ (j : ℕ). replicate j space) e

-- a text with one byte more, in one column more
right-snoc : (k : ℕ) (s : List ℕ) (x : ℕ) → right (suc k) (s ++ (x ∷ [])) ≡ right k s ++ (x ∷ [])
unfolding right
right-snoc k s x =
    let e : suc k - length (s ++ (x ∷ [])) ≡ k - length s = simp length-append (omega arith) in
    ap (λ (j : ℕ). replicate j space ++ (s ++ (x ∷ []))) e
    ∙ sym (append_assoc (replicate (k - length s) space) s (x ∷ []))

right-none : (k : ℕ) → right k [] ≡ replicate k space
unfolding right
right-none k =
    let e : k - 0 + 0 ≡ k = omega arith in
    replicate-append-replicate (k - 0) 0 space ∙ ap (λ (j : ℕ). replicate j space) e

-- what stands before the last digit: nothing, or a digit more
above-none : (k j y : ℕ) → y ≡ 0 → right k (above j y) ≡ cols k y
above-none k j y e =
    ap (λ (t : Bool). right k (pick t [] (fewest j y))) (eq-eqb y 0 e) ∙ right-none k ∙ sym (cols-zero k)
    ∙ ap (λ (z : ℕ). cols k z) (sym e)

above-some : (k j y : ℕ) → (y ≡ 0 → ⊥) → right k (above j (y / 10)) ≡ cols k (y / 10)
    → right (suc k) (above (suc j) y) ≡ cols (suc k) y
above-some k j y m h =
    let e : suc j - 1 ≡ j = omega arith in
    let c : column_of y ≡ 48 + y % 10 = rw (ne_eqb y 0 m) refl in
    ap (λ (s : List ℕ). right (suc k) s) (above_more (suc j) y (omega arith) (omega arith))
    ∙ right-snoc k (above (suc j - 1) (y / 10)) (48 + y % 10)
    ∙ ap₂ (λ (i x : ℕ). right k (above i (y / 10)) ++ (x ∷ [])) e (sym c)
    ∙ ap (λ (s : List ℕ). s ++ (column_of y ∷ [])) h

right-above : (k j y : ℕ) → y < 10 ^ k → k ≤ j → right k (above j y) ≡ cols k y
right-above zero j y l h = above-none zero j y (omega arith)
right-above (suc k) zero y l h = absurd (omega arith)
right-above (suc k) (suc j) y l h = elim (ℕ_discrete y 0) [
  | yes e ↦ above-none (suc k) (suc j) y e
  | no m ↦ above-some k j y m (right-above k j (y / 10) (ten-down k y l) (omega arith))
]

-- a number that fits its columns
pub right-decimal : (k x : ℕ) → x < 10 ^ suc k → k ≤ 19
    → right (suc k) (decimal x) ≡ cols k (x / 10) ++ ((48 + x % 10) ∷ [])
unfolding fewest
right-decimal k x l h =
    right-snoc k (above 19 (x / 10)) (48 + x % 10)
    ∙ ap (λ (s : List ℕ). s ++ ((48 + x % 10) ∷ [])) (right-above k 19 (x / 10) (ten-down k x l) h)
