-- The digits of a number say that number, they are digits, and there are no more than it needs.
use Prim.Native.Nat.{ℕ, zero, suc, ◌+◌, ◌-◌, ◌*◌, ◌/◌, ◌%◌, ◌^◌, ◌<◌, ◌≤◌}
use mathlib.Core.Path.{◌≡◌, refl, sym, ap, ap₂, ◌∙◌}
use mathlib.Core.Bool.{Bool, true, false}
use mathlib.Core.List.{List, [], ◌∷◌, ◌++◌}
use native.Mathlib.Nat.{add-zero, pow-succ', pow-le-pow_right}
use native.Mathlib.Numerals.{add-one}
use native.Mathlib.Omega.{arith}
use lib.ListN.{length, drop, set, replicate, length-append, get_or-append}
use lib.Seq.{get_or-append_seam, drop-set-add, drop-cons}
use lib.Dec.{eqb}
use Rattle.std.proofs.lemmas.List.Folds.{list_all-append}
use borrow.Author.Tests.{eqb-true, ne_eqb, le-leb}
use Rattle.octets.specs.Test.{pick}
use Rattle.octets.specs.Loop.{up_to}
use Rattle.octets.proofs.Test.{both_true}
use Rattle.octets.proofs.Loop.{up_to-first, up_to-more, up_to-ext}
use Rattle.digits.specs.Decimal.{is_digit, all_digits, value, value_with, fewest, decimal}

-- ---- powers of ten

pub ten-more : (k : ℕ) → 10 ^ (k + 1) ≡ 10 * 10 ^ k
ten-more k = rw (add-one k) (pow-succ' 10 k)

pub ten-most : (k : ℕ) → k ≤ 4 → 10 ^ k ≤ 10000
ten-most k h = let p : 0 < 10 = omega arith in pow-le-pow_right p h

pub ten-room : (k y : ℕ) → 0 < y → y < 10 ^ k → 1 ≤ k
ten-room zero y h l = absurd (omega arith)
ten-room (suc k) y h l = omega arith

pub ten-down : (k y : ℕ) → y < 10 ^ suc k → y / 10 < 10 ^ k
ten-down k y l = let e : 10 ^ suc k ≡ 10 * 10 ^ k = pow-succ' 10 k in omega arith

pub ten-low : (k y : ℕ) → 0 < y → y < 10 ^ k → y / 10 < 10 ^ (k - 1)
ten-low zero y h l = absurd (omega arith)
ten-low (suc k) y h l = let e : suc k - 1 ≡ k = omega arith in rw e (ten-down k y l)

-- ---- the digits above the last one

abbrev pub above : ℕ → ℕ → List ℕ
above k y = pick (eqb y 0) [] (fewest k y)

pub above_more : (k y : ℕ) → 0 < y → 1 ≤ k → above k y ≡ above (k - 1) (y / 10) ++ ((48 + y % 10) ∷ [])
unfolding fewest
above_more zero y h l = absurd (omega arith)
above_more (suc k) y h l =
    let n : eqb y 0 ≡ false = ne_eqb y 0 (λ e. omega arith) in
    let e : suc k - 1 ≡ k = omega arith in
    rw (n, e)

-- a digit written before others
pub stored : (t : List ℕ) (k d : ℕ) → 1 ≤ k → k ≤ length t → drop (k - 1) (set t (k - 1) d) ≡ d ∷ drop k t
stored t zero d h l = absurd (omega arith)
stored t (suc k) d h l =
    let e : suc k - 1 ≡ k = omega arith in
    rw e (ap (λ (i : ℕ). drop k (set t i d)) (sym (add-zero k)) ∙ drop-set-add k t 0 d
    ∙ ap (λ (r : List ℕ). set r 0 d) (drop-cons t k 0 l))

-- ---- what they say

value-snoc : (s : List ℕ) (x : ℕ) → value (s ++ (x ∷ [])) ≡ 10 * value s + (x - 48)
unfolding value
value-snoc s x =
    let t : List ℕ = s ++ (x ∷ []) in
    ap (λ (k : ℕ). up_to k (value_with t) 0) (length-append s (x ∷ []))
    ∙ up_to-more (length s) (value_with t) 0
    ∙ ap₂ (λ (v y : ℕ). 10 * v + (y - 48))
    (up_to-ext (length s) (value_with t) (value_with s) 0 (λ i v l. ap (λ (y : ℕ). 10 * v + (y - 48))
    (get_or-append s (x ∷ []) 0 i l)))
    (get_or-append_seam s x [] 0)

-- spaces before a text of digits count as no digit
pub value-spaces : (k : ℕ) (s : List ℕ) → value (replicate k 32 ++ s) ≡ value s
unfolding value
value-spaces zero s = refl
value-spaces (suc k) s =
    let t : List ℕ = replicate k 32 ++ s in
    up_to-first (length t) (value_with (32 ∷ t)) 0 ∙ value-spaces k s

value-above : (k y : ℕ) (t : Bool) → eqb y 0 ≡ t → value (fewest k y) ≡ y → value (pick t [] (fewest k y)) ≡ y
unfolding value up_to
value-above k y true e h = sym (eqb-true y 0 e)
value-above k y false e h = h

value-fewest : (k x : ℕ) → x < 10 ^ k → value (fewest k x) ≡ x
unfolding fewest value up_to
value-fewest zero x l = omega arith
value-fewest (suc k) x l =
    let y : ℕ = x / 10 in
    value-snoc (above k y) (48 + x % 10)
    ∙ ap (λ (v : ℕ). 10 * v + (48 + x % 10 - 48)) (value-above k y (eqb y 0) refl (value-fewest k y (ten-down k x l)))
    ∙ (omega arith)

-- the digits of a number read back give the number
pub value-decimal : (x : ℕ) → x < 10 ^ 20 → value (decimal x) ≡ x
value-decimal x l = value-fewest 20 x l

-- ---- they are digits

digits-snoc : (s : List ℕ) (x : ℕ) → all_digits s ≡ true → is_digit x ≡ true → all_digits (s ++ (x ∷ [])) ≡ true
unfolding all_digits
digits-snoc s x h e = rw (list_all-append is_digit s (x ∷ []), h, e)

last-digit : (x : ℕ) → is_digit (48 + x % 10) ≡ true
last-digit x = both_true (le-leb 48 (48 + x % 10) (omega arith)) (le-leb (48 + x % 10) 57 (omega arith))

digits_above : (k y : ℕ) (t : Bool) → all_digits (fewest k y) ≡ true → all_digits (pick t [] (fewest k y)) ≡ true
unfolding all_digits
digits_above k y true h = refl
digits_above k y false h = h

pub digits-fewest : (k x : ℕ) → all_digits (fewest k x) ≡ true
unfolding fewest all_digits
digits-fewest zero x = refl
digits-fewest (suc k) x =
    digits-snoc (above k (x / 10)) (48 + x % 10) (digits_above k (x / 10) (eqb (x / 10) 0) (digits-fewest k (x / 10)))
    (last-digit x)

-- ---- and as few as can be

length_above : (k y j : ℕ) (t : Bool) → eqb y 0 ≡ t → length (fewest k y) ≤ j → length (pick t [] (fewest k y)) ≤ j
length_above k y j true e h = omega arith
length_above k y j false e h = h

-- at least one, and no more than j for a number below 10 ^ j
pub fewest-some : (k x : ℕ) → 1 ≤ length (fewest (suc k) x)
unfolding fewest
fewest-some k x = simp length-append (omega arith)

pub fewest-most : (k x j : ℕ) → x < 10 ^ j → 1 ≤ j → length (fewest k x) ≤ j
unfolding fewest
fewest-most zero x j l h = omega arith
fewest-most (suc k) x zero l h = absurd (omega arith)
fewest-most (suc k) x (suc zero) l h =
    let e : x / 10 ≡ 0 = omega arith in
    rw e (omega arith)
fewest-most (suc k) x (suc (suc j)) l h =
    let m : length (fewest k (x / 10)) ≤ suc j = fewest-most k (x / 10) (suc j) (ten-down (suc j) x l) (omega arith) in
    simp length-append (omega (arith, length_above k (x / 10) (suc j) (eqb (x / 10) 0) refl m))

pub length-fewest : (k x : ℕ) → length (fewest k x) ≤ k
unfolding fewest
length-fewest zero x = omega arith
length-fewest (suc k) x =
    simp length-append (omega (arith, length_above k (x / 10) k (eqb (x / 10) 0) refl (length-fewest k (x / 10))))

pub length-decimal : (x : ℕ) → length (decimal x) ≤ 20
length-decimal x = length-fewest 20 x
