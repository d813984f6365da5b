-- Laws of sets of nodes as numbers: who is in a set with one node more, and how many. Assumes nothing.
use mathlib.Core.Path.{◌≡◌, refl, sym, ap, ap₂, ◌∙◌}
use mathlib.Core.Bool.{Bool, true, false}
use Prim.Native.Nat.{ℕ, zero, suc, ◌+◌, ◌-◌, ◌*◌, ◌/◌, ◌%◌, ◌^◌, ◌≤◌, ◌<◌}
use native.Mathlib.Nat.{mod-eq_of_lt, one-mul, div-eq_of_lt, mul-mod_left, zero-div, mod-lt, mod-one}
use lib.Count.{ones, ones_cat, ones-ones}
use Rattle.std.proofs.lemmas.Nat.{mod-pow-add, pow_pos}
use native.Mathlib.Decide.{ℕ_discrete, dec_lt}
use native.Mathlib.Omega.{arith}
use lib.Dec.{leb, ltb, eqb}
use lib.Bits.{bit_or, or_shr, or_mod, or_zero_r}
use lib.Pow.{pow-lt, pow-add, shl-shr}
use borrow.Author.Tests.{eq-eqb, le-leb, lt-ltb, ltb-true}
use Rattle.octets.specs.Test.{pick}
use Rattle.octets.proofs.Test.{both_right, both_true}
use Rattle.view.specs.Size.{nodes}
use Rattle.table.specs.Loop.{count}
use Rattle.table.specs.Quorum.{member, with, only, members_in, most_faults, tolerates}

-- a 1 that is shifted by s stays in its word
pub shifted : (s : ℕ) → s < 64 → 1 * 2 ^ s % 2 ^ 64 ≡ 2 ^ s
shifted s h = rw (one-mul (2 ^ s)) (mod-eq_of_lt (pow-lt h))

-- bit j of a set with bit i
bit-or : (m i j : ℕ) → bit_or m (2 ^ i) / 2 ^ j % 2 ≡ bit_or (m / 2 ^ j % 2) (2 ^ i / 2 ^ j % 2)
bit-or m i j = ap (λ (x : ℕ). x % 2) (or_shr m (2 ^ i) j) ∙ or_mod (m / 2 ^ j) (2 ^ i / 2 ^ j) 1

bit-same : (i : ℕ) → 2 ^ i / 2 ^ i % 2 ≡ 1
bit-same i = ap (λ (x : ℕ). x / 2 ^ i % 2) (sym (one-mul (2 ^ i))) ∙ ap (λ (x : ℕ). x % 2) (shl-shr 1 i)

bit_below : (i j : ℕ) → j < i → 2 ^ i / 2 ^ j % 2 ≡ 0
bit_below i j h =
    let e : i ≡ (i - j - 1) + 1 + j = omega arith in
    ap (λ (k : ℕ). 2 ^ k / 2 ^ j % 2) e
    ∙ ap (λ (x : ℕ). x / 2 ^ j % 2) (pow-add 2 ((i - j - 1) + 1) j)
    ∙ ap (λ (x : ℕ). x % 2) (shl-shr (2 ^ ((i - j - 1) + 1)) j)
    ∙ ap (λ (x : ℕ). x % 2) (pow-add 2 (i - j - 1) 1)
    ∙ mul-mod_left (2 ^ (i - j - 1)) 2

bit-above : (i j : ℕ) → i < j → 2 ^ i / 2 ^ j ≡ 0
bit-above i j h = div-eq_of_lt (pow-lt h)

or-one : (x : ℕ) → x < 2 → bit_or x 1 ≡ 1
or-one zero h = refl
or-one (suc zero) h = refl
or-one (suc (suc x)) h = absurd (omega arith)

pub member-none : (s : ℕ) → member 0 s ≡ false
unfolding member
member-none s = rw (zero-div (2 ^ (s - 1)))

pub member-same : (m s : ℕ) → member (with m s) s ≡ true
unfolding member with
member-same m s =
    let i = s - 1 in
    eq-eqb (bit_or m (2 ^ i) / 2 ^ i % 2) 1
    (bit-or m i i ∙ ap (bit_or (m / 2 ^ i % 2)) (bit-same i) ∙ or-one (m / 2 ^ i % 2)
    (mod-lt (m / 2 ^ i) (omega arith)))

pub member-other : (m s x : ℕ) → 1 ≤ s → 1 ≤ x → (x ≡ s → ⊥) → member (with m s) x ≡ member m x
unfolding member with
member-other m s x a b d =
    let i = s - 1 in
    let j = x - 1 in
    let e : 2 ^ i / 2 ^ j % 2 ≡ 0 = elim (dec_lt j i) [
      | yes h ↦ bit_below i j h
      | no h ↦ ap (λ (k : ℕ). k % 2) (bit-above i j (let q : i < j = omega arith in q))
    ] in
    ap (λ (k : ℕ). eqb k 1) (bit-or m i j ∙ ap (bit_or (m / 2 ^ j % 2)) e ∙ or_zero_r (m / 2 ^ j % 2))

-- one of the nodes 1 to n in it keeps a set within them
pub only-with : (n m s : ℕ) → 1 ≤ s → s ≤ n → only n (with m s) ≡ only n m
unfolding only with
only-with n m s a b =
    ap (λ (k : ℕ). eqb k 0)
    (or_shr m (2 ^ (s - 1)) n ∙ ap (bit_or (m / 2 ^ n)) (bit-above (s - 1) n (let q : s - 1 < n = omega arith in q))
    ∙ or_zero_r (m / 2 ^ n))

pub only_none : (n : ℕ) → only n 0 ≡ true
unfolding only
only_none n = rw (zero-div (2 ^ n))

-- ---- how many

pub count-le : (n : ℕ) (p : ℕ → Bool) → count n p ≤ n
unfolding count
count-le zero p = omega arith
count-le (suc k) p = step (p (suc k)) (count-le k p)
  where
    step : (b : Bool) → count k p ≤ k → pick b (count k p + 1) (count k p) ≤ suc k
    step true h = omega arith
    step false h = omega arith

pub count_no : (n : ℕ) (p : ℕ → Bool) → ((w : ℕ) → p w ≡ false) → count n p ≡ 0
unfolding count
count_no zero p h = refl
count_no (suc k) p h = rw (h (suc k)) (count_no k p h)

pub members_in-none : (n : ℕ) → members_in n 0 ≡ 0
unfolding members_in
members_in-none n = count_no n (member 0) member-none

pub count_same : (n : ℕ) (p q : ℕ → Bool) → ((w : ℕ) → 1 ≤ w → w ≤ n → q w ≡ p w) → count n q ≡ count n p
unfolding count
count_same zero p q h = refl
count_same (suc k) p q h =
    ap₂ (λ (b : Bool) (c : ℕ). pick b (c + 1) c) (h (suc k) (omega arith) (omega arith))
    (count_same k p q (λ w l m. h w l (omega arith)))

-- a test that holds of s besides counts one more
count-one-more : (n : ℕ) (p q : ℕ → Bool) (s : ℕ) → 1 ≤ s → s ≤ n → p s ≡ false → q s ≡ true
    → ((w : ℕ) → 1 ≤ w → (w ≡ s → ⊥) → q w ≡ p w) → count n q ≡ count n p + 1
unfolding count
count-one-more zero p q s a b e g h = absurd (omega arith)
count-one-more (suc k) p q s a b e g h = elim (ℕ_discrete s (suc k)) [
  | yes d ↦ let u : q (suc k) ≡ true = ap q (sym d) ∙ g in
      let v : p (suc k) ≡ false = ap p (sym d) ∙ e in
      rw (u, v) (ap (λ (c : ℕ). c + 1) (count_same k p q (λ w l m. h w l (λ x. omega arith))))
  | no d ↦ let ih : count k q ≡ count k p + 1 = count-one-more k p q s a (omega arith) e g h in
      rw (h (suc k) (omega arith) (λ x. d (sym x)), ih) (step (p (suc k)) (count k p))
]
  where
    step : (b : Bool) (c : ℕ) → pick b (c + 1 + 1) (c + 1) ≡ pick b (c + 1) c + 1
    step true c = refl
    step false c = refl

-- a sender that was not counted yet counts one
pub members_in-with : (n m s : ℕ) → 1 ≤ s → s ≤ n → member m s ≡ false → members_in n (with m s) ≡ members_in n m + 1
unfolding members_in
members_in-with n m s a b e =
    count-one-more n (member m) (member (with m s)) s a b e (member-same m s) (λ w l d. member-other m s w a l d)

-- the members are the ones among the first n bits
pub members_in-ones : (n m : ℕ) → ones (m % 2 ^ n) ≡ members_in n m
unfolding members_in count member
members_in-ones zero m = rw (mod-one m) (ones-ones 0)
members_in-ones (suc n) m =
    let back : suc n - 1 ≡ n = omega arith in
    let next : suc n ≡ 1 + n = omega arith in
    let bit : m / 2 ^ n % 2 < 2 = mod-lt (m / 2 ^ n) (omega arith) in
    ap (λ (k : ℕ). ones (m % 2 ^ k)) next
    ∙ ap ones (mod-pow-add m 1 n)
    ∙ ones_cat n (m / 2 ^ n % 2) (m % 2 ^ n) (mod-lt m (pow_pos n))
    ∙ rw back (step (m / 2 ^ n % 2) bit (members_in-ones n m))
  where
    step : (b : ℕ) {r c : ℕ} → b < 2 → r ≡ c → ones b + r ≡ pick (eqb b 1) (c + 1) c
    step zero h e = omega (arith, ones-ones 0, e)
    step (suc zero) h e = omega (arith, ones-ones 1, e)
    step (suc (suc b)) h e = absurd (omega arith)

-- ---- f

-- f is the largest number with 2f < n
pub faults-largest : (n : ℕ) → 1 ≤ n → (2 * most_faults n < n) × (n ≤ 2 * (most_faults n + 1))
faults-largest n h = (omega arith, omega arith)

-- n nodes tolerate each f with 2f < n, and no other
pub tolerates-half : (n f : ℕ) → tolerates n f ≡ true → f + f < n
tolerates-half n f h = ltb-true (f + f) n (both_right (leb f (most_faults nodes)) (ltb (f + f) n) h)

pub half-tolerates : (n f : ℕ) → n ≤ nodes → f + f < n → tolerates n f ≡ true
half-tolerates n f small half =
    both_true (le-leb f (most_faults nodes) (omega arith)) (lt-ltb (f + f) n half)
