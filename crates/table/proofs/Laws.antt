-- Laws of the loops over 1 to n: one number more, and from the whole to each number and back.
-- Assumes nothing.
use mathlib.Core.Path.{◌≡◌, refl, sym, ap, ◌∙◌}
use mathlib.Core.Bool.{Bool, true, false, ◌&&◌}
use mathlib.Core.List.{List, [], ◌∷◌, ◌++◌, map, append-nil}
use Prim.Native.Nat.{ℕ, zero, suc, ◌+◌, ◌-◌, ◌≤◌, ◌<◌}
use mathlib.Core.Logic.{⊎_elim}
use native.Mathlib.Nat.{le_of_suc-le-suc, eq-or-lt_of_le, not-suc-le-zero}
use native.Mathlib.Numerals.{add-one}
use native.Mathlib.Omega.{arith}
use lib.ListN.{length, length-map, get_or, set, drop, length-append, get_or-append}
use lib.Seq.{get_or_at, set_at, drop-cons, drop-length, append_snoc}
use Rattle.octets.specs.Test.{both}
use Rattle.octets.proofs.Test.{both_left, both_right, both_true}
use Rattle.table.specs.Loop.{all, numbered}

pub all_none : (p : ℕ → Bool) → all 0 p ≡ true
unfolding all
all_none p = refl

pub all_more : (k : ℕ) (p : ℕ → Bool) → all (k + 1) p ≡ both (p (k + 1)) (all k p)
unfolding all
all_more k p = rw (add-one k)

-- 1 to n + 1 is 1 to n, or n + 1
up_to-suc : {X : Type 0} {w n : ℕ} → w ≤ suc n → (w ≡ suc n → X) → (w ≤ n → X) → X
up_to-suc h f g = ⊎_elim f (λ l. g (le_of_suc-le-suc l)) (eq-or-lt_of_le h)

pub all-at : (n : ℕ) (p : ℕ → Bool) (w : ℕ) → all n p ≡ true → 1 ≤ w → w ≤ n → p w ≡ true
unfolding all
all-at zero p w h l k = absurd (let e : 1 ≤ 0 = omega arith in not-suc-le-zero e)
all-at (suc n) p w h l k =
    up_to-suc k (λ e. ap p e ∙ both_left (p (suc n)) (all n p) h)
    (λ m. all-at n p w (both_right (p (suc n)) (all n p) h) l m)

pub all-all : (n : ℕ) (p : ℕ → Bool) → ((w : ℕ) → 1 ≤ w → w ≤ n → p w ≡ true) → all n p ≡ true
unfolding all
all-all zero p h = refl
all-all (suc n) p h = both_true (h (suc n) (omega arith) (omega arith)) (all-all n p (λ w l k. h w l (omega arith)))

pub numbered-none {ℓ} : {X : Type ℓ} (f : ℕ → X) → numbered 0 f ≡ []
unfolding numbered
numbered-none f = refl

pub numbered_more {ℓ} : {X : Type ℓ} (k : ℕ) (f : ℕ → X) → numbered (k + 1) f ≡ numbered k f ++ (f (k + 1) ∷ [])
unfolding numbered
numbered_more k f = rw (add-one k)

pub length-numbered {ℓ} : {X : Type ℓ} (n : ℕ) (f : ℕ → X) → length (numbered n f) ≡ n
unfolding numbered
length-numbered zero f = refl
length-numbered (suc k) f = length-append (numbered k f) (f (suc k) ∷ []) ∙ simp (length-numbered k f, add-one)

-- entry w of a table
pub get_d_numbered : {X : Type 0} (n : ℕ) (f : ℕ → X) (w : ℕ) (d : X) → 1 ≤ w → w ≤ n
    → get_or (numbered n f) (w - 1) d ≡ f w
unfolding numbered
get_d_numbered zero f w d l k = absurd (let e : 1 ≤ 0 = omega arith in not-suc-le-zero e)
get_d_numbered (suc n) f w d l k =
    up_to-suc k
    (λ e. get_or_at (numbered n f) (f (suc n)) [] d (w - 1) (length-numbered n f ∙ let q : n ≡ w - 1 = omega arith in q)
    ∙ ap f (sym e))
    (λ m. let q : w - 1 < length (numbered n f) = rw (length-numbered n f) (omega arith) in
    get_or-append (numbered n f) (f (suc n) ∷ []) d (w - 1) q ∙ get_d_numbered n f w d l m)

-- a table that is filled up to k, with entry k + 1 stored or as it should be, is filled up to k + 1
pub filled_set {ℓ} : {X : Type ℓ} (k : ℕ) (f : ℕ → X) (l : List X) (x : X) → k < length l → f (k + 1) ≡ x
    → set (numbered k f ++ drop k l) k x ≡ numbered (k + 1) f ++ drop (k + 1) l
filled_set k f l x h e =
    rw (
      drop-cons l k x,
      set_at (numbered k f) (get_or l k x) (drop (suc k) l) x k (length-numbered k f),
      numbered_more k f,
      e,
      add-one k,
    )
    (sym (append_snoc (numbered k f) x (drop (suc k) l)))

pub filled_kept {ℓ} : {X : Type ℓ} (k : ℕ) (f : ℕ → X) (l : List X) (d : X) → k < length l
    → f (k + 1) ≡ get_or l k d → numbered k f ++ drop k l ≡ numbered (k + 1) f ++ drop (k + 1) l
filled_kept k f l d h e =
    rw (numbered_more k f, e, add-one k, drop-cons l k d)
    (sym (append_snoc (numbered k f) (get_or l k d) (drop (suc k) l)))

pub filled_none {ℓ} : {X : Type ℓ} (f : ℕ → X) (l : List X) → l ≡ numbered 0 f ++ drop 0 l
unfolding numbered
filled_none f l = refl

pub filled-all {ℓ} : {X : Type ℓ} (n : ℕ) (f : ℕ → X) (l : List X) → length l ≡ n
    → numbered n f ++ drop n l ≡ numbered n f
filled-all n f l e = rw (← e, drop-length l) (append-nil (numbered (length l) f))

-- a list has as many elements as what it is mapped to
pub length-mapped : {X Y : Type 0} (f : X → Y) (l : List X) (n : ℕ) → length (map f l) ≡ n → length l ≡ n
length-mapped f l n e = sym (length-map l f) ∙ e

-- a test of the first k, with the test of k + 1
pub all-next : (k : ℕ) (p : ℕ → Bool) (ok b : Bool) → ok ≡ all k p → b ≡ p (k + 1) → (ok && b) ≡ all (k + 1) p
all-next k p ok b e f = rw (e, f, all_more k p) (turned (all k p) (p (k + 1)))
  where
    turned : (x y : Bool) → (x && y) ≡ both y x
    turned true true = refl
    turned true false = refl
    turned false true = refl
    turned false false = refl
