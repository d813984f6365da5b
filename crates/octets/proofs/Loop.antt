-- Laws of the loop definitions: none, one more, and what they say at each number.
use Prim.Native.Nat.{ℕ, zero, suc, ◌+◌, ◌*◌, ◌<◌, ◌≤◌}
use mathlib.Core.Path.{◌≡◌, refl, sym, ap, ap₂, ◌∙◌}
use mathlib.Core.Bool.{Bool, true, false}
use mathlib.Core.Logic.{⊎_elim}
use mathlib.Core.List.{List, [], ◌∷◌, ◌++◌}
use native.Mathlib.Nat.{le_of_suc-le-suc, eq-or-lt_of_le, not-suc-le-zero}
use native.Mathlib.Numerals.{add-one}
use native.Mathlib.Omega.{arith}
use Rattle.octets.specs.Test.{both}
use Rattle.octets.specs.Loop.{up_to, fold_to, Combining, all_to, each}
use Rattle.octets.proofs.Test.{both_left, both_right, both_true}

-- k below n + 1 is n, or below n
pub below_suc : {X : Type 0} {k n : ℕ} → k < suc n → (k ≡ n → X) → (k < n → X) → X
below_suc h f g = ⊎_elim f g (eq-or-lt_of_le (le_of_suc-le-suc h))

-- ---- up_to

pub up_to-none : {A : Type 0} (f : ℕ → A → A) (a : A) → up_to 0 f a ≡ a
unfolding up_to
up_to-none f a = refl

pub up_to-more : {A : Type 0} (k : ℕ) (f : ℕ → A → A) (a : A) → up_to (k + 1) f a ≡ f k (up_to k f a)
unfolding up_to
up_to-more k f a = rw (add-one k)

pub up_to-ext : {A : Type 0} (k : ℕ) (f g : ℕ → A → A) (a : A) → ((i : ℕ) (x : A) → i < k → f i x ≡ g i x)
    → up_to k f a ≡ up_to k g a
unfolding up_to
up_to-ext zero f g a h = refl
up_to-ext (suc k) f g a h =
    h k (up_to k f a) (omega arith) ∙ ap (λ x. g k x) (up_to-ext k f g a (λ i x l. h i x (omega arith)))

-- the first number first
pub up_to-first : {A : Type 0} (k : ℕ) (f : ℕ → A → A) (a : A) → up_to (suc k) f a ≡ up_to k (λ i. f (suc i)) (f 0 a)
unfolding up_to
up_to-first zero f a = refl
up_to-first (suc k) f a = ap (f (suc k)) (up_to-first k f a)

-- ---- fold_to

pub fold_to-ext : {A : Type 0} (k : ℕ) (op : A → A → A) (none : A) (f g : ℕ → A) → ((i : ℕ) → i < k → f i ≡ g i)
    → fold_to k op none f ≡ fold_to k op none g
fold_to-ext k op none f g h = up_to-ext k (λ i a. op a (f i)) (λ i a. op a (g i)) none (λ i a l. ap (op a) (h i l))

-- numbers of at most m each, put together to no more than their sum
pub fold_to-le : (k m : ℕ) (op : ℕ → ℕ → ℕ) (f : ℕ → ℕ) → ((a b : ℕ) → op a b ≤ a + b) → ((i : ℕ) → f i ≤ m)
    → fold_to k op 0 f ≤ k * m
unfolding up_to
fold_to-le zero m op f g h = omega arith
fold_to-le (suc k) m op f g h = omega (arith, fold_to-le k m op f g h, g (fold_to k op 0 f) (f k), h k)

-- two rules, put together number by number or each by itself first
module _ {A : Type 0} {op : A → A → A} {none : A} (c : Combining op none) where
  crossed : (a b x y : A) → op (op a b) (op x y) ≡ op (op a x) (op b y)
  crossed a b x y =
      c.associative a b (op x y)
      ∙ ap (op a) (sym (c.associative b x y) ∙ ap (λ z. op z y) (c.commutative b x) ∙ c.associative x b y)
      ∙ sym (c.associative a x (op b y))

  pub fold_to-both : (k : ℕ) (f g : ℕ → A)
      → fold_to k op none (λ i. op (f i) (g i)) ≡ op (fold_to k op none f) (fold_to k op none g)
  unfolding up_to
  fold_to-both zero f g = sym (c.neutral none)
  fold_to-both (suc k) f g =
      ap (λ z. op z (op (f k) (g k))) (fold_to-both k f g)
      ∙ crossed (fold_to k op none f) (fold_to k op none g) (f k) (g k)

-- ---- all_to

pub all_to-none : (p : ℕ → Bool) → all_to 0 p ≡ true
unfolding all_to
all_to-none p = refl

pub all_to-more : (k : ℕ) (p : ℕ → Bool) → all_to k p ≡ true → p k ≡ true → all_to (k + 1) p ≡ true
unfolding all_to
all_to-more k p h e = rw (add-one k) (both_true e h)

pub all_to-at : (k : ℕ) (p : ℕ → Bool) (i : ℕ) → all_to k p ≡ true → i < k → p i ≡ true
unfolding all_to
all_to-at zero p i h l = absurd (not-suc-le-zero l)
all_to-at (suc k) p i h l =
    below_suc l (λ e. ap p e ∙ both_left (p k) (all_to k p) h) (λ m. all_to-at k p i (both_right (p k) (all_to k p) h)
    m)

pub all_to-all : (k : ℕ) (p : ℕ → Bool) → ((i : ℕ) → i < k → p i ≡ true) → all_to k p ≡ true
unfolding all_to
all_to-all zero p h = refl
all_to-all (suc k) p h = both_true (h k (omega arith)) (all_to-all k p (λ i l. h i (omega arith)))

-- one that fails below k
pub all_to-false : (k : ℕ) (p : ℕ → Bool) (i : ℕ) → i < k → p i ≡ false → all_to k p ≡ false
unfolding all_to
all_to-false zero p i l e = absurd (not-suc-le-zero l)
all_to-false (suc k) p i l e =
    below_suc l (λ q. rw (sym (ap p q) ∙ e))
    (λ m. ap (λ (t : Bool). both (p k) t) (all_to-false k p i m e) ∙ last (p k))
  where
    last : (t : Bool) → both t false ≡ false
    last true = refl
    last false = refl

pub all_to-ext : (k : ℕ) (p q : ℕ → Bool) → ((i : ℕ) → i < k → p i ≡ q i) → all_to k p ≡ all_to k q
unfolding all_to
all_to-ext zero p q h = refl
all_to-ext (suc k) p q h = ap₂ both (h k (omega arith)) (all_to-ext k p q (λ i l. h i (omega arith)))

-- ---- each

pub each_none : {A S : Type 0} (f : A → S → S) (s : S) → each f [] s ≡ s
unfolding each
each_none f s = refl

pub each-one : {A S : Type 0} (f : A → S → S) (a : A) (s : S) → each f (a ∷ []) s ≡ f a s
unfolding each
each-one f a s = refl

pub each_append : {A S : Type 0} (f : A → S → S) (k l : List A) (s : S) → each f (k ++ l) s ≡ each f l (each f k s)
unfolding each
each_append f [] l s = refl
each_append f (x ∷ k) l s = each_append f k l (f x s)
