-- What a test that held tells, and lists that are the same.
use Prim.Native.Nat.{ℕ}
use mathlib.Core.Path.{◌≡◌, refl, sym, ◌∙◌, subst}
use mathlib.Core.Bool.{Bool, true, false}
use mathlib.Core.List.{List, [], ◌∷◌}
use borrow.Author.Tests.{eqb-true, eq-eqb}
use lib.Dec.{eqb, T}
use Rattle.octets.specs.Test.{pick, both}
use Rattle.octets.specs.Bytes.{same}

pub both_left : (a b : Bool) → both a b ≡ true → a ≡ true
both_left true b e = refl
both_left false b e = e

pub both_right : (a b : Bool) → both a b ≡ true → b ≡ true
both_right true b e = e
both_right false b e = absurd (subst T (sym e) tt)

pub both_true : {a b : Bool} → a ≡ true → b ≡ true → both a b ≡ true
both_true p q = rw (p, q)

-- no test is true and false
pub true-false : {X : Type 0} (a : Bool) → a ≡ true → a ≡ false → X
true-false a p q = absurd (subst T (sym p ∙ q) tt)

-- a test that is not true is false
pub not-true-false : (a : Bool) → (a ≡ true → ⊥) → a ≡ false
not-true-false true h = absurd (h refl)
not-true-false false h = refl

pub pick_same : {A : Type 0} (t : Bool) (a : A) → pick t a a ≡ a
pick_same true a = refl
pick_same false a = refl

pub same_true : (s t : List ℕ) → same s t ≡ true → s ≡ t
same_true [] [] e = refl
same_true [] (y ∷ t) e = absurd (subst T (sym e) tt)
same_true (x ∷ s) [] e = absurd (subst T (sym e) tt)
same_true (x ∷ s) (y ∷ t) e =
    rw (eqb-true x y (both_left (eqb x y) (same s t) e), same_true s t (both_right (eqb x y) (same s t) e))

pub same_refl : (s : List ℕ) → same s s ≡ true
same_refl [] = refl
same_refl (x ∷ s) = both_true (eq-eqb x x refl) (same_refl s)
