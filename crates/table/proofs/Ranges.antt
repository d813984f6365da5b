-- Chains over `1..=n`: what one counts is what `count` says, and what one tests what `all` says. Assumes nothing.
use Rattle.std.proofs.Common.{ℕ, zero, suc, ◌+◌, ◌-◌, Bool, true, false, cond, ◌&&◌, List, [], ◌∷◌, ◌++◌}
use Rattle.std.proofs.Common.{◌≡◌, refl, ap, subst, ◌∙◌, length, filter, Option, Some, add-one, arith}
use Rattle.std.specs.declared.ops.RangeInclusive.{RangeInclusive}
use Rattle.std.specs.Range.{range_inclusive_start, range_inclusive_end, range_inclusive_exhausted}
use Rattle.std.specs.Range.{range_inclusive_left, range_inclusive_steps}
use Rattle.std.specs.List.{range_with_len, list_all}
use Rattle.std.proofs.lemmas.List.{length-append}
use Rattle.std.proofs.lemmas.List.FromFn.{length-range_with_len}
use Rattle.std.proofs.lemmas.List.Elements.{filter-append}
use Rattle.std.proofs.lemmas.List.Folds.{list_all-append}
use Rattle.std.proofs.lemmas.Iterator.{YieldsList}
use Rattle.std.proofs.lemmas.Iterator.Consumers.{YieldsList-from_shown}
use Rattle.octets.specs.Test.{pick, both}
use Rattle.table.specs.Loop.{all, count}

-- ---- what `1..=n` yields

abbrev gap : ℕ → ℕ → ℕ
gap x y = y - x

abbrev steps : RangeInclusive ℕ → Option ℕ → RangeInclusive ℕ → Type 0
steps = range_inclusive_steps gap (λ x y. y ≡ x + 1)

abbrev left : RangeInclusive ℕ → List ℕ
left s = range_with_len (range_inclusive_start s) (range_inclusive_left gap s)

one_less : (s : RangeInclusive ℕ) (x : ℕ) (t : RangeInclusive ℕ) → steps s (Some x) t → left s ≡ x ∷ left t
one_less s x t p = rw (← p.1.1, add-one (range_inclusive_left gap t), p.1.0) (next (range_inclusive_exhausted t) refl)
  where
    next : (b : Bool) → range_inclusive_exhausted t ≡ b
        → range_inclusive_start s ∷ range_with_len (range_inclusive_start s + 1) (range_inclusive_left gap t)
        ≡ range_inclusive_start s ∷ left t
    next true e = rw e
    next false e = rw (p.1.2 e)

pub yields-up_to : {s : RangeInclusive ℕ} (n : ℕ) → range_inclusive_start s ≡ 1 → range_inclusive_end s ≡ n
    → range_inclusive_exhausted s ≡ false → YieldsList steps (λ x. x) s (range_with_len 1 n)
yields-up_to {s} n a b f =
    let all_left : left s ≡ range_with_len 1 n = rw (f, a, b) (ap (range_with_len 1) (omega arith)) in
    subst (YieldsList steps (λ x. x) s) all_left
    (YieldsList-from_shown steps (λ x. x) left (λ t u p. length-range_with_len _ _ ∙ p.1.0) one_less s)

-- ---- what is counted and tested there

range_more : (a n : ℕ) → range_with_len a (suc n) ≡ range_with_len a n ++ ((a + n) ∷ [])
range_more a zero = let e : a + 0 ≡ a = omega arith in rw e
range_more a (suc n) = ap (λ (l : List ℕ). a ∷ l)
    (range_more (a + 1) n ∙ let e : a + 1 + n ≡ a + suc n = omega arith in rw e)

up_to_more : (n : ℕ) → range_with_len 1 (suc n) ≡ range_with_len 1 n ++ (suc n ∷ [])
up_to_more n = range_more 1 n ∙ let e : 1 + n ≡ suc n = omega arith in rw e

pub filtered : (n : ℕ) (p : ℕ → Bool) → length (filter p (range_with_len 1 n)) ≡ count n p
unfolding count
filtered zero p = refl
filtered (suc n) p =
    ap (λ l. length (filter p l)) (up_to_more n)
    ∙ rw (filter-append p (range_with_len 1 n), length-append, filtered n p) (next (p (suc n)))
  where
    next : (b : Bool) → count n p + length (cond b (suc n ∷ []) []) ≡ pick b (count n p + 1) (count n p)
    next true = refl
    next false = omega arith

pub tested : (n : ℕ) (p : ℕ → Bool) → list_all p (range_with_len 1 n) ≡ all n p
unfolding all
tested zero p = refl
tested (suc n) p =
    ap (list_all p) (up_to_more n)
    ∙ rw (list_all-append p (range_with_len 1 n), tested n p) (next (all n p) (p (suc n)))
  where
    next : (a b : Bool) → (a && (b && true)) ≡ both b a
    next true true = refl
    next true false = refl
    next false true = refl
    next false false = refl
