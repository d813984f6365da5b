-- Quorums: the numbers that the code counts are the sizes of the algorithm's sets of nodes.
use Prim.Native.Nat.{ℕ, zero, suc, ◌+◌, ◌-◌, ◌≤◌}
use native.Mathlib.Omega.{arith}
use mathlib.Core.Path.{◌≡◌, refl, sym, ◌∙◌}
use mathlib.Core.Bool.{Bool, true, false, false≢true}
use Rattle.logs.specs.Count as C
use Rattle.logs.specs.Update.{upd}
use Rattle.logs.proofs.Update.{upd-all}
use Rattle.octets.specs.Test.{pick}
use Rattle.table.specs.Loop.{count}
use Rattle.table.specs.Quorum.{member, with, members_in, is_quorum}
use Rattle.table.proofs.Sets.{member-none, member-same, member-other}
use Rattle.history.specs.Order.{OneTo}
use Rattle.algorithm.specs.Algorithm.{Nodes, nobody}
use Rattle.refine.specs.Follows.{SameNodes}
use Rattle.refine.proofs.Choice.{Tells, le-tells}

pub same_count : (n : ℕ) (p q : ℕ → Bool) → ((k : ℕ) → OneTo n k → q k ≡ p k) → count n p ≡ C.count q n
unfolding count C.count
same_count zero p q h = refl
same_count (suc n) p q h = step (p (suc n)) (q (suc n)) (h (suc n) (omega arith, omega arith))
    (same_count n p q (λ k (lo, hi). h k (lo, omega arith)))
  where
    step : (a b : Bool) → b ≡ a → count n p ≡ C.count q n → pick a (count n p + 1) (count n p) ≡ C.bit b + C.count q n
    step true true e h = omega arith
    step true false e h = absurd (false≢true e)
    step false true e h = absurd (false≢true (sym e))
    step false false e h = omega arith

-- A quorum of the nodes counted.
pub quorum-tells : (n f m : ℕ) (s : Nodes) → m ≡ C.count s n → Tells (is_quorum n f m) (n - f ≤ C.count s n)
quorum-tells n f m s e = rw e (le-tells (n - f) (C.count s n))

pub members_in-tells : (n f a : ℕ) (s : Nodes) → SameNodes n s a
    → Tells (is_quorum n f (members_in n a)) (n - f ≤ C.count s n)
unfolding members_in
members_in-tells n f a s same = quorum-tells n f (count n (member a)) s (same_count n (member a) s same)

-- Nobody has answered yet; one more has.
pub same-nobody : (n : ℕ) → SameNodes n nobody 0
same-nobody n k h = sym (member-none k)

pub same-with : (n a k : ℕ) (s : Nodes) → OneTo n k → SameNodes n s a → SameNodes n (upd s k true) (with a k)
same-with n a k s (lo, hi) same j = upd-all (λ j b. OneTo n j → b ≡ member (with a k) j) s k true
    (λ j ne h. same j h ∙ sym (member-other a k j lo h.0 ne)) (λ h. sym (member-same a k)) j

-- One who has answered is counted already.
pub same-again : (n a k : ℕ) (s : Nodes) → member a k ≡ true → SameNodes n s a → SameNodes n (upd s k true) a
same-again n a k s e same = upd-all (λ j b. OneTo n j → b ≡ member a j) s k true (λ j ne h. same j h) (λ h. sym e)
