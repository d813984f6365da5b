-- What loops compute: a value changed for each number below k, a rule's values put together, a test of all of them, the
-- list of them, the runs of a rule one after the other, and a value changed for each element of a list.
use Rattle.std.specs.Prelude.{ℕ, zero, suc, ◌≡◌, Bool, true, List, [], ◌∷◌, ◌++◌}
use Rattle.octets.specs.Test.{both}

unfoldable pub up_to : {A : Type 0} → ℕ → (ℕ → A → A) → A → A
up_to zero f a = a
up_to (suc k) f a = f k (up_to k f a)

-- f 0, f 1, .. f (k - 1) put together by `op`; where k is 0, `none`
abbrev pub fold_to : {A : Type 0} → ℕ → (op : A → A → A) (none : A) → (ℕ → A) → A
fold_to k op none f = up_to k (λ i a. op a (f i)) none

-- The laws by which neither the order nor the groups matter in which values are put together.
pub record Combining {A : Type 0} (op : A → A → A) (none : A) : Type 0 where
  pub commutative : (a b : A) → op a b ≡ op b a
  pub associative : (a b c : A) → op (op a b) c ≡ op a (op b c)
  pub neutral : (a : A) → op a none ≡ a

unfoldable pub all_to : ℕ → (ℕ → Bool) → Bool
all_to zero p = true
all_to (suc k) p = both (p k) (all_to k p)

-- f 0, f 1, .. f (k - 1)
unfoldable pub tab : {A : Type 0} → ℕ → (ℕ → A) → List A
tab zero f = []
tab (suc k) f = tab k f ++ (f k ∷ [])

-- the runs f 0, f 1, .. f (k - 1), one after the other
unfoldable pub join : {A : Type 0} → ℕ → (ℕ → List A) → List A
join zero f = []
join (suc k) f = join k f ++ f k

unfoldable pub each : {A S : Type 0} → (A → S → S) → List A → S → S
each f [] s = s
each f (x ∷ l) s = each f l (f x s)
