-- Loops over the numbers 1 to n, as nodes are numbered: all of them, how many, and the table of a rule.
-- Assumes nothing.
use Rattle.std.specs.Prelude.{Bool, true, false, List, [], ◌∷◌, ◌++◌, ℕ, zero, suc, ◌+◌}
use Rattle.octets.specs.Test.{pick, both}

abbrev pub either : Bool → Bool → Bool
either true b = true
either false b = b

-- p holds of each of 1 to n
unfoldable pub all : ℕ → (ℕ → Bool) → Bool
all zero p = true
all (suc k) p = both (p (suc k)) (all k p)

-- how many of 1 to n have p
unfoldable pub count : ℕ → (ℕ → Bool) → ℕ
count zero p = 0
count (suc k) p = pick (p (suc k)) (count k p + 1) (count k p)

-- the list of f 1 to f n
unfoldable pub numbered {ℓ} : {X : Type ℓ} → ℕ → (ℕ → X) → List X
numbered zero f = []
numbered (suc k) f = numbered k f ++ (f (suc k) ∷ [])
