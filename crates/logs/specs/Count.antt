-- Quorums: a set of nodes is a test on numbers, and its size is how many of 1 to n pass.
use Rattle.std.specs.Prelude.{ℕ, zero, suc, ◌+◌, ◌≤◌, ◌≡◌, Bool, true, false}

abbrev pub bit : Bool → ℕ
bit true = 1
bit false = 0

-- How many of 1 to n pass the test.
unfoldable pub count : (ℕ → Bool) → ℕ → ℕ
count p zero = 0
count p (suc n) = bit (p (suc n)) + count p n

-- A node from 1 to n that is in both sets.
abbrev pub Common : (p q : ℕ → Bool) (n : ℕ) → Type 0
Common p q n = (k : ℕ) × (1 ≤ k) × (k ≤ n) × (p k ≡ true) × (q k ≡ true)
