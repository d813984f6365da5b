-- Numbers in base ten as text: ASCII digits, the high one first.
use Rattle.std.specs.Prelude.{ℕ, zero, suc, ◌+◌, ◌-◌, ◌*◌, ◌/◌, ◌%◌, Bool, List, [], ◌∷◌, ◌++◌, length, get_or, leb}
use Rattle.std.specs.Prelude.{eqb}
use Rattle.octets.specs.Test.{pick, both}
use Rattle.std.specs.List.{list_all}
use Rattle.octets.specs.Loop.{up_to}

-- 0 to 9
abbrev pub is_digit : ℕ → Bool
is_digit x = both (leb 48 x) (leb x 57)

unfoldable pub all_digits : List ℕ → Bool
all_digits s = list_all is_digit s

-- the number that digits say
abbrev pub value_with : List ℕ → ℕ → ℕ → ℕ
value_with s i v = 10 * v + (get_or s i 0 - 48)

unfoldable pub value : List ℕ → ℕ
value s = up_to (length s) (value_with s) 0

-- the fewest digits that say a number, at least one and at most k
unfoldable pub fewest : ℕ → ℕ → List ℕ
fewest zero x = []
fewest (suc k) x = pick (eqb (x / 10) 0) [] (fewest k (x / 10)) ++ ((48 + x % 10) ∷ [])

-- of a number below 10 ^ 20, as every number of 64 bits is
abbrev pub decimal : ℕ → List ℕ
decimal x = fewest 20 x
