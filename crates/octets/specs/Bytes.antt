-- Bytes as lists of numbers: big-endian numbers, and runs of bytes in a longer list.
use Rattle.std.specs.Prelude.{ℕ, zero, suc, ◌+◌, ◌*◌, ◌/◌, ◌%◌, ◌^◌, ◌<◌, List, [], ◌∷◌, ◌++◌, Bool, true, false}
use Rattle.std.specs.Prelude.{length, take, drop, get_or, eqb}
use Rattle.octets.specs.Test.{both}

-- each element is a byte
abbrev pub Bytes : List ℕ → Type 0
Bytes b = (i : ℕ) → get_or b i 0 < 256

-- the number that bytes are, the high byte first
abbrev pub num : List ℕ → ℕ
num [] = 0
num (x ∷ s) = x * 2 ^ (8 * length s) + num s

-- the k bytes of a number, the high byte first
abbrev pub be : ℕ → ℕ → List ℕ
be zero x = []
be (suc k) x = x / 2 ^ (8 * k) ∷ be k (x % 2 ^ (8 * k))

-- the bytes of b from a place on, so many
unfoldable pub part : List ℕ → ℕ → ℕ → List ℕ
part b at len = take len (drop at b)

-- b with v written over it from a place on
unfoldable pub put : List ℕ → ℕ → List ℕ → List ℕ
put b at v = take at b ++ v ++ drop (at + length v) b

-- whether two runs are the same
abbrev pub same : List ℕ → List ℕ → Bool
same [] [] = true
same [] (y ∷ t) = false
same (x ∷ s) [] = false
same (x ∷ s) (y ∷ t) = both (eqb x y) (same s t)
