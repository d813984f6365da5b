-- An input as lines: those that ended with a line feed, without it, and what comes after the last line feed.
use Rattle.std.specs.Prelude.{ℕ, List, [], ◌∷◌, ◌++◌, eqb}
use Rattle.octets.specs.Test.{pick}

abbrev pub feed : ℕ
feed = 10

-- of the bytes s, where l is the line so far
unfoldable pub lines_from : List ℕ → List ℕ → List (List ℕ)
lines_from l [] = []
lines_from l (x ∷ s) = pick (eqb x feed) (l ∷ lines_from [] s) (lines_from (l ++ (x ∷ [])) s)

unfoldable pub rest_from : List ℕ → List ℕ → List ℕ
rest_from l [] = l
rest_from l (x ∷ s) = pick (eqb x feed) (rest_from [] s) (rest_from (l ++ (x ∷ [])) s)

abbrev pub lines_of : List ℕ → List (List ℕ)
lines_of s = lines_from [] s

abbrev pub rest_of : List ℕ → List ℕ
rest_of s = rest_from [] s

-- lines, each with its line feed
abbrev pub joined : List (List ℕ) → List ℕ
joined [] = []
joined (l ∷ k) = l ++ (feed ∷ []) ++ joined k
