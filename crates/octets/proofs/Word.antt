-- Words and tables of words in bytes: the length of a table's bytes, and words read in a part.
use Prim.Native.Nat.{ℕ, ◌+◌, ◌*◌, ◌≤◌}
use mathlib.Core.Path.{◌≡◌, refl, ap, ◌∙◌}
use mathlib.Core.List.{List}
use native.Mathlib.Omega.{arith}
use lib.ListN.{length, get_or}
use Rattle.octets.specs.Bytes.{num, be, part}
use Rattle.octets.specs.Word.{word, words, word_bytes}
use Rattle.octets.proofs.Put.{part-part}
use Rattle.octets.proofs.Table.{tab-ext, length-join}

pub length-word_bytes : (t : List ℕ) → length (word_bytes t) ≡ 8 * length t
length-word_bytes t = length-join (length t) 8 (λ i. be 8 (get_or t i 0)) (λ i. refl)

-- a word, and a table, are functions of the part that they lie in
pub word_of : (b : List ℕ) (at len i : ℕ) → i + 8 ≤ len → word (part b at len) i ≡ word b (at + i)
word_of b at len i h = ap num (part-part b at len i 8 h)

pub words_of : (k : ℕ) (b : List ℕ) (at len i : ℕ) → i + 8 * k ≤ len → words k (part b at len) i ≡ words k b (at + i)
words_of k b at len i h =
    tab-ext k (λ j. word (part b at len) (i + 8 * j)) (λ j. word b (at + i + 8 * j))
    (λ j l. let e : at + (i + 8 * j) ≡ at + i + 8 * j = omega arith in
    word_of b at len (i + 8 * j) (omega arith) ∙ ap (λ (m : ℕ). word b m) e)
