-- Words of eight bytes and tables of words in a run of bytes.
use Rattle.std.specs.Prelude.{ℕ, ◌+◌, ◌*◌, List, length, get_or}
use Rattle.octets.specs.Bytes.{num, be, part}
use Rattle.octets.specs.Loop.{tab, join}

abbrev pub word_size : ℕ
word_size = 8

abbrev pub word : List ℕ → ℕ → ℕ
word b at = num (part b at word_size)

-- k words, from a place on
abbrev pub words : ℕ → List ℕ → ℕ → List ℕ
words k b at = tab k (λ i. word b (at + word_size * i))

abbrev pub word_bytes : List ℕ → List ℕ
word_bytes t = join (length t) (λ i. be word_size (get_or t i 0))
