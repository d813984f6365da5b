-- Cited by inner contracts only: the table of tags heard, judged in groups of cells, and what a record states.
use Rattle.std.specs.Prelude.{ℕ, ◌+◌, Bool, List, leb, eqb}
use Rattle.octets.specs.Test.{both}
use Rattle.octets.specs.Word.{word, words}
use Rattle.view.specs.Size.{limit}
use Rattle.table.specs.Table.{at, cells}
use Rattle.region.specs.Record.{heard_place, n_place, f_place, own_place}

abbrev pub group : ℕ
group = 8

-- cell k of the record r, counted from 0, keeps the limit
abbrev pub cell_within : List ℕ → ℕ → Bool
cell_within r k = leb (at (words cells r heard_place) (k + 1)) limit

-- the record states this n, this f and the number c
abbrev pub stated : (n f c : ℕ) → List ℕ → Bool
stated n f c r = both (both (eqb (word r n_place) n) (eqb (word r f_place) f)) (eqb (word r own_place) c)
