-- What is claimed of how counts are put together, and of the figures of every view.
use Rattle.std.specs.Prelude.{ℕ, ◌+◌, ◌<◌, ◌≤◌, max, ◌≡◌, Bool, ◌⊎◌, List}
use Rattle.octets.specs.Answer.{returned}
use Rattle.octets.specs.Test.{pick}
use Rattle.octets.specs.Loop.{fold_to, Combining}
use Rattle.view.specs.View.{tag_at, report_at}
use Rattle.figures.specs.Figures.{no_totals, figures_of}
use Rattle.figures.specs.declared.Totals.{Totals}

-- Both ways to put counts together have the laws by which order and groups do not matter.
pub record Ways : Type 0 where
  pub sum : Combining ◌+◌ 0
  pub largest : Combining max 0

-- So for each of them: the counts of two groups of nodes, put together, are those of all. Node i + 1 is of the first
-- group where `first i` says so.
abbrev pub Groups : Type 0
Groups = (op : ℕ → ℕ → ℕ) → Combining op 0 → (n : ℕ) (count : ℕ → ℕ) (first : ℕ → Bool)
    → op (fold_to n op 0 (λ i. pick (first i) (count i) 0)) (fold_to n op 0 (λ i. pick (first i) 0 (count i)))
    ≡ fold_to n op 0 count

-- m calls waiting: no node has reported more, and some node just as many; where nobody has reported it is 0.
pub record Largest (n : ℕ) (v : List ℕ) (m : ℕ) : Type 0 where
  pub most : (i : ℕ) → i < n → (tag_at v i ≡ 0 → ⊥) → (report_at v i).waiting ≤ m
  pub some : ((i : ℕ) × (i < n) × (tag_at v i ≡ 0 → ⊥) × ((report_at v i).waiting ≡ m))
      ⊎ (((i : ℕ) → i < n → tag_at v i ≡ 0) × (m ≡ 0))

abbrev pub OneQueue : Type 0
OneQueue = (n : ℕ) (v : List ℕ) (t : Totals) → figures_of n v ≡ returned t → Largest n v t.waiting

-- All figures are 0 where nobody has reported.
abbrev pub Nobody : Type 0
Nobody = (n : ℕ) (v : List ℕ) (t : Totals) → figures_of n v ≡ returned t → ((i : ℕ) → i < n → tag_at v i ≡ 0)
    → t ≡ no_totals
