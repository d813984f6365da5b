-- What is claimed of the page, each claim under a name; proofs/Claims proves them. `Bytes v` says that each element of
-- v is below 256, as in every lent slice.
use Rattle.std.specs.Prelude.{ℕ, ◌+◌, ◌*◌, ◌<◌, ◌≤◌, ◌≡◌, true, List, [], ◌∷◌, ◌++◌, length, drop}
use Rattle.octets.specs.Answer.{returned, refused}
use Rattle.octets.specs.Bytes.{Bytes, part}
use Rattle.view.specs.Size.{limit, view_size}
use Rattle.view.specs.View.{view_ok}
use Rattle.digits.specs.Decimal.{decimal}
use Rattle.figures.specs.Figures.{figure_most, figures_of}
use Rattle.figures.specs.declared.Totals.{Totals}
use Rattle.page.specs.Page.{count_width, line_size, page_size, shown_at, Contents, contents_of, node_line, figures_line}
use Rattle.page.specs.Page.{page_of, page_in, page_left}
use Rattle.page.specs.Read.{read}

-- A page of n nodes has 35 × (n + 1) bytes.
abbrev pub PageSized : Type 0
PageSized = (n : ℕ) (v p : List ℕ) → Bytes v → page_of n v ≡ returned p → length p ≡ 35 * (n + 1)

-- Line i is that of node i + 1, and the one after those of the nodes is that of the figures.
abbrev pub Lined : Type 0
Lined = (n : ℕ) (v p : List ℕ) (t : Totals) → Bytes v → figures_of n v ≡ returned t → page_of n v ≡ returned p
    → ((i : ℕ) → i < n → part p (line_size * i) line_size ≡ node_line (i + 1) (shown_at v i))
    × (part p (line_size * n) line_size ≡ figures_line t)

-- Every figure is at most the greatest, 1,048,560, which has seven digits, so none has more.
pub record Fits : Type 0 where
  pub extensions : (n : ℕ) (v : List ℕ) (t : Totals) → Bytes v → figures_of n v ≡ returned t
      → (t.extensions ≤ figure_most) × (length (decimal t.extensions) ≤ count_width)
  pub lines : (n : ℕ) (v : List ℕ) (t : Totals) → Bytes v → figures_of n v ≡ returned t
      → (t.lines ≤ figure_most) × (length (decimal t.lines) ≤ count_width)
  pub waiting : (n : ℕ) (v : List ℕ) (t : Totals) → Bytes v → figures_of n v ≡ returned t
      → (t.waiting ≤ figure_most) × (length (decimal t.waiting) ≤ count_width)
  pub wakeups : (n : ℕ) (v : List ℕ) (t : Totals) → Bytes v → figures_of n v ≡ returned t
      → (t.wakeups ≤ figure_most) × (length (decimal t.wakeups) ≤ count_width)
  pub greatest : (figure_most ≡ 1048560) × (length (decimal figure_most) ≡ count_width)

-- The bytes alone tell it: views with one page are of as many nodes, show node by node the same report or both none,
-- and have the same figures.
abbrev pub Tells : Type 0
Tells = (n m : ℕ) (v w p : List ℕ) → Bytes v → Bytes w → page_of n v ≡ returned p → page_of m w ≡ returned p
    → (n ≡ m) × ((i : ℕ) → i < n → shown_at v i ≡ shown_at w i) × (figures_of n v ≡ figures_of m w)

-- It tells no more: views that show the same have one page.
abbrev pub TellsOnly : Type 0
TellsOnly = (n : ℕ) (v w : List ℕ) (t : Totals) → figures_of n v ≡ returned t → length w ≡ view_size n
    → view_ok n limit w ≡ true → ((i : ℕ) → i < n → shown_at v i ≡ shown_at w i) → page_of n w ≡ page_of n v

-- Two views that differ in a tag alone.
abbrev pub tagged : ℕ → List ℕ
tagged t = 0 ∷ 0 ∷ 0 ∷ 0 ∷ 0 ∷ 0 ∷ 0 ∷ t ∷ 0 ∷ 1 ∷ 0 ∷ 2 ∷ 0 ∷ 3 ∷ 0 ∷ 4 ∷ []

abbrev pub TagsUntold : Type 0
TagsUntold = (page_of 1 (tagged 1) ≡ page_of 1 (tagged 2)) × ((p : List ℕ) × (page_of 1 (tagged 1) ≡ returned p))
    × (tagged 1 ≡ tagged 2 → ⊥)

-- A page is read back as what it tells, and what is read is a page of just that.
abbrev pub ReadBack : Type 0
ReadBack = (n : ℕ) (v p : List ℕ) → Bytes v → page_of n v ≡ returned p → read p ≡ contents_of n v

abbrev pub PageBack : Type 0
PageBack = (b : List ℕ) (c : Contents) → read b ≡ returned c
    → (v : List ℕ) × Bytes v × (contents_of (length c.shown) v ≡ returned c)
    × (page_of (length c.shown) v ≡ returned b)

-- The refusals: those of the figures whatever room there is, then 15; else the page.
pub record Refuses : Type 0 where
  pub figures-first : (n : ℕ) (v : List ℕ) (room k : ℕ) → figures_of n v ≡ refused k → page_in n v room ≡ refused k
  pub short-last : (n : ℕ) (v : List ℕ) (room : ℕ) (t : Totals) → Bytes v → figures_of n v ≡ returned t
      → room < page_size n → page_in n v room ≡ refused 15
  pub long-enough : (n : ℕ) (v : List ℕ) (room : ℕ) (t : Totals) → Bytes v → figures_of n v ≡ returned t
      → page_size n ≤ room → (p : List ℕ) × (page_in n v room ≡ returned p) × (page_of n v ≡ returned p)

-- The buffer afterwards: the page, and past it every byte as it was; after a refusal all of it.
pub record Leaves : Type 0 where
  pub front : (n : ℕ) (v out p : List ℕ) → Bytes v → page_in n v (length out) ≡ returned p
      → page_left (page_in n v (length out)) out ≡ p ++ drop (page_size n) out
  pub kept : (n : ℕ) (v out : List ℕ) (k : ℕ) → page_in n v (length out) ≡ refused k
      → page_left (page_in n v (length out)) out ≡ out
