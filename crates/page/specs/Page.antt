-- The desk's page of document 02: a view as text. Each line is 34 columns and a line feed: the node right in 2, then
-- each of the four counts right in 7 after one space, or `-` right in each 7 where there is no report. The last line
-- has `==` and the house figures. Of two nodes, the second without a report:
--
--     1       1       2       3       4
--     2       -       -       -       -
--    ==       1       2       3       4
use Rattle.std.specs.Prelude.{ℕ, ◌+◌, ◌-◌, ◌*◌, ◌%◌, List, [], ◌∷◌, ◌++◌, length, get_or, replicate, leb, eqb}
use Rattle.std.proofs.Math.Option.{Option, none, some}
use Rattle.octets.specs.Answer.{Answer, returned, refused}
use Rattle.octets.specs.Bytes.{put}
use Rattle.octets.specs.Loop.{tab, join}
use Rattle.octets.specs.Test.{pick}
use Rattle.view.specs.View.{tag_at, report_at}
use Rattle.view.specs.declared.Report.{Report}
use Rattle.digits.specs.Decimal.{decimal}
use Rattle.figures.specs.Figures.{figures_of}
use Rattle.figures.specs.declared.Totals.{Totals}

-- ---- lines and columns

-- the columns of a node's number and of a count, and how many counts there are; a count with the space before it; a
-- line; a page of n nodes
abbrev pub label_width : ℕ
label_width = 2

abbrev pub count_width : ℕ
count_width = 7

abbrev pub line_counts : ℕ
line_counts = 4

abbrev pub cell_size : ℕ
cell_size = 1 + count_width

abbrev pub line_size : ℕ
line_size = label_width + line_counts * cell_size + 1

abbrev pub page_size : ℕ → ℕ
page_size n = line_size * (n + 1)

abbrev pub space : ℕ
space = 32

abbrev pub dash : List ℕ
dash = 45 ∷ []

abbrev pub equals : List ℕ
equals = 61 ∷ 61 ∷ []

abbrev pub feed : List ℕ
feed = 10 ∷ []

-- a text right in k columns
unfoldable pub right : ℕ → List ℕ → List ℕ
right k s = replicate (k - length s) space ++ s

-- a count's text after one space
abbrev pub cell_text : List ℕ → List ℕ
cell_text s = space ∷ right count_width s

unfoldable pub page_line : (label a b c d : List ℕ) → List ℕ
page_line label a b c d = right label_width label ++ cell_text a ++ cell_text b ++ cell_text c ++ cell_text d ++ feed

abbrev pub counts_line : (label : List ℕ) (a b c d : ℕ) → List ℕ
counts_line label a b c d = page_line label (decimal a) (decimal b) (decimal c) (decimal d)

-- ---- what a page tells

-- what a view shows of node i + 1: its report, or none beside tag 0
abbrev pub shown_at : List ℕ → ℕ → Option Report
shown_at v i = pick (eqb (tag_at v i) 0) none (some (report_at v i))

pub record Contents : Type 0 where
  pub shown : List (Option Report)
  pub figures : Totals

abbrev pub map_result : {A B : Type 0} → (A → B) → Answer A → Answer B
map_result f (returned a) = returned (f a)
map_result f (refused k) = refused k

abbrev pub contents : ℕ → List ℕ → Totals → Contents
contents n v t = record { shown = tab n (shown_at v); figures = t }

-- of a view of n nodes, or the figures' refusal: 12, 1, 7
unfoldable pub contents_of : ℕ → List ℕ → Answer Contents
contents_of n v = map_result (contents n v) (figures_of n v)

-- ---- the page

abbrev pub node_line : (node : ℕ) → Option Report → List ℕ
node_line k none = page_line (decimal k) dash dash dash dash
node_line k (some p) = counts_line (decimal k) p.extensions p.lines p.waiting p.wakeups

abbrev pub figures_line : Totals → List ℕ
figures_line t = counts_line equals t.extensions t.lines t.waiting t.wakeups

unfoldable pub page_text : Contents → List ℕ
page_text c =
    join (length c.shown) (λ i. node_line (i + 1) (get_or c.shown i none)) ++ figures_line c.figures

unfoldable pub page_of : ℕ → List ℕ → Answer (List ℕ)
page_of n v = map_result page_text (contents_of n v)

-- ---- the call

-- 15: the buffer is shorter than the page, judged last
abbrev pub in_room : (room : ℕ) → Answer (List ℕ) → Answer (List ℕ)
in_room room (returned p) = pick (leb (length p) room) (returned p) (refused 15)
in_room room (refused k) = refused k

unfoldable pub page_in : ℕ → List ℕ → (room : ℕ) → Answer (List ℕ)
page_in n v room = in_room room (page_of n v)

-- the page's length, and the buffer afterwards: the page at its front, or all as it was
abbrev pub page_length : Answer (List ℕ) → Answer ℕ
page_length a = map_result length a

abbrev pub page_left : Answer (List ℕ) → List ℕ → List ℕ
page_left (returned p) out = put out 0 p
page_left (refused k) out = out

-- ---- cited by inner contracts only

-- the lines of n nodes
abbrev pub node_lines : ℕ → List ℕ → List ℕ
node_lines n v = join n (λ i. node_line (i + 1) (shown_at v i))

-- the counts of a line
abbrev pub cells : List ℕ → List ℕ
cells counts = join line_counts (λ j. cell_text (decimal (get_or counts j 0)))

-- a column that has digits after it: y is the number in the columns up to this one
abbrev pub column_of : ℕ → ℕ
column_of y = pick (eqb y 0) space (48 + y % 10)
