-- A page read back: what its columns say, on any bytes, and whether they are a page at all.
use Rattle.std.specs.Prelude.{ℕ, ◌+◌, ◌-◌, ◌*◌, ◌/◌, Bool, false, List, map, length, get_or, ltb}
use Rattle.std.proofs.Math.Option.{Option, none, some}
use Rattle.octets.specs.Answer.{Answer, returned, refused}
use Rattle.octets.specs.Bytes.{part, same}
use Rattle.octets.specs.Loop.{all_to, tab}
use Rattle.octets.specs.Test.{pick, both}
use Rattle.view.specs.Report.{no_report}
use Rattle.view.specs.View.{view_bytes}
use Rattle.view.specs.declared.Report.{Report}
use Rattle.digits.specs.Decimal.{value}
use Rattle.figures.specs.declared.Totals.{Totals}
use Rattle.page.specs.Page.{label_width, count_width, cell_size, line_size, dash, right, Contents, page_of}

-- ---- lines and columns

abbrev pub line_at : List ℕ → ℕ → List ℕ
line_at b i = part b (line_size * i) line_size

-- the columns of count j of a line, the number in them, where a space counts as no digit, and whether it is `-`
abbrev pub columns : List ℕ → ℕ → List ℕ
columns l j = part l (label_width + cell_size * j + 1) count_width

abbrev pub count_in : List ℕ → ℕ → ℕ
count_in l j = value (columns l j)

abbrev pub is_dash : List ℕ → Bool
is_dash l = same (columns l 0) (right count_width dash)

-- ---- what is told

unfoldable pub shown_in : List ℕ → Option Report
shown_in l =
    pick (is_dash l) none
    (some
    (record {
      extensions = count_in l 0;
      lines = count_in l 1;
      waiting = count_in l 2;
      wakeups = count_in l 3;
    }))

unfoldable pub figures_in : List ℕ → Totals
figures_in l =
    record {
      extensions = count_in l 0;
      lines = count_in l 1;
      waiting = count_in l 2;
      wakeups = count_in l 3;
    }

abbrev pub nodes_on : List ℕ → ℕ
nodes_on b = length b / line_size - 1

unfoldable pub contents_in : List ℕ → Contents
contents_in b =
    record {
      shown = tab (nodes_on b) (λ i. shown_in (line_at b i));
      figures = figures_in (line_at b (nodes_on b));
    }

-- ---- whether it is a page

-- a view that shows these reports, each with tag 1
abbrev pub tag_for : Option Report → ℕ
tag_for none = 0
tag_for (some p) = 1

abbrev pub report_for : Option Report → Report
report_for none = no_report
report_for (some p) = p

abbrev pub view_for : List (Option Report) → List ℕ
view_for l = view_bytes (length l) (record { tags = map tag_for l; reports = map report_for l })

abbrev pub all_bytes : List ℕ → Bool
all_bytes v = all_to (length v) (λ i. ltb (get_or v i 0) 256)

abbrev pub answers : Answer (List ℕ) → List ℕ → Bool
answers (returned p) b = same p b
answers (refused k) b = false

-- b is the page of a view that shows these reports
unfoldable pub is_page_of : List ℕ → List (Option Report) → Bool
is_page_of b l = both (all_bytes (view_for l)) (answers (page_of (length l) (view_for l)) b)

-- What a page tells; other bytes are not of the layout. The figures that are read are those of that view, whose page
-- has them in the same columns.
unfoldable pub read : List ℕ → Answer Contents
read b = pick (is_page_of b (contents_in b).shown) (returned (contents_in b)) (refused 7)
