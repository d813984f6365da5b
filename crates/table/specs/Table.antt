-- The tables of one node: views, one entry for each writer, and the square table of the tags heard.
-- Nodes are numbered from 1; the entry of writer w stands at place w - 1, the cell of sender s and writer w
-- at (s - 1) * nodes + (w - 1), whatever n is.
-- Assumes nothing.
use Rattle.std.specs.Prelude.{Bool, List, ℕ, ◌+◌, ◌-◌, ◌*◌, leb, get_or, set}
use Rattle.view.specs.declared.Report.{Report}
use Rattle.view.specs.declared.View.{View}
use Rattle.octets.specs.Test.{pick, both}
use Rattle.view.specs.Size.{limit, nodes}
use Rattle.view.specs.Report.{no_report, is_none}
use Rattle.table.specs.Loop.{either, all, numbered}

-- writer w's entry in a list of tags, and in a view
abbrev pub at : List ℕ → ℕ → ℕ
at l w = get_or l (w - 1) 0

abbrev pub tag_of : View → ℕ → ℕ
tag_of v w = at v.tags w

abbrev pub report_of : View → ℕ → Report
report_of v w = get_or v.reports (w - 1) no_report

-- the view with another entry for writer w
abbrev pub put_entry : View → ℕ → ℕ → Report → View
put_entry v w t p = record { tags = set v.tags (w - 1) t; reports = set v.reports (w - 1) p }

-- For each writer the newest report not above t, where `last` is its last one and `held` is the newest not above
-- a tag below t: the last one if that is not above t, and else the one held.
abbrev pub newest_tag : ℕ → View → View → ℕ → ℕ
newest_tag t last held w = pick (leb (tag_of last w) t) (tag_of last w) (tag_of held w)

abbrev pub newest_report : ℕ → View → View → ℕ → Report
newest_report t last held w = pick (leb (tag_of last w) t) (report_of last w) (report_of held w)

unfoldable pub newest : ℕ → View → View → View
newest t last held =
    record { tags = numbered nodes (newest_tag t last held); reports = numbered nodes (newest_report t last held) }

-- a tag that is not above t, with no report beside tag 0
abbrev pub entry_ok : ℕ → ℕ → Report → Bool
entry_ok t x p = both (leb x t) (either (leb 1 x) (is_none p))

abbrev pub entry_within : ℕ → View → ℕ → Bool
entry_within t v w = entry_ok t (tag_of v w) (report_of v w)

-- every entry of the view is such
unfoldable pub view_within : ℕ → View → Bool
view_within t v = all nodes (entry_within t v)

-- how many cells the square table has, the cell of sender s and writer w, and the last tag heard there
abbrev pub cells : ℕ
cells = nodes * nodes

abbrev pub cell : ℕ → ℕ → ℕ
cell s w = (s - 1) * nodes + (w - 1)

abbrev pub heard_of : List ℕ → ℕ → ℕ → ℕ
heard_of h s w = get_or h (cell s w) 0

-- no tag of the table is above the limit
unfoldable pub heard_within : List ℕ → Bool
heard_within h = all cells (λ k. leb (at h k) limit)
