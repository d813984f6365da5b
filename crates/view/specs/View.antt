-- A view and its bytes: for each of n nodes a tag and a report. Node i + 1 has entry i.
-- Where no report is known the tag is 0 and the report is none. Past n a view is absent.
use Rattle.std.specs.Prelude.{ℕ, ◌+◌, ◌-◌, ◌*◌, ◌≤◌, Bool, true, List, ◌++◌, length, get_or, replicate, ◌≡◌, leb, eqb}
use Rattle.octets.specs.Test.{pick, both}
use Rattle.octets.specs.Bytes.{num, be, part}
use Rattle.octets.specs.Loop.{all_to, tab, join}
use Rattle.octets.specs.Word.{word}
use Rattle.view.specs.Size.{nodes, tag_size, report_size, entry_size}
use Rattle.view.specs.Report.{no_report, report_bytes, report_of}
use Rattle.view.specs.declared.Report.{Report}
use Rattle.view.specs.declared.View.{View}

abbrev pub no_view : View
no_view = record { tags = replicate nodes 0; reports = replicate nodes no_report }

abbrev pub entry_bytes : ℕ → Report → List ℕ
entry_bytes t p = be tag_size t ++ report_bytes p

unfoldable pub view_bytes : ℕ → View → List ℕ
view_bytes n v = join n (λ i. entry_bytes (get_or v.tags i 0) (get_or v.reports i no_report))

-- the tag of entry i, its report, and the number that the report's bytes are
abbrev pub tag_at : List ℕ → ℕ → ℕ
tag_at b i = word b (entry_size * i)

abbrev pub report_at : List ℕ → ℕ → Report
report_at b i = report_of (part b (entry_size * i + tag_size) report_size)

abbrev pub report_word : List ℕ → ℕ → ℕ
report_word b i = num (part b (entry_size * i + tag_size) report_size)

unfoldable pub view_of : ℕ → List ℕ → View
view_of n b =
    record {
      tags = tab n (tag_at b) ++ replicate (nodes - n) 0;
      reports = tab n (report_at b) ++ replicate (nodes - n) no_report;
    }

-- the first n places of a view, and nothing past them
unfoldable pub first_of : ℕ → View → View
first_of n v =
    record {
      tags = tab n (λ i. get_or v.tags i 0) ++ replicate (nodes - n) 0;
      reports = tab n (λ i. get_or v.reports i no_report) ++ replicate (nodes - n) no_report;
    }

-- a view with nothing past the first n places
pub record AbsentPast (n : ℕ) (v : View) : Type 0 where
  pub size : n ≤ nodes
  pub tags-length : length v.tags ≡ nodes
  pub reports-length : length v.reports ≡ nodes
  pub no-tag : (i : ℕ) → n ≤ i → get_or v.tags i 0 ≡ 0
  pub no-report : (i : ℕ) → n ≤ i → get_or v.reports i no_report ≡ no_report

-- a tag at most the given one, and zero report bytes beside tag 0
abbrev pub entry_ok : ℕ → ℕ → ℕ → Bool
entry_ok top tag report = both (leb tag top) (pick (eqb tag 0) (eqb report 0) true)

abbrev pub entry_ok_at : ℕ → List ℕ → ℕ → Bool
entry_ok_at top b i = entry_ok top (tag_at b i) (report_word b i)

unfoldable pub view_ok : ℕ → ℕ → List ℕ → Bool
view_ok n top b = all_to n (entry_ok_at top b)
