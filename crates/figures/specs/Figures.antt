-- House figures: over a view for n nodes, each count of the reports put together; no report counts as four zeros. Three
-- are sums, as in document 01. Of calls waiting it is the largest, by document 02, since all nodes watch one queue; it
-- is called a total all the same.
use Rattle.std.specs.Prelude.{ℕ, ◌+◌, ◌*◌, max, List, length, eqb, Result, Ok, Err}
use Rattle.octets.specs.Answer.{Answer, returned, refused}
use Rattle.octets.specs.Test.{pick}
use Rattle.octets.specs.Loop.{fold_to}
use Rattle.view.specs.Size.{nodes, is_size, limit, entry_size}
use Rattle.view.specs.Report.{no_report}
use Rattle.view.specs.View.{tag_at, report_at, view_ok}
use Rattle.view.specs.declared.Report.{Report}
use Rattle.refusal.specs.Refusal.{number}
use Rattle.refusal.specs.declared.Refusal.{Refusal}
use Rattle.figures.specs.declared.Totals.{Totals}
use Rattle.figures.specs.declared.Counted.{Counted}

-- the report that entry i counts with: no report, four zeros, beside tag 0
abbrev pub counted_report : List ℕ → ℕ → Report
counted_report v i = pick (eqb (tag_at v i) 0) no_report (report_at v i)

-- one count over n entries, put together by `op`
abbrev pub total : (op : ℕ → ℕ → ℕ) (count : Report → ℕ) → ℕ → List ℕ → ℕ
total op count n v = fold_to n op 0 (λ i. count (counted_report v i))

unfoldable pub totals : ℕ → List ℕ → Totals
totals n v =
    record {
      extensions = total ◌+◌ (λ p. p.extensions) n v;
      lines = total ◌+◌ (λ p. p.lines) n v;
      waiting = total max (λ p. p.waiting) n v;
      wakeups = total ◌+◌ (λ p. p.wakeups) n v;
    }

-- the figures of no report, and those with one more
abbrev pub no_totals : Totals
no_totals = record { extensions = 0; lines = 0; waiting = 0; wakeups = 0 }

abbrev pub with_report : Totals → Report → Totals
with_report t p =
    record {
      extensions = t.extensions + p.extensions;
      lines = t.lines + p.lines;
      waiting = max t.waiting p.waiting;
      wakeups = t.wakeups + p.wakeups;
    }

-- the greatest count, and the greatest figure over the most nodes
abbrev pub count_most : ℕ
count_most = 65535

abbrev pub figure_most : ℕ
figure_most = count_most * nodes

-- 12: the length is not 16 n, for any n; 1: n; 7: a tag above its limit, or bytes beside tag 0
unfoldable pub figures_of : ℕ → List ℕ → Answer Totals
figures_of n v =
    pick (eqb (length v) (entry_size * n))
    (pick (is_size n) (pick (view_ok n limit v) (returned (totals n v)) (refused 7)) (refused 1)) (refused 12)

-- what the answer says in document 01's terms
abbrev pub counted : Result Counted Refusal → Answer Totals
counted (Ok c) = returned c.totals
counted (Err k) = refused (number k)

-- what stands beside figures: the plain sum of calls waiting
abbrev pub waiting_sum : ℕ → List ℕ → ℕ
waiting_sum n v = total ◌+◌ (λ p. p.waiting) n v
