-- A view made of reports shows them; and pages of views that show the same are the same.
use Prim.Native.Nat.{ℕ, zero, suc, ◌+◌, ◌<◌, ◌≤◌}
use mathlib.Core.Path.{◌≡◌, refl, sym, ap, ap₂, ◌∙◌, subst}
use mathlib.Core.Bool.{Bool, true, false}
use mathlib.Core.List.{List, [], ◌++◌, map, append-nil}
use mathlib.Core.Option
use mathlib.Core.Option.{Option, none, some}
use native.Mathlib.Omega.{arith}
use lib.ListN.{length, get_or, get_or-map}
use lib.Dec.{eqb, ltb}
use borrow.Author.Tests.{lt-ltb}
use Rattle.octets.specs.Bytes.{Bytes, be}
use Rattle.octets.specs.Loop.{join}
use Rattle.octets.specs.Test.{pick}
use Rattle.octets.proofs.Loop.{all_to-all}
use Rattle.octets.proofs.Number.{be-bytes}
use Rattle.octets.proofs.Table.{join-ext}
use Rattle.view.specs.Size.{limit, tag_size, view_size}
use Rattle.view.specs.Report.{Counts, no_report, report_bytes}
use Rattle.view.specs.View.{entry_bytes, view_bytes, tag_at, report_at, view_ok}
use Rattle.view.specs.declared.Report.{Report}
use Rattle.view.specs.declared.View.{View}
use Rattle.view.proofs.ReportBytes.{bytes-append, report-bytes}
use Rattle.view.proofs.ViewBytes.{length-view_bytes, tag-written, report-written, ok-written}
use Rattle.octets.specs.Answer.{returned}
use Rattle.figures.specs.Figures.{counted_report}
use Rattle.figures.specs.declared.Totals.{Totals}
use Rattle.figures.proofs.Accepted.{Accepted, totals-same}
use Rattle.page.specs.Page.{node_line, figures_line, shown_at, page_of}
use Rattle.page.specs.Read.{tag_for, report_for, view_for, all_bytes}
use Rattle.page.proofs.Pages.{page-is}

-- ---- views that show the same

counted-by : (t : Bool) (p : Report) → pick t no_report p ≡ Option.get_or (pick t none (some p)) no_report
counted-by true p = refl
counted-by false p = refl

-- what is counted of a node is what is shown of it
counted_is : (v : List ℕ) (i : ℕ) → counted_report v i ≡ Option.get_or (shown_at v i) no_report
counted_is v i = counted-by (eqb (tag_at v i) 0) (report_at v i)

module _ (n : ℕ) (v w : List ℕ) (t : Totals) (h : Accepted n v t) (long : length w ≡ view_size n)
    (ok : view_ok n limit w ≡ true) (same : (i : ℕ) → i < n → shown_at v i ≡ shown_at w i) where
  same-accepted : Accepted n w t
  same-accepted =
      record {
        sized = h.sized;
        long = long;
        ok = ok;
        are = h.are ∙ totals-same n v w
            (λ i l. counted_is v i ∙ ap (λ (o : Option Report). Option.get_or o no_report) (same i l)
            ∙ sym (counted_is w
            i));
      }

  pub same-page : page_of n w ≡ page_of n v
  same-page =
      page-is n w t same-accepted
      ∙ ap (λ (s : List ℕ). returned (s ++ figures_line t))
      (join-ext n (λ i. node_line (i + 1) (shown_at w i)) (λ i. node_line (i + 1) (shown_at v i))
      (λ i l. ap (λ (o : Option Report). node_line (i + 1) o) (sym (same i l))))
      ∙ sym (page-is n v t h)

-- ---- a view that shows given reports

tag-low : (o : Option Report) → tag_for o ≤ 1
tag-low none = omega arith
tag-low (some p) = omega arith

module _ (l : List (Option Report)) where
  abbrev shows : View
  shows = record { tags = map tag_for l; reports = map report_for l }

  tag-for : (i : ℕ) → get_or shows.tags i 0 ≡ tag_for (get_or l i none)
  tag-for i = get_or-map tag_for l i none

  report-for : (i : ℕ) → get_or shows.reports i no_report ≡ report_for (get_or l i none)
  report-for i = get_or-map report_for l i none

  pub length-for : length (view_for l) ≡ view_size (length l)
  length-for = length-view_bytes (length l) shows

  -- with nothing after it
  alone : view_bytes (length l) shows ++ [] ≡ view_for l
  alone = append-nil (view_bytes (length l) shows)

  shown_of : (o : Option Report) → pick (eqb (tag_for o) 0) none (some (report_for o)) ≡ o
  shown_of none = refl
  shown_of (some p) = refl

  pub shown-for : (i : ℕ) → i < length l → shown_at (view_for l) i ≡ get_or l i none
  shown-for i m =
      ap₂ (λ (t : ℕ) (p : Report). pick (eqb t 0) none (some p))
      (ap (λ (b : List ℕ). tag_at b i) (sym alone) ∙ tag-written (length l) shows [] i m ∙ tag-for i)
      (ap (λ (b : List ℕ). report_at b i) (sym alone) ∙ report-written (length l) shows [] i m ∙ report-for i)
      ∙ shown_of (get_or l i none)

  none_beside : (o : Option Report) → tag_for o ≡ 0 → report_for o ≡ no_report
  none_beside none e = refl
  none_beside (some p) e = absurd (omega arith)

  pub ok-for : view_ok (length l) limit (view_for l) ≡ true
  ok-for =
      ap (λ (b : List ℕ). view_ok (length l) limit b) (sym alone)
      ∙ ok-written (length l) limit shows [] (λ i m. rw (tag-for i) (omega (arith, tag-low (get_or l i none))))
      (λ i m e. report-for i ∙ none_beside (get_or l i none) (sym (tag-for i) ∙ e))

-- ---- whose bytes are bytes

join-bytes : (k : ℕ) (f : ℕ → List ℕ) → ((i : ℕ) → i < k → Bytes (f i)) → Bytes (join k f)
unfolding join
join-bytes zero f h = λ i. omega arith
join-bytes (suc k) f h =
    bytes-append (join k f) (f k) (join-bytes k f (λ i m. h i (omega arith))) (h k (omega arith))

-- a report, if there is one, has counts of sixteen bits
abbrev pub Counted : Option Report → Type 0
Counted o = Counts (report_for o)

entry-bytes : (t : ℕ) (p : Report) → t ≤ 1 → Counts p → Bytes (entry_bytes t p)
entry-bytes t p l c = bytes-append (be tag_size t) (report_bytes p) (be-bytes tag_size t (omega arith))
    (report-bytes p c)

module _ (l : List (Option Report)) (counted : (i : ℕ) → i < length l → Counted (get_or l i none)) where
  bytes-for : Bytes (view_for l)
  unfolding view_bytes
  bytes-for =
      join-bytes (length l) (λ i. entry_bytes (get_or (map tag_for l) i 0) (get_or (map report_for l) i no_report))
      (λ i m. subst (λ (e : List ℕ). Bytes e)
      (sym (ap₂ (λ (t : ℕ) (p : Report). entry_bytes t p) (tag-for l i) (report-for l i)))
      (entry-bytes (tag_for (get_or l i none)) (report_for (get_or l i none)) (tag-low (get_or l i none))
      (counted i m)))

  pub all-bytes-for : all_bytes (view_for l) ≡ true
  all-bytes-for =
      all_to-all (length (view_for l)) (λ i. ltb (get_or (view_for l) i 0) 256)
      (λ i m. lt-ltb (get_or (view_for l) i 0) 256 (bytes-for i))
