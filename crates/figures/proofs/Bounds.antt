-- The length of n entries, when an entry may stand in a view and what it shows there, and how great a figure can be.
use Prim.Native.Nat.{ℕ, ◌+◌, ◌*◌, ◌^◌, ◌<◌, ◌≤◌, max}
use mathlib.Core.Path.{◌≡◌, refl, sym, ap, ◌∙◌}
use mathlib.Core.Logic.{◌⊎◌}
use mathlib.Core.Bool.{Bool, true, false}
use mathlib.Core.List.{List}
use native.Mathlib.Decide.{ℕ_discrete}
use native.Mathlib.Omega.{arith}
use lib.ListN.{length, get_or}
use lib.Dec.{eqb, ltb, leb}
use borrow.Author.Tests.{eq-eqb, ne_eqb, leb-true, le-leb, ltb-true, lt-ltb}
use Rattle.octets.specs.Test.{pick}
use Rattle.octets.specs.Bytes.{Bytes, part}
use Rattle.octets.proofs.Test.{both_left, both_right, both_true, not-true-false}
use Rattle.octets.proofs.Number.{num-eight}
use Rattle.octets.proofs.Put.{part_bytes, get_d_part, length_part}
use Rattle.octets.proofs.Loop.{fold_to-le}
use Rattle.octets.specs.Word.{word}
use Rattle.view.specs.Report.{no_report, report_of}
use Rattle.view.specs.Size.{nodes, is_size, limit, tag_size, report_size, entry_size}
use Rattle.view.specs.View.{tag_at, report_at, view_ok, entry_ok}
use Rattle.view.proofs.ReportBytes.{counts_of}
use Rattle.view.proofs.ViewBytes.{ok-report}
use Rattle.view.specs.declared.Report.{Report}
use Rattle.figures.specs.declared.Totals.{Totals}
use Rattle.figures.specs.Figures.{counted_report, total, totals, waiting_sum, count_most, figure_most}

same_test : (x y : Bool) → (x ≡ true → y ≡ true) → (y ≡ true → x ≡ true) → x ≡ y
same_test true y f g = sym (f refl)
same_test false true f g = g refl
same_test false false f g = refl

-- numbers that a cluster can have of nodes, and those that are too small or too great
pub a-size : (n : ℕ) → 1 ≤ n → n ≤ nodes → is_size n ≡ true
a-size n l m = both_true (le-leb 1 n l) (le-leb n nodes m)

pub not-size : (n : ℕ) → (n < 1) ⊎ ((1 ≤ n) × (nodes < n)) → is_size n ≡ false
not-size n h =
    not-true-false (is_size n)
    (λ e. omega (arith, leb-true 1 n (both_left (leb 1 n) _ e), leb-true n nodes (both_right (leb 1 n) _ e)))

-- any report may stand beside a tag that is not 0
beside : (tag report : ℕ) → (tag ≡ 0 → ⊥) → pick (eqb tag 0) (eqb report 0) true ≡ true
beside tag report t = rw (ne_eqb tag 0 t) refl

-- an entry whose tag has a last byte that is not 0 is judged by the first byte
module _ (v : List ℕ) (at : ℕ) (h : Bytes v) (l : at + tag_size ≤ length v) where
  g : Bytes (part v at tag_size)
  g = part_bytes v at tag_size h

  first : get_or (part v at tag_size) 0 0 ≡ get_or v at 0
  first = let z : at + 0 ≡ at = omega arith in get_d_part v at tag_size 0 (omega arith) ∙ ap (λ (j : ℕ). get_or v j 0) z

  last : get_or (part v at tag_size) 7 0 ≡ get_or v (at + 7) 0
  last = get_d_part v at tag_size 7 (omega arith)

  pub by_first : 0 < get_or v (at + 7) 0 → entry_ok limit (word v at) (word v (at + tag_size)) ≡ ltb (get_or v at 0) 128
  by_first m =
      let k = num-eight (part v at tag_size) (length_part v at tag_size l) in
      let t : word v at ≡ 0 → ⊥ = λ y. omega (arith, k, last, m, y) in
      same_test (entry_ok limit (word v at) (word v (at + tag_size))) (ltb (get_or v at 0) 128)
      (λ e. lt-ltb (get_or v at 0) 128
      (omega (arith, k, first, leb-true (word v at) limit (both_left (leb (word v at) limit) _ e))))
      (λ e. both_true (le-leb (word v at) limit
      (omega (arith, k, first, ltb-true (get_or v at 0) 128 e, g 1, g 2, g 3, g 4, g 5, g 6, g 7)))
      (beside (word v at) (word v (at + tag_size)) t))

-- what an entry counts with, by its tag
module _ (v : List ℕ) (i : ℕ) where
  pub counted_report-none : tag_at v i ≡ 0 → counted_report v i ≡ no_report
  counted_report-none e = ap (λ (t : Bool). pick t no_report (report_at v i)) (eq-eqb (tag_at v i) 0 e)

  pub counted_report-some : (tag_at v i ≡ 0 → ⊥) → counted_report v i ≡ report_at v i
  counted_report-some e = ap (λ (t : Bool). pick t no_report (report_at v i)) (ne_eqb (tag_at v i) 0 e)

-- an entry of a valid view shows its report, which is none beside tag 0
pub counted_report-is : (n : ℕ) (v : List ℕ) → view_ok n limit v ≡ true → Bytes v → entry_size * n ≤ length v
    → (i : ℕ) → i < n → report_at v i ≡ counted_report v i
counted_report-is n v ok h l i m = elim (ℕ_discrete (tag_at v i) 0) [
  | yes e ↦ ok-report n limit v ok i m h l e ∙ sym (counted_report-none v i e)
  | no e ↦ sym (counted_report-some v i e)
]

-- a count has sixteen bits in each report that bytes are, so it is at most `count_most`
record Count (count : Report → ℕ) : Type 0 where
  pub none : count no_report ≡ 0
  pub most : (b : List ℕ) → Bytes b → count (report_of b) < 2 ^ 16

counted_report-most : (count : Report → ℕ) → Count count → (t : Bool) (b : List ℕ) → Bytes b → count
    (pick t no_report (report_of b)) ≤ count_most
counted_report-most count c true b h = rw c.none (omega arith)
counted_report-most count c false b h = omega (arith, c.most b h)

-- counts that are put together to no more than their sum
total-fits : (op : ℕ → ℕ → ℕ) → ((a b : ℕ) → op a b ≤ a + b) → (count : Report → ℕ) → Count count
    → (n : ℕ) (v : List ℕ) → Bytes v → n ≤ nodes → total op count n v ≤ figure_most
total-fits op less count c n v h l =
    let m : total op count n v ≤ n * count_most =
    fold_to-le n count_most op (λ i. count (counted_report v i)) less
    (λ i. counted_report-most count c (eqb (tag_at v i) 0) (part v (entry_size * i + tag_size) report_size)
    (part_bytes v (entry_size * i + tag_size) report_size h)) in
    omega arith

-- each of the four figures is at most the greatest, which fits 32 bits
pub record Fit (t : Totals) : Type 0 where
  pub extensions : t.extensions ≤ figure_most
  pub lines : t.lines ≤ figure_most
  pub waiting : t.waiting ≤ figure_most
  pub wakeups : t.wakeups ≤ figure_most

pub most-fits : figure_most < 2 ^ 32
most-fits = omega arith

-- calls waiting in a report, as a count
waits : Count (λ p. p.waiting)
waits = record { none = refl; most = λ b g. (counts_of b g).waiting }

module _ (n : ℕ) (v : List ℕ) (h : Bytes v) (l : n ≤ nodes) where
  sum_fits : (count : Report → ℕ) → Count count → total ◌+◌ count n v ≤ figure_most
  sum_fits count c = total-fits ◌+◌ (λ a b. omega arith) count c n v h l

  pub waiting_sum-fits : waiting_sum n v ≤ figure_most
  waiting_sum-fits = sum_fits (λ p. p.waiting) waits

  pub totals-fit : Fit (totals n v)
  unfolding totals
  totals-fit =
      record {
        extensions = sum_fits (λ p. p.extensions) (record { none = refl; most = λ b g. (counts_of b g).extensions });
        lines = sum_fits (λ p. p.lines) (record { none = refl; most = λ b g. (counts_of b g).lines });
        waiting = total-fits max (λ a b. omega arith) (λ p. p.waiting) waits n v h l;
        wakeups = sum_fits (λ p. p.wakeups) (record { none = refl; most = λ b g. (counts_of b g).wakeups });
      }
