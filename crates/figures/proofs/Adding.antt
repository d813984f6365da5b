-- Figures taken report by report.
use Prim.Native.Nat.{ℕ, zero, suc, ◌+◌, ◌≤◌, ◌<◌}
use mathlib.Core.Path.{◌≡◌, sym, ap, ap₂, ◌∙◌}
use mathlib.Core.List.{List}
use native.Mathlib.Numerals.{add-one}
use native.Mathlib.Omega.{arith}
use Rattle.octets.specs.Bytes.{Bytes}
use Rattle.octets.proofs.Loop.{up_to-none, up_to-more}
use Rattle.view.specs.Size.{nodes}
use Rattle.view.specs.View.{tag_at}
use Rattle.view.specs.declared.Report.{Report}
use Rattle.figures.specs.declared.Totals.{Totals}
use Rattle.figures.specs.Figures.{counted_report, no_totals, with_report, totals, waiting_sum}
use Rattle.figures.specs.Room.{Roomy}
use Rattle.figures.proofs.Bounds.{counted_report-none, totals-fit}

pub totals-none : (v : List ℕ) → totals 0 v ≡ no_totals
unfolding totals
totals-none v = simp up_to-none

pub totals-more : (k : ℕ) (v : List ℕ) → totals (k + 1) v ≡ with_report (totals k v) (counted_report v k)
unfolding totals
totals-more k v = simp up_to-more

-- the plain sum of calls waiting, which stands beside the figures
pub waiting_sum-none : (v : List ℕ) → waiting_sum 0 v ≡ 0
waiting_sum-none v = up_to-none _ 0

pub waiting_sum-more : (k : ℕ) (v : List ℕ) → waiting_sum (k + 1) v ≡ waiting_sum k v + (counted_report v k).waiting
waiting_sum-more k v = up_to-more k _ 0

-- where nobody has reported
pub totals-nobody : (n : ℕ) (v : List ℕ) → ((i : ℕ) → i < n → tag_at v i ≡ 0) → totals n v ≡ no_totals
totals-nobody zero v h = totals-none v
totals-nobody (suc k) v h =
    ap (λ (n : ℕ). totals n v) (sym (add-one k)) ∙ totals-more k v
    ∙ ap₂ (λ (t : Totals) (p : Report). with_report t p) (totals-nobody k v (λ i l. h i (omega arith)))
    (counted_report-none v k (h k (omega arith)))

-- figures of k entries have room for one more, and with it are those of k + 1
module _ (k : ℕ) (v : List ℕ) {s : Totals} (e : s ≡ totals k v) where
  pub more-roomy : Bytes v → k ≤ nodes → Roomy s
  more-roomy b l =
      let f = totals-fit k v b l in
      rw e
      (record {
        extensions = omega (arith, f.extensions);
        lines = omega (arith, f.lines);
        wakeups = omega (arith, f.wakeups);
      })

  pub one_more : {t : Totals} {p : Report} → t ≡ with_report s p → p ≡ counted_report v k → t ≡ totals (k + 1) v
  one_more f r = f ∙ ap₂ (λ (s : Totals) (p : Report). with_report s p) e r ∙ sym (totals-more k v)
