-- The point on calls waiting.
use Prim.Native.Nat.{ℕ, ◌*◌, ◌<◌, max}
use native.Mathlib.Nat.{zero-add}
use native.Mathlib.Omega.{arith}
use mathlib.Core.Path.{◌≡◌, refl, ap, ap₂, ◌∙◌}
use mathlib.Core.Bool.{true}
use mathlib.Core.List.{List}
use lib.ListN.{length}
use Rattle.octets.specs.Answer.{returned}
use Rattle.view.specs.Size.{limit}
use Rattle.view.specs.View.{tag_at, report_at, view_ok}
use Rattle.view.specs.declared.Report.{Report}
use Rattle.figures.specs.Figures.{counted_report, no_totals, with_report, totals}
use Rattle.figures.specs.declared.Totals.{Totals}
use Rattle.figures.proofs.Adding.{totals-none, totals-more, totals-nobody}
use Rattle.figures.proofs.Bounds.{counted_report-some}
use Rattle.points.specs.Calls.{Calls, code}
use Rattle.points.specs.Figures.{Waiting, with_five, ThreeAndFive}
use Rattle.points.specs.Messages.{zeros}
use Rattle.points.proofs.Messages.{is-taken}

-- two reports, one after the other
two-more : (p q : Report) → max p.waiting q.waiting ≡ 5 → with_report (with_report no_totals p) q ≡ with_five p q
two-more p q e =
    let z : max (max 0 p.waiting) q.waiting ≡ 5 = omega (arith, e) in
    rw (z, zero-add p.extensions, zero-add p.lines, zero-add p.wakeups) refl

totals-two : (v : List ℕ) {x y : ℕ} → Waiting v x y → max x y ≡ 5
    → totals 2 v ≡ with_five (report_at v 0) (report_at v 1)
totals-two v {x} {y} w e =
    totals-more 1 v ∙ ap (λ (t : Totals). with_report t (counted_report v 1))
    (totals-more 0 v ∙ ap (λ (t : Totals). with_report t (counted_report v 0)) (totals-none v))
    ∙ ap₂ (λ (p q : Report). with_report (with_report no_totals p) q) (counted_report-some v 0 w.first.0)
    (counted_report-some v 1 w.second.0)
    ∙ two-more (report_at v 0) (report_at v 1) (omega (arith, w.first.1, w.second.1, e))

-- The clauses follow from the figures of each view, of any calls.
module _ (calls : Calls) where
  abbrev pub FiguresOf : ℕ → Type 0
  FiguresOf n = (v : List ℕ) → length v ≡ 16 * n → view_ok n limit v ≡ true → calls.figures n v ≡ returned (totals n v)

  pub shows-five : FiguresOf 2 → (v : List ℕ) {x y : ℕ} → Waiting v x y → max x y ≡ 5
      → calls.figures 2 v ≡ returned (with_five (report_at v 0) (report_at v 1))
  shows-five figures v w e = figures v w.long w.ok ∙ ap returned (totals-two v w e)

  pub shows-none : (n : ℕ) → FiguresOf n → (v : List ℕ) → length v ≡ 16 * n → view_ok n limit v ≡ true
      → ((i : ℕ) → i < n → tag_at v i ≡ 0) → calls.figures n v ≡ returned zeros
  shows-none n figures v l ok none = figures v l ok ∙ ap returned (totals-nobody n v none)

pub three-and-five-holds : ThreeAndFive code
three-and-five-holds = record {
  three-five = λ v w. shows-five code two v w refl;
  five-three = λ v w. shows-five code two v w refl;
  nobody = λ n o. shows-none code n (is-taken n o).figures;
}
  where
    two : FiguresOf code 2
    two = (is-taken 2 (omega arith, omega arith)).figures
