-- What is known where there are figures, and that they depend on what is counted of each node alone.
use Prim.Native.Nat.{ℕ, ◌+◌, ◌*◌, ◌<◌, ◌≤◌, max}
use mathlib.Core.Path.{◌≡◌, refl, sym, ap}
use mathlib.Core.Bool.{Bool, true, false}
use mathlib.Core.List.{List}
use native.Mathlib.Omega.{arith}
use lib.ListN.{length}
use lib.Dec.{eqb, leb}
use borrow.Author.Tests.{eqb-true, eq-eqb, leb-true}
use Rattle.octets.specs.Answer.{Answer, returned, refused}
use Rattle.octets.specs.Test.{pick}
use Rattle.octets.specs.Bytes.{Bytes}
use Rattle.octets.proofs.Loop.{fold_to-ext}
use Rattle.octets.proofs.Test.{both_right}
use Rattle.view.specs.Size.{nodes, is_size, limit, entry_size, view_size}
use Rattle.view.specs.View.{view_ok}
use Rattle.view.specs.declared.Report.{Report}
use Rattle.figures.specs.declared.Totals.{Totals}
use Rattle.figures.specs.Figures.{counted_report, total, totals, figures_of}
use Rattle.figures.proofs.Bounds.{Fit, totals-fit}

pub record Accepted (n : ℕ) (v : List ℕ) (t : Totals) : Type 0 where
  pub sized : is_size n ≡ true
  pub long : length v ≡ view_size n
  pub ok : view_ok n limit v ≡ true
  pub are : t ≡ totals n v

-- a choice between an answer and a refusal that is a result
chosen : (b : Bool) (a : Answer Totals) (k : ℕ) (t : Totals) → pick b a (refused k) ≡ returned t
    → (b ≡ true) × (a ≡ returned t)
chosen true a k t e = (refl, e)
chosen false a k t e = let z : ◌≡◌ {A = ℕ} 0 1 = cc in absurd (omega arith)

pub accepted : (n : ℕ) (v : List ℕ) (t : Totals) → figures_of n v ≡ returned t → Accepted n v t
unfolding figures_of
accepted n v t e =
    let a : Answer Totals = pick (view_ok n limit v) (returned (totals n v)) (refused 7) in
    let p = chosen (eqb (length v) (entry_size * n)) (pick (is_size n) a (refused 1)) 12 t e in
    let q = chosen (is_size n) a 1 t p.1 in
    let r = chosen (view_ok n limit v) (returned (totals n v)) 7 t q.1 in
    record {
      sized = q.0;
      long = eqb-true (length v) (entry_size * n) p.0;
      ok = r.0;
      are = cc r.1;
    }

pub accepted-back : (n : ℕ) (v : List ℕ) (t : Totals) → Accepted n v t → figures_of n v ≡ returned t
unfolding figures_of
accepted-back n v t h = rw (eq-eqb (length v) (entry_size * n) h.long, h.sized, h.ok) (ap returned (sym h.are))

-- the refusals, in their order
pub refused-12 : (n : ℕ) (v : List ℕ) → eqb (length v) (entry_size * n) ≡ false → figures_of n v ≡ refused 12
unfolding figures_of
refused-12 n v e = rw e refl

pub refused-1 : (n : ℕ) (v : List ℕ) → eqb (length v) (entry_size * n) ≡ true → is_size n ≡ false
    → figures_of n v ≡ refused 1
unfolding figures_of
refused-1 n v e f = rw (e, f) refl

pub refused-7 : (n : ℕ) (v : List ℕ) → eqb (length v) (entry_size * n) ≡ true → is_size n ≡ true
    → view_ok n limit v ≡ false → figures_of n v ≡ refused 7
unfolding figures_of
refused-7 n v e f g = rw (e, f, g) refl

module _ (n : ℕ) (v : List ℕ) (t : Totals) (h : Accepted n v t) where
  pub accepted-size : n ≤ nodes
  accepted-size = leb-true n nodes (both_right (leb 1 n) (leb n nodes) h.sized)

  pub accepted-fit : Bytes v → Fit t
  accepted-fit b = rw h.are (totals-fit n v b accepted-size)

-- the same reports counted give the same figures
total-same : (op : ℕ → ℕ → ℕ) (count : Report → ℕ) (n : ℕ) (v w : List ℕ)
    → ((i : ℕ) → i < n → counted_report v i ≡ counted_report w i) → total op count n v ≡ total op count n w
total-same op count n v w h =
    fold_to-ext n op 0 (λ i. count (counted_report v i)) (λ i. count (counted_report w i)) (λ i l. ap count (h i l))

pub totals-same : (n : ℕ) (v w : List ℕ) → ((i : ℕ) → i < n → counted_report v i ≡ counted_report w i)
    → totals n v ≡ totals n w
unfolding totals
totals-same n v w h =
    rw (
      total-same ◌+◌ (λ p. p.extensions) n v w h,
      total-same ◌+◌ (λ p. p.lines) n v w h,
      total-same max (λ p. p.waiting) n v w h,
      total-same ◌+◌ (λ p. p.wakeups) n v w h,
    )
