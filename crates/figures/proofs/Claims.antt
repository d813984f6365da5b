-- The claims of the figures hold.
use Prim.Native.Nat.{ℕ, zero, suc, max}
use mathlib.Core.Path.{◌≡◌, refl, sym, ap, ◌∙◌}
use mathlib.Core.Bool.{Bool, true, false}
use mathlib.Core.Logic.{inl, inr}
use mathlib.Core.List.{List}
use native.Mathlib.Decide.{ℕ_discrete, dec_le}
use native.Mathlib.Omega.{arith}
use Rattle.octets.specs.Test.{pick}
use Rattle.octets.specs.Loop.{up_to}
use Rattle.octets.proofs.Loop.{below_suc, fold_to-ext, fold_to-both}
use Rattle.view.specs.View.{tag_at, report_at}
use Rattle.view.specs.declared.Report.{Report}
use Rattle.figures.specs.Figures.{counted_report, total, totals}
use Rattle.figures.specs.Claims as claim
use Rattle.figures.proofs.Accepted.{accepted}
use Rattle.figures.proofs.Adding.{totals-nobody}
use Rattle.figures.proofs.Bounds.{counted_report-none, counted_report-some}

pub ways : claim.Ways
ways =
    record {
      sum = record { commutative = λ a b. omega arith; associative = λ a b c. omega arith; neutral = λ a. omega arith };
      largest =
          record { commutative = λ a b. omega arith; associative = λ a b c. omega arith; neutral = λ a. omega arith };
    }

pub groups : claim.Groups
groups op c n count first =
    sym (fold_to-both c n (λ i. pick (first i) (count i) 0) (λ i. pick (first i) 0 (count i)))
    ∙ fold_to-ext n op 0 _ count (λ i l. one (first i) (count i))
  where
    one : (t : Bool) (x : ℕ) → op (pick t x 0) (pick t 0 x) ≡ x
    one true x = c.neutral x
    one false x = c.commutative 0 x ∙ c.neutral x

-- entry k more, by whether its node has reported
module _ (k : ℕ) (v : List ℕ) (m : ℕ) (h : claim.Largest k v m) where
  abbrev w : ℕ
  w = (counted_report v k).waiting

  absent : tag_at v k ≡ 0 → claim.Largest (suc k) v (max m w)
  absent e =
      let y : w ≡ 0 = ap (λ (p : Report). p.waiting) (counted_report-none v k e) in
      let z : max m w ≡ m = omega arith in
      rw z
      (record {
        most = λ i l t. below_suc l (λ q. absurd (t (ap (tag_at v) q ∙ e))) (λ b. h.most i b t);
        some = elim h.some [
          | inl (i, l, t, q) ↦ inl (i, omega arith, t, q)
          | inr (none, q) ↦ inr (λ i l. below_suc l (λ r. ap (tag_at v) r ∙ e) (none i), q)
        ];
      })

  there : (tag_at v k ≡ 0 → ⊥) → claim.Largest (suc k) v (max m w)
  there e =
      let z : w ≡ (report_at v k).waiting = ap (λ (p : Report). p.waiting) (counted_report-some v k e) in
      record {
        most = λ i l t. below_suc l
            (λ q. let r : (report_at v i).waiting ≡ w = ap (λ (j : ℕ). (report_at v j).waiting) q ∙ sym z in omega
            arith)
            (λ b. omega (arith, h.most i b t));
        some = elim (dec_le m w) [
          | yes l ↦ inl (k, omega arith, e, omega arith)
          | no l ↦ elim h.some [
            | inl (i, b, t, q) ↦ inl (i, omega arith, t, omega arith)
            | inr (none, q) ↦ absurd (omega arith)
          ]
        ];
      }

  largest-more : claim.Largest (suc k) v (max m w)
  largest-more = elim (ℕ_discrete (tag_at v k) 0) [ yes e ↦ absent e | no e ↦ there e ]

largest-is : (k : ℕ) (v : List ℕ) → claim.Largest k v (total max (λ p. p.waiting) k v)
unfolding up_to
largest-is zero v = record { most = λ i l t. absurd (omega arith); some = inr (λ i l. absurd (omega arith), refl) }
largest-is (suc k) v = largest-more k v (total max (λ p. p.waiting) k v) (largest-is k v)

pub one-queue : claim.OneQueue
unfolding totals
one-queue n v t e = rw (accepted n v t e).are (largest-is n v)

pub nobody : claim.Nobody
nobody n v t e h = (accepted n v t e).are ∙ totals-nobody n v h
