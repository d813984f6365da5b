-- `array::from_fn` of a closure that changes nothing and has the value h i at each i.
use Rattle.std.proofs.Common.{◌≡◌, ℕ, zero, suc, ◌+◌, ◌<◌, ◌≤◌, List, get_or, subst, ◌∙◌, arith}
use native.Mathlib.Nat.{eq-or-lt_of_le}
use mathlib.Core.Logic.{⊎_elim}
use Rattle.std.specs.Array.{IsFromFnResultFrom, IsFromFnResult}
use Rattle.std.specs.Fn.{Called}
use denote.Param.Members.{Mut}
use Rattle.octets.specs.Loop.{tab}
use Rattle.octets.proofs.Table.{tab-spelled, tab-ext}

module _ {F A : Type 0} (g : Mut F (ℕ × Unit {0}) A) (f : F) (h : ℕ → A)
    (calls : (i : ℕ) (y : A) (q : F) → Called g f (i, tt) y q → (q ≡ f) × (y ≡ h i)) where
  given : (ys : List A) (d : A) (i n : ℕ) → IsFromFnResultFrom g f ys i n
      → (k : ℕ) → i ≤ k → k < i + n → get_or ys k d ≡ h k
  given ys d i zero r k l m = absurd (omega arith)
  given ys d i (suc n) r k l m =
      let now = calls i r.1 r.0 r.3 in
      ⊎_elim (λ e. subst (λ (j : ℕ). get_or ys j d ≡ h j) e (r.2.1 d ∙ now.1))
      (λ o. given ys d (i + 1) n (subst (λ (p : F). IsFromFnResultFrom g p ys (i + 1) n) now.0 r.4) k (omega arith)
      (omega arith)) (eq-or-lt_of_le l)

  pub from_fn-tab : (ys : List A) (n : ℕ) (d : A) → IsFromFnResult g f ys n → ys ≡ tab n h
  from_fn-tab ys n d r =
      tab-spelled n ys d r.long
      ∙ tab-ext n (λ i. get_or ys i d) h (λ i l. given ys d 0 n r.each i (omega arith) (omega arith))
