-- The code decides by a Bool, the algorithm over sets by a decision of a claim: where the Bool tells the claim, both
-- take the same side.
use Prim.Native.Nat.{ℕ, ◌≤◌}
use native.Mathlib.Omega.{arith}
use mathlib.Core.Path.{◌≡◌, refl, sym}
use mathlib.Core.Logic.{ite, ◌↔◌}
use mathlib.Core.Bool.{Bool, true, false, cond}
use lib.Dec.{leb, eqb}
use borrow.Author.Tests.{le-leb, lt-leb, eq-eqb, ne_eqb}
use Rattle.octets.specs.Test.{pick}

-- The Bool is the answer to whether P holds.
abbrev pub Tells : Bool → Type 0 → Type 0
Tells b P = (P → b ≡ true) × (¬ P → b ≡ false)

pub le-tells : (a b : ℕ) → Tells (leb a b) (a ≤ b)
le-tells a b = (le-leb a b, λ h. lt-leb a b (omega arith))

-- The same with numbers that are equal.
pub le-tells-as : {a b x y : ℕ} → a ≡ x → b ≡ y → Tells (leb a b) (x ≤ y)
le-tells-as {a} {b} {x} {y} d e = rw (d, e) (le-tells x y)

pub eq-tells : (a b : ℕ) → Tells (eqb a b) (a ≡ b)
eq-tells a b = (eq-eqb a b, ne_eqb a b)

module _ {X Y : Type 0} (R : X → Y → Type 0) where
  pub same-side : {P : Type 0} {b : Bool} (d : Dec P) → Tells b P → {x y : X} {x' y' : Y}
      → (P → R x x') → (¬ P → R y y') → R (pick b x y) (ite d x' y')
  same-side (yes p) (t, f) yes-side no-side = rw (t p) (yes-side p)
  same-side (no p) (t, f) yes-side no-side = rw (f p) (no-side p)

  pub same_test : {b : Bool} (c : Bool) → b ≡ c → {x y : X} {x' y' : Y}
      → (c ≡ true → R x x') → (c ≡ false → R y y') → R (pick b x y) (cond c x' y')
  same_test true e yes-side no-side = rw e (yes-side refl)
  same_test false e yes-side no-side = rw e (no-side refl)

-- A Bool is true or false, as equations.
pub split : {X : Type 0} (b : Bool) → (b ≡ true → X) → (b ≡ false → X) → X
split true f g = f refl
split false f g = g refl

-- Two tests of which each holds where the other does are the same.
pub same_bool : (a b : Bool) → (a ≡ true) ↔ (b ≡ true) → a ≡ b
same_bool true b (to, of) = sym (to refl)
same_bool false true (to, of) = of refl
same_bool false false (to, of) = refl
