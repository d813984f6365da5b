-- Small laws of numbers and choices. Assumes nothing.
use mathlib.Core.Path.{◌≡◌, refl, sym, ap, ◌∙◌}
use mathlib.Core.Bool.{Bool, true, false}
use Prim.Native.Nat.{ℕ, ◌≤◌, max}
use native.Mathlib.Nat.{max-le}
use lib.Dec.{leb}
use borrow.Author.Tests.{leb-true}
use Rattle.view.specs.declared.Report.{Report}
use Rattle.wire.specs.declared.Message.{Message}
use Rattle.wire.specs.declared.Message.TheVariants.{Value}
use Rattle.octets.proofs.Test.{both_left, both_right}
use Rattle.octets.specs.Test.{pick, both}
use Rattle.view.specs.Size.{limit}
use Rattle.view.specs.declared.View.{View}
use Rattle.step.specs.Allowed.{lawful}

pub max-most : (a b m : ℕ) → a ≤ m → b ≤ m → max a b ≤ m
max-most a b m h k = max-le h k

-- a choice has a property when each side has it where it is chosen
pub on-pick : {X : Type 0} (P : X → Type 0) (b : Bool) (x y : X) → (b ≡ true → P x) → (b ≡ false → P y) → P (pick b x y)
on-pick P true x y f g = f refl
on-pick P false x y f g = g refl

-- the writer that a value message names
pub writer_in : (n : ℕ) (m : Message) (v : View) {t w : ℕ} {p : Report} → m ≡ Value t w p → lawful n m v ≡ true
    → (1 ≤ w) × (w ≤ n)
writer_in n m v {t} {w} {p} e h =
    let k : both (leb 1 w) (leb w n) ≡ true =
    both_right (both (leb 1 t) (leb t limit)) (both (leb 1 w) (leb w n))
    (sym (ap (λ (x : Message). lawful n x v) e) ∙ h) in
    (leb-true 1 w (both_left (leb 1 w) (leb w n) k), leb-true w n (both_right (leb 1 w) (leb w n) k))

pub on-picks : {X Y : Type 0} (P : X → Y → Type 0) (b : Bool) (x x' : X) (y y' : Y)
    → (b ≡ true → P x y) → (b ≡ false → P x' y') → P (pick b x x') (pick b y y')
on-picks P true x x' y y' f g = f refl
on-picks P false x x' y y' f g = g refl
