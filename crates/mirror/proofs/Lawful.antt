-- What a step sends may be written.
use Prim.Native.Nat.{ℕ, ◌≤◌}
use mathlib.Core.Path.{◌≡◌, sym, subst}
use mathlib.Core.Bool.{true}
use mathlib.Core.List.Memᴰ
use mathlib.Core.List.{List, ◌∷◌}
use Rattle.view.specs.Size.{nodes}
use Rattle.logs.specs.Log.{◌∈◌}
use Rattle.view.specs.View.{view_bytes}
use Rattle.view.specs.declared.View.{View}
use Rattle.wire.specs.Layout.{allowed}
use Rattle.wire.specs.declared.Message.{Message}
use Rattle.step.specs.Claims.{AllLawful}
use Rattle.step.proofs.Allowed.{lawful-allowed}

pub each-allowed : (n : ℕ) → n ≤ nodes → (v : View) (l : List Message) → AllLawful n v l → (m : Message) → m ∈ l
    → allowed n m (view_bytes n v) ≡ true
each-allowed n small v List.[] _ m h = elim h [ ]
each-allowed n small v (x ∷ l) (h, r) m (Memᴰ.head e) =
    subst (λ z. allowed n z (view_bytes n v) ≡ true) (sym e) (lawful-allowed n x v small h)
each-allowed n small v (x ∷ l) (h, r) m (Memᴰ.tail i) = each-allowed n small v l r m i
