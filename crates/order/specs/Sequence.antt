-- Lists as sequences: that nothing stands in one twice, the part of it before an item, and the last item of a kind.
use Rattle.std.specs.Prelude.{List, [], ◌∷◌, ◌≡◌}
use Rattle.std.proofs.Math.Logic.{ite}
use Rattle.logs.specs.Log.{◌∈◌}

-- Nothing stands in the list twice.
abbrev pub Once : {A : Type 0} → List A → Type 0
Once [] = Unit {0}
Once (x ∷ l) = ¬ (x ∈ l) × Once l

-- The part of the list before the first place of x: all of it where x is not in it.
unfoldable pub before : {A : Type 0} → Discrete A → A → List A → List A
before same x [] = []
before same x (y ∷ l) = ite (same y x) [] (y ∷ before same x l)

-- No item of the list is of kind P.
abbrev pub None : {A : Type 0} → (A → Type 0) → List A → Type 0
None P l = (x : _) → x ∈ l → ¬ P x

-- u is the last item of kind P in the list.
pub data Last {A : Type 0} (P : A → Type 0) (u : A) : List A → Type 0 where
  here : {x : A} {l : List A} → x ≡ u → P u → None P l → Last P u (x ∷ l)
  later : {x : A} {l : List A} → Last P u l → Last P u (x ∷ l)
