-- The numbers below a bound that have a decidable property, as a list, and whether there is one.
use Prim.Native.Nat.{ℕ, zero, suc, ◌<◌}
use native.Mathlib.Decide.{ℕ_discrete}
use native.Mathlib.Omega.{arith}
use mathlib.Core.List.Memᴰ
use mathlib.Core.List.{List, [], ◌∷◌}
use mathlib.Core.Logic.{ite}
use mathlib.Core.Path.{◌≡◌, sym, subst}
use Rattle.logs.specs.Log.{◌∈◌}
use Rattle.order.specs.Sequence.{Once}

module _ {P : ℕ → Type 0} (dec : (t : ℕ) → Dec (P t)) where
  pub select : ℕ → List ℕ
  select zero = []
  select (suc m) = ite (dec m) (m ∷ select m) (select m)

  pub select-from : {x : ℕ} (m : ℕ) → x ∈ select m → (x < m) × P x
  unfolding select
  select-from zero i = absurd (Memᴰ.not-nil i)
  select-from {x} (suc m) i = go (dec m) (select-from m) i
    where
      up : (x < m) × P x → (x < suc m) × P x
      up (lt, p) = (omega arith, p)

      go : (d : Dec (P m)) → (x ∈ select m → (x < m) × P x) → x ∈ ite d (m ∷ select m) (select m) → (x < suc m) × P x
      go (yes p) rest (Memᴰ.head e) = (omega arith, subst P (sym e) p)
      go (yes p) rest (Memᴰ.tail j) = up (rest j)
      go (no h) rest j = up (rest j)

  pub select-to : {x : ℕ} (m : ℕ) → x < m → P x → x ∈ select m
  unfolding select
  select-to zero lt p = absurd (omega arith)
  select-to {x} (suc m) lt p = go (dec m) (ℕ_discrete x m) λ l. select-to m l p
    where
      go : (d : Dec (P m)) → Dec (x ≡ m) → (x < m → x ∈ select m) → x ∈ ite d (m ∷ select m) (select m)
      go (yes h) (yes e) rest = Memᴰ.head e
      go (yes h) (no e) rest = Memᴰ.tail (rest (omega arith))
      go (no h) (yes e) rest = absurd (h (subst P e p))
      go (no h) (no e) rest = rest (omega arith)

  pub select-once : (m : ℕ) → Once (select m)
  unfolding select
  select-once zero = tt
  select-once (suc m) = go (dec m) (select-once m)
    where
      go : (d : Dec (P m)) → Once (select m) → Once (ite d (m ∷ select m) (select m))
      go (yes h) rest = (λ i. omega (arith, (select-from m i).0), rest)
      go (no h) rest = rest

  -- Whether some number below the bound has the property.
  pub some_below : (m : ℕ) → Dec ((x : ℕ) × (x < m) × P x)
  some_below zero = no λ h. omega (arith, h.1)
  some_below (suc m) = go (dec m) (some_below m)
    where
      go : Dec (P m) → Dec ((x : ℕ) × (x < m) × P x) → Dec ((x : ℕ) × (x < suc m) × P x)
      go (yes p) rest = yes (m, omega arith, p)
      go (no h) (yes (x, lt, p)) = yes (x, omega arith, p)
      go (no h) (no f) = no λ (x, lt, p). elim (ℕ_discrete x m)
          [ yes e ↦ h (subst P e p) | no e ↦ f (x, omega arith, p) ]
