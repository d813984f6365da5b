-- The lexicographic order of two numbers: by the place, and by the rank for items of one place.
use Prim.Native.Nat.{ℕ, ◌<◌}
use native.Mathlib.Decide.{ℕ_discrete, dec_lt}
use native.Mathlib.Omega.{arith}
use mathlib.Core.Logic.{◌⊎◌, inl, inr}
use mathlib.Core.Path.{◌≡◌}
use Rattle.order.proofs.Sort.{Strict}

-- By the place, and by the rank where the places are equal.
abbrev pub Earlier : {A : Type 0} → (A → ℕ) → (A → ℕ) → A → A → Type 0
Earlier place rank a b = (place a < place b) ⊎ ((place a ≡ place b) × (rank a < rank b))

module _ {A : Type 0} (place rank : A → ℕ) where
  earlier? : (a b : A) → Dec (Earlier place rank a b)
  earlier? a b = go (dec_lt (place a) (place b)) (ℕ_discrete (place a) (place b)) (dec_lt (rank a) (rank b))
    where
      go : Dec (place a < place b) → Dec (place a ≡ place b) → Dec (rank a < rank b) → Dec (Earlier place rank a b)
      go (yes p) q r = yes (inl p)
      go (no p) (yes q) (yes r) = yes (inr (q, r))
      go (no p) (yes q) (no r) = no λ h. elim h [ inl x ↦ p x | inr x ↦ r x.1 ]
      go (no p) (no q) r = no λ h. elim h [ inl x ↦ p x | inr x ↦ q x.0 ]

  earlier-asym : (a b : A) → Earlier place rank a b → ¬ Earlier place rank b a
  earlier-asym a b (inl p) (inl q) = omega arith
  earlier-asym a b (inl p) (inr (q, r)) = omega arith
  earlier-asym a b (inr (p, s)) (inl q) = omega arith
  earlier-asym a b (inr (p, s)) (inr (q, r)) = omega arith

  earlier-between : (a b c : A) → Earlier place rank a c → Earlier place rank a b ⊎ Earlier place rank b c
  earlier-between a b c h = go (dec_lt (place a) (place b)) (dec_lt (place b) (place c)) (dec_lt (rank a) (rank b)) h
    where
      go : Dec (place a < place b) → Dec (place b < place c) → Dec (rank a < rank b) → Earlier place rank a c
          → Earlier place rank a b ⊎ Earlier place rank b c
      go (yes p) q d r = inl (inl p)
      go (no p) (yes q) d r = inr (inl q)
      go (no p) (no q) d (inl r) = absurd (omega arith)
      go (no p) (no q) (yes d) (inr (r, s)) = inl (inr (omega arith, d))
      go (no p) (no q) (no d) (inr (r, s)) = inr (inr (omega arith, omega arith))

  pub earlier : Strict (Earlier place rank)
  earlier = record { dec = earlier?; asym = earlier-asym; between = earlier-between }
