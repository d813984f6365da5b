-- Functions of a node changed at one node.
use Rattle.std.specs.Prelude.{ℕ, ◌≡◌}
use Rattle.std.proofs.Math.Decide.{ℕ_discrete}

module _ {ℓ} {A : Type ℓ} where
  abbrev pub upd-by : {j k : ℕ} → Dec (j ≡ k) → A → A → A
  upd-by (yes e) new old = new
  upd-by (no e) new old = old

  -- The function f, with v at k.
  unfoldable pub upd : (ℕ → A) → ℕ → A → ℕ → A
  upd f k v j = upd-by (ℕ_discrete j k) v (f j)

module _ {ℓ} {A : Type ℓ} where
  -- A change of a function of two nodes at one pair.
  unfoldable pub upd2 : (ℕ → ℕ → A) → ℕ → ℕ → A → ℕ → ℕ → A
  upd2 f i j v = upd f i (upd (f i) j v)
