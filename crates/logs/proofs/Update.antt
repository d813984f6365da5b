-- Laws of a function changed at one node.
use Prim.Native.Nat.{ℕ}
use native.Mathlib.Decide.{ℕ_discrete}
use mathlib.Core.Path.{◌≡◌, refl, sym, subst, fun_ext}
use mathlib.Core.Logic.{◌⊎◌, inl, inr, ◌≢◌}
use Rattle.logs.specs.Update.{upd-by, upd, upd2}

module _ {ℓ} {A : Type ℓ} where
  same_by : {j k : ℕ} (d : Dec (j ≡ k)) (new old : A) → j ≡ k → upd-by d new old ≡ new
  same_by (yes e) new old h = refl
  same_by (no e) new old h = absurd (e h)

  other-by : {j k : ℕ} (d : Dec (j ≡ k)) (new old : A) → j ≢ k → upd-by d new old ≡ old
  other-by (yes e) new old h = absurd (h e)
  other-by (no e) new old h = refl

  pub upd_same : (f : ℕ → A) (k : ℕ) (v : A) → upd f k v k ≡ v
  unfolding upd
  upd_same f k v = same_by (ℕ_discrete k k) v (f k) refl

  pub upd_other : (f : ℕ → A) (k : ℕ) (v : A) (j : ℕ) → j ≢ k → upd f k v j ≡ f j
  unfolding upd
  upd_other f k v j h = other-by (ℕ_discrete j k) v (f j) h

  -- What holds of the new value at k and of the old ones elsewhere holds everywhere.
  pub upd-all {κ} : (P : ℕ → A → Type κ) (f : ℕ → A) (k : ℕ) (v : A) → ((j : ℕ) → j ≢ k → P j (f j)) → P k v
      → (j : ℕ) → P j (upd f k v j)
  unfolding upd
  upd-all P f k v old new j = go (ℕ_discrete j k)
    where
      go : (d : Dec (j ≡ k)) → P j (upd-by d v (f j))
      go (yes e) = subst (λ x. P x v) (sym e) new
      go (no e) = old j e

  -- What a node has already changes nothing.
  pub upd-self : (f : ℕ → A) (k : ℕ) → upd f k (f k) ≡ f
  upd-self f k = fun_ext (upd-all (λ j x. x ≡ f j) f k (f k) (λ j h. refl) refl)

  -- Of two changes at one node the last one stays.
  pub upd-twice : (f : ℕ → A) (k : ℕ) (v w : A) → upd (upd f k v) k w ≡ upd f k w
  upd-twice f k v w = fun_ext (upd-all (λ j x. x ≡ upd f k w j) (upd f k v) k w
      (λ j h. rw (upd_other f k v j h, upd_other f k w j h) refl) (sym (upd_same f k w)))

-- A part of what each node has.
pub upd-map {ℓ ℓ'} : {A : Type ℓ} {B : Type ℓ'} (g : A → B) (f : ℕ → A) (k : ℕ) (v : A)
    → (λ j. g (upd f k v j)) ≡ upd (λ j. g (f j)) k (g v)
unfolding upd
upd-map g f k v = fun_ext λ j. go (ℕ_discrete j k)
  where
    go : {j : ℕ} (d : Dec (j ≡ k)) → g (upd-by d v (f j)) ≡ upd-by d (g v) (g (f j))
    go (yes e) = refl
    go (no e) = refl

module _ {ℓ} {A : Type ℓ} where
  pub upd2-same : (f : ℕ → ℕ → A) (i j : ℕ) (v : A) → upd2 f i j v i j ≡ v
  unfolding upd2
  upd2-same f i j v = rw (upd_same f i (upd (f i) j v)) (upd_same (f i) j v)

  pub upd2-other : (f : ℕ → ℕ → A) (i j : ℕ) (v : A) (a b : ℕ) → (a ≢ i) ⊎ (b ≢ j) → upd2 f i j v a b ≡ f a b
  unfolding upd2
  upd2-other f i j v a b (inl h) = rw (upd_other f i (upd (f i) j v) a h) refl
  upd2-other f i j v a b (inr h) = go (ℕ_discrete a i)
    where
      go : Dec (a ≡ i) → upd f i (upd (f i) j v) a b ≡ f a b
      go (yes e) = subst (λ z. upd f i (upd (f i) j v) z b ≡ f z b) (sym e)
          (rw (upd_same f i (upd (f i) j v)) (upd_other (f i) j v b h))
      go (no e) = rw (upd_other f i (upd (f i) j v) a e) refl

module _ {ℓ ℓ'} {A : Type ℓ} {B : Type ℓ'} where
  -- The same of two functions that change at one node.
  pub upd-both {κ} : (P : ℕ → A → B → Type κ) (f : ℕ → A) (g : ℕ → B) (k : ℕ) (v : A) (w : B)
      → ((j : ℕ) → j ≢ k → P j (f j) (g j)) → P k v w → (j : ℕ) → P j (upd f k v j) (upd g k w j)
  unfolding upd
  upd-both P f g k v w old new j = go (ℕ_discrete j k)
    where
      go : (d : Dec (j ≡ k)) → P j (upd-by d v (f j)) (upd-by d w (g j))
      go (yes e) = subst (λ x. P x v w) (sym e) new
      go (no e) = old j e

  -- What holds at the changed pair of two functions, and held at every pair before, holds everywhere.
  pub upd2-both {κ} : (P : ℕ → ℕ → A → B → Type κ) (f : ℕ → ℕ → A) (g : ℕ → ℕ → B) (i j : ℕ) (v : A) (w : B)
      → ((a b : ℕ) → P a b (f a b) (g b a)) → P i j v w → (a b : ℕ) → P a b (upd2 f i j v a b) (upd2 g j i w b a)
  upd2-both P f g i j v w old new a b = go (ℕ_discrete a i) (ℕ_discrete b j)
    where
      at : P i j (upd2 f i j v i j) (upd2 g j i w j i)
      at = rw (upd2-same f i j v, upd2-same g j i w) new

      go : Dec (a ≡ i) → Dec (b ≡ j) → P a b (upd2 f i j v a b) (upd2 g j i w b a)
      go (yes e) (yes h) = subst (λ z. P z b (upd2 f i j v z b) (upd2 g j i w b z)) (sym e)
          (subst (λ z. P i z (upd2 f i j v i z) (upd2 g j i w z i)) (sym h) at)
      go (yes e) (no h) = rw (upd2-other f i j v a b (inr h), upd2-other g j i w b a (inl h)) (old a b)
      go (no e) h = rw (upd2-other f i j v a b (inl e), upd2-other g j i w b a (inr e)) (old a b)
