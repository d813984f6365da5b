-- Laws of logs: earlier states, places of messages, and what a list of messages adds.
use mathlib.Core.Path.{◌≡◌, refl, sym, subst}
use mathlib.Core.Logic.{◌⊎◌, inl, inr}
use mathlib.Core.List.Memᴰ
use mathlib.Core.List.{List, [], ◌∷◌, ◌++◌}
use Rattle.logs.specs.Log.{◌∈◌, ◌⊑◌, here, more, push, Each}

module _ {ℓ} {A : Type ℓ} where
  pub nil-⊑ : (l : List A) → [] ⊑ l
  nil-⊑ [] = here
  nil-⊑ (x ∷ l) = more (nil-⊑ l)

  pub ⊑_trans : {a b c : List A} → a ⊑ b → b ⊑ c → a ⊑ c
  ⊑_trans p here = p
  ⊑_trans p (more q) = more (⊑_trans p q)

  pub ⊑-cons : {x : A} {a b : List A} → (x ∷ a) ⊑ b → a ⊑ b
  ⊑-cons p = ⊑_trans (more here) p

  pub mem_up : {x : A} {a b : List A} → a ⊑ b → x ∈ a → x ∈ b
  mem_up here m = m
  mem_up (more p) m = Memᴰ.tail (mem_up p m)

  -- Of two earlier states of one log, one is earlier.
  pub comparable : {a b c : List A} → a ⊑ c → b ⊑ c → (a ⊑ b) ⊎ (b ⊑ a)
  comparable here q = inr q
  comparable {a} {b = e} (more {x} {m} p) q = go q (λ b. comparable {b = b} p)
    where
      go : {b : List A} → b ⊑ (x ∷ m) → ((d : List A) → d ⊑ m → (a ⊑ d) ⊎ (d ⊑ a)) → (a ⊑ b) ⊎ (b ⊑ a)
      go here h = inl (more p)
      go (more q) h = h _ q

  -- Of two earlier states of one log, what has not a member of the other is the earlier one.
  pub earlier : {x : A} {a b c : List A} → a ⊑ c → b ⊑ c → x ∈ b → ¬ (x ∈ a) → a ⊑ b
  earlier p q m h = elim (comparable p q) [ inl r ↦ r | inr r ↦ absurd (h (mem_up r m)) ]

  -- Where a member came into the log: the log before it.
  pub place : {x : A} {l : List A} → x ∈ l → (p : List A) × ((x ∷ p) ⊑ l)
  place (Memᴰ.head {x = y} {xs} e) = (xs, subst (λ z. (z ∷ xs) ⊑ (y ∷ xs)) (sym e) here)
  place (Memᴰ.tail m) = let (p, q) = place m in (p, more q)

  pub placed : {x : A} {p l : List A} → (x ∷ p) ⊑ l → x ∈ l
  placed q = mem_up q (Memᴰ.head refl)

  -- An earlier state of a log that has one message more: the new log itself, or an earlier state of the old one.
  pub cons-or : {x y : A} {a b : List A} → (x ∷ a) ⊑ (y ∷ b) → ((x ≡ y) × (a ≡ b)) ⊎ ((x ∷ a) ⊑ b)
  cons-or here = inl (refl, refl)
  cons-or (more p) = inr p

  -- An earlier state of a log without a message that came into it is a state of before that message.
  pub before-it : {x : A} {a b c : List A} → (x ∷ a) ⊑ c → b ⊑ c → ¬ (x ∈ b) → b ⊑ a
  before-it {x} {a} {b} p q h = go (comparable p q)
    where
      step : {d : List A} → ¬ (x ∈ d) → d ⊑ (x ∷ a) → d ⊑ a
      step k here = absurd (k (Memᴰ.head refl))
      step k (more r) = r

      go : ((x ∷ a) ⊑ b) ⊎ (b ⊑ (x ∷ a)) → b ⊑ a
      go (inl r) = absurd (h (placed r))
      go (inr r) = step h r

  pub push-append : (a b l : List A) → push (a ++ b) l ≡ push b (push a l)
  push-append [] b l = refl
  push-append (x ∷ a) b l = push-append a b (x ∷ l)

  pub push-up : (new l : List A) → l ⊑ push new l
  push-up [] l = here
  push-up (x ∷ new) l = ⊑_trans (more here) (push-up new (x ∷ l))

  pub push-old : {x : A} (new : List A) {l : List A} → x ∈ l → x ∈ push new l
  push-old new m = mem_up (push-up new _) m

  pub push-new : {x : A} {new : List A} (l : List A) → x ∈ new → x ∈ push new l
  push-new l (Memᴰ.head {xs} e) = push-old xs (Memᴰ.head e)
  push-new l (Memᴰ.tail m) = push-new _ m

  pub push-or : {x : A} (new l : List A) → x ∈ push new l → (x ∈ new) ⊎ (x ∈ l)
  push-or {x} [] l m = inr m
  push-or {x} (y ∷ new) l m = go (push-or new (y ∷ l) m)
    where
      go : (x ∈ new) ⊎ (x ∈ (y ∷ l)) → (x ∈ (y ∷ new)) ⊎ (x ∈ l)
      go (inl h) = inl (Memᴰ.tail h)
      go (inr (Memᴰ.head e)) = inl (Memᴰ.head e)
      go (inr (Memᴰ.tail h)) = inr h

-- What each message of a log has, at a place of it and of an earlier state.
module _ {ℓ κ} {A : Type ℓ} (P : A → List A → Type κ) where
  pub each_at : {x : A} {p l : List A} → Each P l → (x ∷ p) ⊑ l → P x p
  each_at e here = e.0
  each_at e (more q) = each_at e.1 q

  pub each-up : {a b : List A} → a ⊑ b → Each P b → Each P a
  each-up here e = e
  each-up (more p) e = each-up p e.1

module _ {ℓ κ μ} {A : Type ℓ} {P : A → List A → Type κ} {R : A → List A → Type μ} where
  pub each_map : ((x : A) (p : List A) → P x p → R x p) → (l : List A) → Each P l → Each R l
  each_map h [] e = tt
  each_map h (x ∷ l) e = (h x l e.0, each_map h l e.1)
