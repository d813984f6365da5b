-- Logs that only grow. A log is a list, newest first; what it was earlier is a tail of it, and a fact about an earlier
-- log is a fact about a fixed list, which needs no keeping.
use mathlib.Core.List.{List, [], ◌∷◌, Memᴰ}

module _ {ℓ} {A : Type ℓ} where
  infix 50 ◌∈◌
  infix 50 ◌⊑◌
  abbrev pub ◌∈◌ : A → List A → Type ℓ
  x ∈ l = Memᴰ x l

  -- The first log is an earlier state of the second.
  pub data ◌⊑◌ (l : List A) : List A → Type ℓ where
    here : l ⊑ l
    more : {x : A} {m : List A} → l ⊑ m → l ⊑ (x ∷ m)

  -- The log after the messages of a list, oldest first.
  abbrev pub push : List A → List A → List A
  push [] l = l
  push (x ∷ new) l = push new (x ∷ l)

-- Each message of a log has a property of it and of the log before it.
module _ {ℓ κ} {A : Type ℓ} (P : A → List A → Type κ) where
  abbrev pub Each : List A → Type κ
  Each [] = Unit {κ}
  Each (x ∷ l) = P x l × Each l
