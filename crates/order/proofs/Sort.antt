-- Insertion sort by a strict order in which items may tie.
use mathlib.Core.List.Memᴰ
use mathlib.Core.List.{List, [], ◌∷◌}
use mathlib.Core.Logic.{◌↔◌, ite, ◌⊎◌, inl, inr, ⊎_elim}
use mathlib.Core.Path.{◌≡◌, refl, sym, ◌∙◌, subst, subst₂}
use Rattle.logs.specs.Log.{◌∈◌}
use Rattle.order.specs.Sequence.{Once, before}

-- A strict order with ties: what is not earlier than b lies behind something that b is not behind.
pub record Strict {A : Type 0} (R : A → A → Type 0) : Type 0 where
  pub dec : (a b : A) → Dec (R a b)
  pub asym : (a b : A) → R a b → ¬ R b a
  pub between : (a b c : A) → R a c → R a b ⊎ R b c

-- No item is earlier than one that stands before it.
abbrev pub Sorted : {A : Type 0} → (A → A → Type 0) → List A → Type 0
Sorted R [] = Unit {0}
Sorted R (x ∷ l) = ((y : _) → y ∈ l → ¬ R y x) × Sorted R l

-- a goes into x ∷ l, where `rest` is l with a put in.
abbrev place : {A P : Type 0} → Dec P → A → A → List A → List A → List A
place (yes h) a x l rest = x ∷ rest
place (no h) a x l rest = a ∷ x ∷ l

module _ {A : Type 0} (R : A → A → Type 0) (o : Strict R) where
  insert : A → List A → List A
  insert a [] = a ∷ []
  insert a (x ∷ l) = place (o.dec x a) a x l (insert a l)

  pub sort : List A → List A
  sort [] = []
  sort (x ∷ l) = insert x (sort l)

  insert-from : {a b : A} (l : List A) → b ∈ insert a l → (b ≡ a) ⊎ (b ∈ l)
  unfolding insert
  insert-from [] (Memᴰ.head e) = inl e
  insert-from [] (Memᴰ.tail h) = elim h [ ]
  insert-from {a} {b} (x ∷ l) m = go (o.dec x a) (insert-from l) m
    where
      up : (b ≡ a) ⊎ (b ∈ l) → (b ≡ a) ⊎ (b ∈ (x ∷ l))
      up (inl e) = inl e
      up (inr i) = inr (Memᴰ.tail i)

      go : {P : Type 0} (d : Dec P) → (b ∈ insert a l → (b ≡ a) ⊎ (b ∈ l)) → b ∈ place d a x l (insert a l)
          → (b ≡ a) ⊎ (b ∈ (x ∷ l))
      go (yes h) rest (Memᴰ.head e) = inr (Memᴰ.head e)
      go (yes h) rest (Memᴰ.tail i) = up (rest i)
      go (no h) rest (Memᴰ.head e) = inl e
      go (no h) rest (Memᴰ.tail i) = inr i

  insert-new : (a : A) (l : List A) → a ∈ insert a l
  unfolding insert
  insert-new a [] = Memᴰ.head refl
  insert-new a (x ∷ l) = go (o.dec x a) (insert-new a l)
    where
      go : {P : Type 0} (d : Dec P) → a ∈ insert a l → a ∈ place d a x l (insert a l)
      go (yes h) rest = Memᴰ.tail rest
      go (no h) rest = Memᴰ.head refl

  insert-old : (a : A) {b : A} (l : List A) → b ∈ l → b ∈ insert a l
  unfolding insert
  insert-old a [] m = elim m [ ]
  insert-old a {b} (x ∷ l) m = go (o.dec x a) (insert-old a l) m
    where
      go : {P : Type 0} (d : Dec P) → (b ∈ l → b ∈ insert a l) → b ∈ (x ∷ l) → b ∈ place d a x l (insert a l)
      go (yes h) rest (Memᴰ.head e) = Memᴰ.head e
      go (yes h) rest (Memᴰ.tail i) = Memᴰ.tail (rest i)
      go (no h) rest i = Memᴰ.tail i

  insert-once : (a : A) (l : List A) → ¬ (a ∈ l) → Once l → Once (insert a l)
  unfolding insert
  insert-once a [] new w = (new, tt)
  insert-once a (x ∷ l) new (out, once) =
      go (o.dec x a) (insert-once a l (λ i. new (Memᴰ.tail i)) once)
    where
      apart : (x ≡ a) ⊎ (x ∈ l) → ⊥
      apart (inl e) = new (Memᴰ.head (sym e))
      apart (inr i) = out i

      go : {P : Type 0} (d : Dec P) → Once (insert a l) → Once (place d a x l (insert a l))
      go (yes h) rest = (λ i. apart (insert-from l i), rest)
      go (no h) rest = (new, (out, once))

  insert-sorted : (a : A) (l : List A) → Sorted R l → Sorted R (insert a l)
  unfolding insert
  insert-sorted a [] s = (λ y i. absurd (Memᴰ.not-nil i), tt)
  insert-sorted a (x ∷ l) (late, s) = go (o.dec x a) (insert-sorted a l s)
    where
      after : (y : A) → R x a → (y ≡ a) ⊎ (y ∈ l) → ¬ R y x
      after y h (inl e) r = o.asym x a h (subst (λ z. R z x) e r)
      after y h (inr i) r = late y i r

      behind : (y : A) → ¬ R x a → y ∈ (x ∷ l) → ¬ R y a
      behind y h (Memᴰ.head e) r = h (subst (λ z. R z a) e r)
      behind y h (Memᴰ.tail i) r = ⊎_elim (late y i) h (o.between y x a r)

      go : (d : Dec (R x a)) → Sorted R (insert a l) → Sorted R (place d a x l (insert a l))
      go (yes h) rest = (λ y i. after y h (insert-from l i), rest)
      go (no h) rest = (λ y i. behind y h i, (late, s))

  pub sort-members : (l : List A) (a : A) → (a ∈ sort l) ↔ (a ∈ l)
  unfolding sort
  sort-members [] a = (λ i. i, λ i. i)
  sort-members (x ∷ l) a = (λ i. from (sort-members l a).0 (insert-from (sort l) i), to (sort-members l a).1)
    where
      from : (a ∈ sort l → a ∈ l) → (a ≡ x) ⊎ (a ∈ sort l) → a ∈ (x ∷ l)
      from rest (inl e) = Memᴰ.head e
      from rest (inr i) = Memᴰ.tail (rest i)

      to : (a ∈ l → a ∈ sort l) → a ∈ (x ∷ l) → a ∈ insert x (sort l)
      to rest (Memᴰ.head e) = subst (λ z. z ∈ insert x (sort l)) (sym e) (insert-new x (sort l))
      to rest (Memᴰ.tail i) = insert-old x (sort l) (rest i)

  pub sort-once : (l : List A) → Once l → Once (sort l)
  unfolding sort
  sort-once [] w = tt
  sort-once (x ∷ l) (new, once) =
      insert-once x (sort l) (λ i. new ((sort-members l x).0 i)) (sort-once l once)

  pub sort_sorted : (l : List A) → Sorted R (sort l)
  unfolding sort
  sort_sorted [] = tt
  sort_sorted (x ∷ l) = insert-sorted x (sort l) (sort_sorted l)

  -- In a sorted list the earlier of two items stands before the other.
  pub sorted-ahead : (same : Discrete A) {a b : A} (l : List A) → Sorted R l → a ∈ l → b ∈ l → R a b
      → a ∈ before same b l
  unfolding before
  sorted-ahead same [] _ i j r = elim i [ ]
  sorted-ahead same {a} {b} (x ∷ l) (late, s) i j r = go (same x b) (sorted-ahead same l s) i j
    where
      go : (d : Dec (x ≡ b)) → (a ∈ l → b ∈ l → R a b → a ∈ before same b l) → a ∈ (x ∷ l) → b ∈ (x ∷ l)
          → a ∈ ite d [] (x ∷ before same b l)
      go (yes e) rest (Memᴰ.head p) k = absurd (o.asym a b r (subst₂ R (p ∙ e) (sym e ∙ sym p) r))
      go (yes e) rest (Memᴰ.tail p) k = absurd (late a p (subst (R a) (sym e) r))
      go (no e) rest (Memᴰ.head p) k = Memᴰ.head p
      go (no e) rest (Memᴰ.tail p) (Memᴰ.head q) = absurd (e (sym q))
      go (no e) rest (Memᴰ.tail p) (Memᴰ.tail q) = Memᴰ.tail (rest p q r)
