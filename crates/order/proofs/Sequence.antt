-- Laws of the part before an item, and of the last item of a kind.
use mathlib.Core.List.Memᴰ
use mathlib.Core.List.{List, [], ◌∷◌}
use mathlib.Core.Logic.{ite, ◌⊎◌, inl, inr}
use mathlib.Core.Path.{◌≡◌, sym, ◌∙◌, subst}
use Rattle.logs.specs.Log.{◌∈◌}
use Rattle.order.specs.Sequence.{Once, before, Last, here, later}

module _ {A : Type 0} (same : Discrete A) where
  pub before-in : {a : A} (x : A) (l : List A) → a ∈ before same x l → a ∈ l
  unfolding before
  before-in x [] m = m
  before-in {a} x (y ∷ l) m = go (same y x) (before-in x l) m
    where
      go : (d : Dec (y ≡ x)) → (a ∈ before same x l → a ∈ l) → a ∈ ite d [] (y ∷ before same x l) → a ∈ (y ∷ l)
      go (yes _) rest h = elim h [ ]
      go (no e) rest (Memᴰ.head p) = Memᴰ.head p
      go (no e) rest (Memᴰ.tail p) = Memᴰ.tail (rest p)

  pub before-once : (x : A) (l : List A) → Once l → Once (before same x l)
  unfolding before
  before-once x [] o = tt
  before-once x (y ∷ l) (new, once) = go (same y x) (before-once x l once)
    where
      go : (d : Dec (y ≡ x)) → Once (before same x l) → Once (ite d [] (y ∷ before same x l))
      go (yes e) rest = tt
      go (no e) rest = (λ m. new (before-in x l m), rest)

  -- Of two items not each stands before the other.
  pub before-asym : {a b : A} (l : List A) → a ∈ before same b l → ¬ (b ∈ before same a l)
  unfolding before
  before-asym [] m n = elim m [ ]
  before-asym {a} {b} (y ∷ l) m n = go (same y b) (same y a) (before-asym l) m n
    where
      go : (d : Dec (y ≡ b)) (e : Dec (y ≡ a)) → (a ∈ before same b l → ¬ (b ∈ before same a l))
          → a ∈ ite d [] (y ∷ before same b l) → ¬ (b ∈ ite e [] (y ∷ before same a l))
      go (no d) (yes _) rest _ q = elim q [ ]
      go (yes _) e rest h q = elim h [ ]
      go (no d) (no e) rest (Memᴰ.head p) q = e (sym p)
      go (no d) (no e) rest (Memᴰ.tail p) (Memᴰ.head q) = d (sym q)
      go (no d) (no e) rest (Memᴰ.tail p) (Memᴰ.tail q) = rest p q

  -- What stands before u in the list does so in a part that has u.
  pub before-within : {a u : A} (s : A) (l : List A) → u ∈ before same s l → a ∈ before same u l
      → a ∈ before same u (before same s l)
  unfolding before
  before-within s [] m n = elim m [ ]
  before-within {a} {u} s (y ∷ l) m n = go (same y s) (before-within s l) m n
    where
      under : (e : Dec (y ≡ u)) → (u ∈ before same s l → a ∈ before same u l → a ∈ before same u (before same s l))
          → u ∈ (y ∷ before same s l) → a ∈ ite e [] (y ∷ before same u l)
          → a ∈ ite e [] (y ∷ before same u (before same s l))
      under (yes _) rest _ q = elim q [ ]
      under (no e) rest (Memᴰ.head p) q = absurd (e (sym p))
      under (no e) rest (Memᴰ.tail p) (Memᴰ.head q) = Memᴰ.head q
      under (no e) rest (Memᴰ.tail p) (Memᴰ.tail q) = Memᴰ.tail (rest p q)

      go : (d : Dec (y ≡ s))
          → (u ∈ before same s l → a ∈ before same u l → a ∈ before same u (before same s l))
          → u ∈ ite d [] (y ∷ before same s l) → a ∈ ite (same y u) [] (y ∷ before same u l)
          → a ∈ before same u (ite d [] (y ∷ before same s l))
      go (yes _) rest p q = elim p [ ]
      go (no d) rest p q = under (same y u) rest p q

  -- Standing before is transitive.
  pub before-trans : {a u : A} (s : A) (l : List A) → a ∈ before same u l → u ∈ before same s l → a ∈ before same s l
  before-trans {a} {u} s l m n = before-in u (before same s l) (before-within s l n m)

  -- An item that all others of its kind stand before is the last of them.
  pub last_of : {P : A → Type 0} {u : A} (l : List A) → u ∈ l → P u → Once l
      → ((v : A) → v ∈ l → P v → (v ≡ u) ⊎ (v ∈ before same u l)) → Last P u l
  unfolding before
  last_of [] m p _ others = elim m [ ]
  last_of {P} {u} (y ∷ l) m p (new, once) others = go (same y u) (last_of l) m others
    where
      gone : (v : A) → v ∈ l → y ≡ u → (v ≡ u) ⊎ (v ∈ []) → ⊥
      gone v j e (inl h) = new (subst (λ z. z ∈ l) (h ∙ sym e) j)
      gone v j e (inr h) = elim h [ ]

      left : (v : A) → v ∈ l → (v ≡ u) ⊎ (v ∈ (y ∷ before same u l)) → (v ≡ u) ⊎ (v ∈ before same u l)
      left v j (inl h) = inl h
      left v j (inr (Memᴰ.head h)) = absurd (new (subst (λ z. z ∈ l) h j))
      left v j (inr (Memᴰ.tail k)) = inr k

      go : (d : Dec (y ≡ u))
          → (u ∈ l → P u → Once l → ((v : A) → v ∈ l → P v → (v ≡ u) ⊎ (v ∈ before same u l)) → Last P u l)
          → u ∈ (y ∷ l)
          → ((v : A) → v ∈ (y ∷ l) → P v → (v ≡ u) ⊎ (v ∈ ite d [] (y ∷ before same u l))) → Last P u (y ∷ l)
      go (yes e) rest i f = here e p λ v j q. gone v j e (f v (Memᴰ.tail j) q)
      go (no e) rest (Memᴰ.head i) f = absurd (e (sym i))
      go (no e) rest (Memᴰ.tail i) f = later (rest i p once λ v j q. left v j (f v (Memᴰ.tail j) q))
