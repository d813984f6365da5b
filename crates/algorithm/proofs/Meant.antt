-- Who a message is for: an answer for the node that asked, any other for all; and what of a list is for one node.
use Prim.Native.Nat.{ℕ}
use native.Mathlib.Decide.{ℕ_discrete}
use mathlib.Core.Path.{◌≡◌, refl, ap, subst, sym}
use mathlib.Core.Logic.{◌⊎◌, inl, inr, ◌≢◌}
use mathlib.Core.List.Memᴰ
use mathlib.Core.List.{List, [], ◌∷◌, ◌++◌}
use Rattle.logs.specs.Log.{◌∈◌}
use Rattle.history.specs.Message.{Message}
use Rattle.algorithm.specs.Address.{Address, one, all, address}

abbrev pub MeantBy : ℕ → Address → Type 0
MeantBy b (one to) = to ≡ b
MeantBy b all = Unit {0}

abbrev pub OthersBy : ℕ → Address → Type 0
OthersBy b (one to) = to ≢ b
OthersBy b all = ⊥

-- The message is for node b; it is for another node only.
abbrev pub Meant : ℕ → Message → Type 0
Meant b m = MeantBy b (address m)

abbrev pub Others : ℕ → Message → Type 0
Others b m = OthersBy b (address m)

abbrev pub by_number : {P : Type 0} → Dec P → P ⊎ (¬ P)
by_number (yes h) = inl h
by_number (no h) = inr h

abbrev pub whose-by : (b : ℕ) (d : Address) → MeantBy b d ⊎ OthersBy b d
whose-by b (one to) = by_number (ℕ_discrete to b)
whose-by b all = inl tt

abbrev pub whose : (b : ℕ) (m : Message) → Meant b m ⊎ Others b m
whose b m = whose-by b (address m)

not-both : (b : ℕ) (d : Address) → MeantBy b d → OthersBy b d → ⊥
not-both b all h o = elim o [ ]
not-both b (one to) h o = o h

abbrev pub keep-by : {P Q : Type 0} → P ⊎ Q → Message → List Message → List Message
keep-by (inl h) m l = m ∷ l
keep-by (inr h) m l = l

-- The messages for node b, in their order.
unfoldable pub pick : ℕ → List Message → List Message
pick b [] = []
pick b (m ∷ l) = keep-by (whose b m) m (pick b l)

pub pick-meant : (b : ℕ) (m : Message) (l : List Message) → Meant b m → pick b (m ∷ l) ≡ m ∷ pick b l
unfolding pick
pick-meant b m l h = go (whose b m)
  where
    go : (w : Meant b m ⊎ Others b m) → keep-by w m (pick b l) ≡ m ∷ pick b l
    go (inl x) = refl
    go (inr o) = absurd (not-both b (address m) h o)

pub pick-others : (b : ℕ) (m : Message) (l : List Message) → Others b m → pick b (m ∷ l) ≡ pick b l
unfolding pick
pick-others b m l o = go (whose b m)
  where
    go : (w : Meant b m ⊎ Others b m) → keep-by w m (pick b l) ≡ pick b l
    go (inl h) = absurd (not-both b (address m) h o)
    go (inr x) = refl

pub pick-append : (b : ℕ) (l r : List Message) → pick b (l ++ r) ≡ pick b l ++ pick b r
unfolding pick
pick-append b [] r = refl
pick-append b (m ∷ l) r = go (whose b m) (pick-append b l r)
  where
    go : (w : Meant b m ⊎ Others b m) → pick b (l ++ r) ≡ pick b l ++ pick b r
        → keep-by w m (pick b (l ++ r)) ≡ keep-by w m (pick b l) ++ pick b r
    go (inl h) e = ap (λ x. m ∷ x) e
    go (inr o) e = e

pub pick-in : (b : ℕ) {m : Message} (l : List Message) → m ∈ pick b l → (m ∈ l) × Meant b m
unfolding pick
pick-in b {m} [] i = elim i [ ]
pick-in b {m} (x ∷ l) i = go (whose b x) i (pick-in b l)
  where
    go : (w : Meant b x ⊎ Others b x) → m ∈ keep-by w x (pick b l) → (m ∈ pick b l → (m ∈ l) × Meant b m)
        → (m ∈ (x ∷ l)) × Meant b m
    go (inl h) (Memᴰ.head e) rest = (Memᴰ.head e, subst (Meant b) (sym e) h)
    go (inl h) (Memᴰ.tail j) rest = let (k, z) = rest j in (Memᴰ.tail k, z)
    go (inr o) j rest = let (k, z) = rest j in (Memᴰ.tail k, z)

pub pick-of : (b : ℕ) {m : Message} {l : List Message} → m ∈ l → Meant b m → m ∈ pick b l
pick-of b {m} (Memᴰ.head {x} {xs} e) h =
    subst (λ z. m ∈ z) (sym (pick-meant b x xs (subst (Meant b) e h))) (Memᴰ.head e)
pick-of b {m} (Memᴰ.tail {x} {xs} i) h = go (whose b x) (pick-of b i h)
  where
    go : Meant b x ⊎ Others b x → m ∈ pick b xs → m ∈ pick b (x ∷ xs)
    go (inl y) j = subst (λ z. m ∈ z) (sym (pick-meant b x xs y)) (Memᴰ.tail j)
    go (inr o) j = subst (λ z. m ∈ z) (sym (pick-others b x xs o)) j
