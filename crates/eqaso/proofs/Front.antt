-- How far an event lets a step's messages out towards one node: a front part of them. If one entry of a message is let
-- out, all entries of the messages before it are.
use Prim.Native.Nat.{ℕ, ◌+◌, ◌-◌, ◌≤◌}
use native.Mathlib.Nat.{sub-zero}
use native.Mathlib.Omega.{arith}
use native.Mathlib.Decide.{dec_le}
use mathlib.Core.Path.{◌≡◌, refl, ap, sym, subst, ◌∙◌}
use mathlib.Core.Logic.{◌⊎◌, inl, inr, ite, if_pos, if_neg}
use mathlib.Core.List.Memᴰ
use mathlib.Core.List.{List, [], ◌∷◌, ◌++◌, append-nil, append_assoc}
use lib.ListN.{length, take, length-append}
use lib.Seq.{take-nil, take-length}
use Rattle.logs.specs.Log.{◌∈◌, ◌⊑◌, here, push}
use Rattle.logs.proofs.Log.{push-append, push-up}
use Rattle.history.specs.Message.{Message}
use Rattle.history.specs.Event.{Extent, whole, cut, sent_to}
use Rattle.history.specs.Order.{OneTo}
use Rattle.algorithm.specs.Address.{address}
use Rattle.algorithm.proofs.Meant.{pick, pick-append}
use Rattle.eqaso.specs.Cluster.{addressed, entries, shortened}
use Rattle.eqaso.proofs.Entries.{size, enough, enough-some, one-front, length-addressed, take-append}
use Rattle.eqaso.proofs.Entries.{sent_to-append}

-- The front part of a list that its first k entries let out towards node b.
unfoldable pub first : (n k b : ℕ) → List Message → List Message
first n k b [] = []
first n k b (m ∷ l) = ite (dec_le (enough b (address m)) k) (m ∷ first n (k - size n (address m)) b l) []

first-none : (n b : ℕ) → OneTo n b → (l : List Message) → first n 0 b l ≡ []
unfolding first
first-none n b h [] = refl
first-none n b h (m ∷ l) =
    let some = enough-some (address m) h in if_neg (dec_le (enough b (address m)) 0) (omega arith) _ _

-- The cut by entries, as document 01 says it, is the cut by messages.
pub first-is : (n b : ℕ) → OneTo n b → (k : ℕ) (l : List Message)
    → sent_to b (take k (entries n l)) ≡ pick b (first n k b l)
unfolding first entries pick sent_to
first-is n b h k [] = rw (take-nil k) refl
first-is n b h k (m ∷ l) = ap (sent_to b) (take-append k (addressed n m) (entries n l))
    ∙ sent_to-append b (take k (addressed n m)) (take (k - length (addressed n m)) (entries n l))
    ∙ rw (length-addressed m n) (go (dec_le (enough b (address m)) k) (one-front m b k n h) (first-is n b h left l))
  where
    left : ℕ
    left = k - size n (address m)

    go : (d : Dec (enough b (address m) ≤ k)) {now later : List Message} → now ≡ ite d (pick b (m ∷ [])) []
        → later ≡ pick b (first n left b l) → now ++ later ≡ pick b (ite d (m ∷ first n left b l) [])
    go (yes x) e r = rw (e, r) (sym (pick-append b (m ∷ []) (first n left b l)))
    go (no x) e r =
        let some = enough-some (address m) h in
        let out : k - size n (address m) ≡ 0 = omega arith in
        rw (e, r) (ap (pick b) (ap (λ j. first n j b l) out ∙ first-none n b h l))

-- What the first k entries let out towards b is a front part.
first-front : (n k b : ℕ) (l : List Message) → (rest : List Message) × (l ≡ first n k b l ++ rest)
unfolding first
first-front n k b [] = ([], refl)
first-front n k b (m ∷ l) = go (dec_le (enough b (address m)) k) (first-front n left b l)
  where
    left : ℕ
    left = k - size n (address m)

    go : {P : Type 0} (d : Dec P) → (rest : List Message) × (l ≡ first n left b l ++ rest)
        → (rest : List Message) × (m ∷ l ≡ ite d (m ∷ first n left b l) [] ++ rest)
    go (yes h) (rest, e) = (rest, ap (λ z. m ∷ z) e)
    go (no h) later = (m ∷ l, refl)

-- How many entries a list of messages has.
unfoldable sizes : ℕ → List Message → ℕ
sizes n [] = 0
sizes n (m ∷ l) = size n (address m) + sizes n l

length-entries : (n : ℕ) (l : List Message) → length (entries n l) ≡ sizes n l
unfolding entries sizes
length-entries n [] = refl
length-entries n (m ∷ l) = rw (length-append, length-addressed m n, length-entries n l) refl

-- Where the entries of l are let out, all of l is let out towards every node; where no more than these are, nothing
-- after l is.
first_past : (n k b : ℕ) → OneTo n b → (l r : List Message) → sizes n l ≤ k
    → first n k b (l ++ r) ≡ l ++ first n (k - sizes n l) b r
unfolding first sizes
first_past n k b h [] r le = rw (sub-zero k) refl
first_past n k b h (m ∷ l) r le =
    let some = enough-some (address m) h in
    let less : k - size n (address m) - sizes n l ≡ k - (size n (address m) + sizes n l) = omega arith in
    if_pos (dec_le (enough b (address m)) k) (omega arith) _ _
    ∙ ap (λ z. m ∷ z) (rw (sym less) (first_past n (k - size n (address m)) b h l r (omega arith)))

first_short : (n k b : ℕ) → OneTo n b → (l r : List Message) → k ≤ sizes n l → first n k b (l ++ r) ≡ first n k b l
unfolding first sizes
first_short n k b h [] r le = let out : k ≡ 0 = omega arith in rw out (first-none n b h r)
first_short n k b h (m ∷ l) r le = ap (λ z. ite (dec_le (enough b (address m)) k) (m ∷ z) [])
    (first_short n (k - size n (address m)) b h l r (omega arith))

-- Which of a step's messages an event lets out towards node b.
abbrev pub front : ℕ → Extent → ℕ → List Message → List Message
front n whole b l = l
front n (cut k) b l = first n k b l

-- What is let out to b are the messages for b among these.
pub front-is : (n b : ℕ) → OneTo n b → (x : Extent) (l : List Message)
    → sent_to b (shortened x (entries n l)) ≡ pick b (front n x b l)
unfolding first
front-is n b h (cut k) l = first-is n b h k l
front-is n b h whole l = ap (sent_to b) (sym (take-length (entries n l)))
    ∙ first-is n b h (length (entries n l)) l ∙ ap (pick b) all
  where
    all : first n (length (entries n l)) b l ≡ l
    all = rw (length-entries n l) (subst (λ z. first n (sizes n l) b z ≡ z) (append-nil l)
        (first_past n (sizes n l) b h l [] (omega arith)))

-- A log grows by no more than the step's messages.
pub front-up : (n : ℕ) (x : Extent) (b : ℕ) (new l : List Message) → push (front n x b new) l ⊑ push new l
front-up n whole b new l = here
front-up n (cut k) b new l =
    let (rest, e) = first-front n k b new in
    subst (λ z. push (first n k b new) l ⊑ z) (sym (ap (λ z. push z l) e ∙ push-append (first n k b new) rest l))
    (push-up rest (push (first n k b new) l))

pub front-in : {m : Message} (n : ℕ) (x : Extent) (b : ℕ) (l : List Message) → m ∈ front n x b l → m ∈ l
front-in n whole b l i = i
front-in {m} n (cut k) b l i =
    let (rest, e) = first-front n k b l in subst (λ z. m ∈ z) (sym e) (Memᴰ.append_left rest i)

-- All of l is let out towards every node, or nothing but l towards any.
pub front-split : (n : ℕ) (x : Extent) (l r : List Message)
    → ((b : ℕ) (m : Message) → OneTo n b → m ∈ l → m ∈ front n x b (l ++ r))
    ⊎ ((b : ℕ) (m : Message) → OneTo n b → m ∈ front n x b (l ++ r) → m ∈ l)
front-split n whole l r = inl λ b m h i. Memᴰ.append_left r i
front-split n (cut k) l r = elim (dec_le (sizes n l) k) [
  | yes z ↦ inl λ b m h i. subst (λ y. m ∈ y) (sym (first_past n k b h l r z)) (Memᴰ.append_left _ i)
  | no z ↦ inr λ b m h i. front-in n (cut k) b l (subst (λ y. m ∈ y) (first_short n k b h l r (omega arith)) i)
]

-- Of two last messages the one before is let out towards every node, or the last one towards none.
pub front-last : (n : ℕ) (x : Extent) (l : List Message) (g w : Message)
    → ((b : ℕ) → OneTo n b → g ∈ front n x b (l ++ (g ∷ w ∷ [])))
    ⊎ ((b : ℕ) (m : Message) → OneTo n b → m ∈ front n x b (l ++ (g ∷ w ∷ [])) → m ∈ (l ++ (g ∷ [])))
front-last n x l g w = subst (λ z. ((b : ℕ) → OneTo n b → g ∈ front n x b z)
    ⊎ ((b : ℕ) (m : Message) → OneTo n b → m ∈ front n x b z → m ∈ (l ++ (g ∷ [])))) (append_assoc l (g ∷ []) (w ∷ []))
    (elim (front-split n x (l ++ (g ∷ [])) (w ∷ []))
    [ inl all ↦ inl λ b h. all b g h (Memᴰ.append_right l (Memᴰ.head refl)) | inr none ↦ inr none ])
