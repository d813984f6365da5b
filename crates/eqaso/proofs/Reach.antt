-- Who the messages in the list of an event go to: an answer to the node that asked, any other to nodes.
use Prim.Native.Nat.{ℕ, zero, suc}
use native.Mathlib.Omega.{arith}
use native.Mathlib.Decide.{ℕ_discrete}
use mathlib.Core.Path.{◌≡◌, sym, subst, ap}
use mathlib.Core.Logic.{inl, inr}
use mathlib.Core.Bool.{cond, decide}
use mathlib.Core.List.Memᴰ
use mathlib.Core.List.{List, [], ◌∷◌}
use lib.ListN.{drop, take-append-drop}
use Rattle.logs.specs.Log.{◌∈◌}
use Rattle.history.specs.Message.{Message}
use Rattle.history.specs.Event.{Extent, whole, cut, Sent, sent_to}
use Rattle.history.specs.Order.{OneTo}
use Rattle.algorithm.specs.Address.{Address, one, all, address}
use Rattle.algorithm.specs.Algorithm.{table}
use Rattle.eqaso.specs.Cluster.{entries_to, addressed, entries, shortened}
use Rattle.eqaso.proofs.Entries.{entry}

-- A message may go to node b.
abbrev ReachesBy : ℕ → ℕ → Address → Type 0
ReachesBy n b (one to) = to ≡ b
ReachesBy n b all = OneTo n b

abbrev pub Reaches : ℕ → ℕ → Message → Type 0
Reaches n b m = ReachesBy n b (address m)

abbrev pub Entered : ℕ → Sent → Type 0
Entered n s = Reaches n s.to s.message

table-in : {A : Type 0} {x : A} (g : ℕ → A) (n : ℕ) → x ∈ table g n → (j : ℕ) × OneTo n j × (x ≡ g j)
unfolding table
table-in g zero i = elim i [ ]
table-in g (suc n) i = elim (Memᴰ.append_cases (table g n) i) [
  | inl old ↦ (let (j, h, e) = table-in g n old in (j, (h.0, omega arith), e))
  | inr last ↦ (suc n, (omega arith, omega arith), Memᴰ.eq_of_singleton last)
]

addressed-in : {s : Sent} (n : ℕ) (m : Message) (d : Address) → s ∈ entries_to n m d
    → (s.message ≡ m) × ReachesBy n s.to d
addressed-in n m (one to) i = let e = Memᴰ.eq_of_singleton i in (ap (λ z. z.message) e, ap (λ z. z.to) (sym e))
addressed-in n m all i = let (k, h, e) = table-in (λ j. entry j m) n i in
    (ap (λ z. z.message) e, subst (λ z. OneTo n z.to) (sym e) h)

addressed-reach : {s : Sent} (n : ℕ) (m : Message) → s ∈ addressed n m → Entered n s
addressed-reach {s} n m i = let (e, h) = addressed-in n m (address m) i in
    subst (λ z. ReachesBy n s.to (address z)) (sym e) h

entries-reach : {s : Sent} (n : ℕ) (l : List Message) → s ∈ entries n l → Entered n s
unfolding entries
entries-reach n [] i = elim i [ ]
entries-reach n (m ∷ l) i = elim (Memᴰ.append_cases (addressed n m) i)
    [ inl h ↦ addressed-reach n m h | inr h ↦ entries-reach n l h ]

-- An entry is one of a message of the list.
entries-among : {s : Sent} (n : ℕ) (l : List Message) → s ∈ entries n l → s.message ∈ l
unfolding entries
entries-among n [] i = elim i [ ]
entries-among n (m ∷ l) i = elim (Memᴰ.append_cases (addressed n m) i) [
  | inl h ↦ Memᴰ.head (addressed-in n m (address m) h).0
  | inr h ↦ Memᴰ.tail (entries-among n l h)
]

let_out-in : {s : Sent} (x : Extent) (l : List Sent) → s ∈ shortened x l → s ∈ l
let_out-in whole l i = i
let_out-in {s} (cut k) l i = subst (λ z. s ∈ z) (take-append-drop k l) (Memᴰ.append_left (drop k l) i)

pub sent_to-in : {m : Message} (b : ℕ) (l : List Sent) → m ∈ sent_to b l → entry b m ∈ l
unfolding sent_to decide
sent_to-in b [] i = elim i [ ]
sent_to-in {m} b (s ∷ l) i = go (ℕ_discrete s.to b) i (sent_to-in b l)
  where
    go : (d : Dec (s.to ≡ b)) → m ∈ cond (decide d) (s.message ∷ sent_to b l) (sent_to b l)
        → (m ∈ sent_to b l → entry b m ∈ l) → entry b m ∈ (s ∷ l)
    go (yes e) (Memᴰ.head h) rest = Memᴰ.head (subst (λ z. entry z m ≡ s) e (ap (entry s.to) h))
    go (yes e) (Memᴰ.tail j) rest = Memᴰ.tail (rest j)
    go (no e) j rest = Memᴰ.tail (rest j)

pub sent_to-of : {s : Sent} {l : List Sent} → s ∈ l → s.message ∈ sent_to s.to l
unfolding sent_to decide
sent_to-of {s} (Memᴰ.head {x} {xs} e) = go (ℕ_discrete x.to s.to)
  where
    go : (d : Dec (x.to ≡ s.to)) → s.message ∈ cond (decide d) (x.message ∷ sent_to s.to xs) (sent_to s.to xs)
    go (yes h) = Memᴰ.head (ap (λ z. z.message) e)
    go (no h) = absurd (h (ap (λ z. z.to) (sym e)))
sent_to-of {s} (Memᴰ.tail {x} {xs} i) = go (ℕ_discrete x.to s.to) (sent_to-of i)
  where
    go : (d : Dec (x.to ≡ s.to)) → s.message ∈ sent_to s.to xs
        → s.message ∈ cond (decide d) (x.message ∷ sent_to s.to xs) (sent_to s.to xs)
    go (yes h) j = Memᴰ.tail j
    go (no h) j = j

-- What goes to b in the list of an event may go to b.
pub sent-reach : {m : Message} (n b : ℕ) (x : Extent) (l : List Message) → m ∈ sent_to b (shortened x (entries n l))
    → Reaches n b m
sent-reach n b x l i = entries-reach n l (let_out-in x (entries n l) (sent_to-in b _ i))

-- It is a message of the list.
pub sent-among : {m : Message} (n b : ℕ) (x : Extent) (l : List Message) → m ∈ sent_to b (shortened x (entries n l))
    → m ∈ l
sent-among n b x l i = entries-among n l (let_out-in x (entries n l) (sent_to-in b _ i))
