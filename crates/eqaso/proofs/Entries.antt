-- The entries of a message, one for each node that it goes to, and which of the first k of them go to one node.
use Prim.Native.Nat.{ℕ, zero, suc, ◌-◌, ◌≤◌, ◌<◌}
use native.Mathlib.Nat.{zero-sub, sub-zero, suc-sub-suc}
use native.Mathlib.Omega.{arith}
use native.Mathlib.Decide.{ℕ_discrete, dec_le}
use mathlib.Core.Path.{◌≡◌, refl, ap, sym, ◌∙◌}
use mathlib.Core.Logic.{ite, if_pos, if_neg, ◌≢◌}
use mathlib.Core.Bool.{cond, decide}
use mathlib.Core.List.{List, [], ◌∷◌, ◌++◌}
use lib.ListN.{length, take, length-append}
use lib.Seq.{take-nil, take_all, take-append-le}
use Rattle.history.specs.Message.{Message}
use Rattle.history.specs.Event.{Sent, sent_to}
use Rattle.history.specs.Order.{OneTo}
use Rattle.algorithm.specs.Address.{Address, one, all, address}
use Rattle.algorithm.specs.Algorithm.{table}
use Rattle.algorithm.proofs.Meant.{by_number, whose-by, keep-by, pick}
use Rattle.eqaso.specs.Cluster.{entries_to, addressed}

-- Message m to node b.
abbrev pub entry : ℕ → Message → Sent
entry b m = record { to = b; message = m }

-- How many entries there are, and how many of them are enough for node b.
abbrev pub size : ℕ → Address → ℕ
size n (one to) = 1
size n all = n

abbrev pub enough : ℕ → Address → ℕ
enough b (one to) = 1
enough b all = b

pub enough-some : {n b : ℕ} (d : Address) → OneTo n b → (1 ≤ enough b d) × (enough b d ≤ size n d)
enough-some (one to) h = (omega arith, omega arith)
enough-some all h = h

-- Laws of lists.

pub take-append : {A : Type 0} (k : ℕ) (l r : List A) → take k (l ++ r) ≡ take k l ++ take (k - length l) r
take-append zero l r = rw (zero-sub (length l)) refl
take-append (suc k) [] r = rw (sub-zero (suc k)) refl
take-append (suc k) (x ∷ l) r = rw (suc-sub-suc k (length l)) (ap (λ z. x ∷ z) (take-append k l r))

pub length-table : {A : Type 0} (g : ℕ → A) (n : ℕ) → length (table g n) ≡ n
unfolding table
length-table g zero = refl
length-table g (suc n) =
    let e = length-append (table g n) (g (suc n) ∷ []) in let h = length-table g n in omega arith

pub take-table : {A : Type 0} (g : ℕ → A) (k n : ℕ) → k ≤ n → take k (table g n) ≡ table g k
unfolding table
take-table g zero zero h = refl
take-table g (suc k) zero h = absurd (omega arith)
take-table g k (suc n) h = go (ℕ_discrete k (suc n)) (take-table g k n)
  where
    go : Dec (k ≡ suc n) → (k ≤ n → take k (table g n) ≡ table g k) → take k (table g (suc n)) ≡ table g k
    go (yes e) less = rw e (take_all (suc n) (table g (suc n)) (rw (length-table g (suc n)) (omega arith)))
    go (no e) less =
        take-append-le k (table g n) (g (suc n) ∷ []) (rw (length-table g n) (omega arith)) ∙ less (omega arith)

-- What of a list of entries goes to node b.

pub sent_to-append : (b : ℕ) (l r : List Sent) → sent_to b (l ++ r) ≡ sent_to b l ++ sent_to b r
unfolding sent_to decide
sent_to-append b [] r = refl
sent_to-append b (s ∷ l) r = go (ℕ_discrete s.to b) (sent_to-append b l r)
  where
    go : (d : Dec (s.to ≡ b)) → sent_to b (l ++ r) ≡ sent_to b l ++ sent_to b r
        → cond (decide d) (s.message ∷ sent_to b (l ++ r)) (sent_to b (l ++ r))
        ≡ cond (decide d) (s.message ∷ sent_to b l) (sent_to b l) ++ sent_to b r
    go (yes h) e = ap (λ z. s.message ∷ z) e
    go (no h) e = e

to-this : {b : ℕ} (s : Sent) → s.to ≡ b → sent_to b (s ∷ []) ≡ s.message ∷ []
unfolding sent_to decide
to-this {b} s e = go (ℕ_discrete s.to b)
  where
    go : (d : Dec (s.to ≡ b)) → cond (decide d) (s.message ∷ []) [] ≡ s.message ∷ []
    go (yes h) = refl
    go (no h) = absurd (h e)

to-other : {b : ℕ} (s : Sent) → s.to ≢ b → sent_to b (s ∷ []) ≡ []
unfolding sent_to decide
to-other {b} s e = go (ℕ_discrete s.to b)
  where
    go : (d : Dec (s.to ≡ b)) → cond (decide d) (s.message ∷ []) [] ≡ []
    go (yes h) = absurd (e h)
    go (no h) = refl

-- A message that goes to 1 to n in turn.
module _ (m : Message) where
  abbrev turns : ℕ → List Sent
  turns n = table (λ j. entry j m) n

  turns-suc : (b n : ℕ) → sent_to b (turns (suc n)) ≡ sent_to b (turns n) ++ sent_to b (entry (suc n) m ∷ [])
  unfolding table
  turns-suc b n = sent_to-append b (turns n) (entry (suc n) m ∷ [])

  turns-none : (b n : ℕ) → n < b → sent_to b (turns n) ≡ []
  unfolding table sent_to
  turns-none b zero h = refl
  turns-none b (suc n) h =
      turns-suc b n ∙ rw (turns-none b n (omega arith), to-other {b = b} (entry (suc n) m) (omega arith)) refl

  turns-one : (b n : ℕ) → OneTo n b → sent_to b (turns n) ≡ m ∷ []
  turns-one b zero h = absurd (omega arith)
  turns-one b (suc n) h = turns-suc b n ∙ go (ℕ_discrete (suc n) b) (turns-one b n)
    where
      go : Dec (suc n ≡ b) → (OneTo n b → sent_to b (turns n) ≡ m ∷ [])
          → sent_to b (turns n) ++ sent_to b (entry (suc n) m ∷ []) ≡ m ∷ []
      go (yes e) less = rw (turns-none b n (omega arith), to-this (entry (suc n) m) e) refl
      go (no e) less = rw (less (h.0, omega arith), to-other (entry (suc n) m) e) refl

  turns-front : (b k n : ℕ) → OneTo n b → sent_to b (take k (turns n)) ≡ ite (dec_le b k) (m ∷ []) []
  turns-front b k n h = go (dec_le b k) (dec_le k n)
    where
      go : (d : Dec (b ≤ k)) → Dec (k ≤ n) → sent_to b (take k (turns n)) ≡ ite d (m ∷ []) []
      go (yes x) (yes y) = rw (take-table (λ j. entry j m) k n y) (turns-one b k (h.0, x))
      go (yes x) (no y) =
          rw (take_all k (turns n) (rw (length-table (λ j. entry j m) n) (omega arith))) (turns-one b n h)
      go (no x) y = rw (take-table (λ j. entry j m) k n (omega arith)) (turns-none b k (omega arith))

-- An answer.
answer-to : {P : Type 0} (d : Dec P) (m : Message) → cond (decide d) (m ∷ []) [] ≡ keep-by (by_number d) m []
unfolding decide
answer-to (yes h) m = refl
answer-to (no h) m = refl

answer-front : (b k : ℕ) (s : Sent) (l : List Message) → sent_to b (s ∷ []) ≡ l
    → sent_to b (take k (s ∷ [])) ≡ ite (dec_le 1 k) l []
unfolding sent_to
answer-front b zero s l e = sym (if_neg (dec_le 1 0) (omega arith) l [])
answer-front b (suc k) s l e = rw (take-nil k) (e ∙ sym (if_pos (dec_le 1 (suc k)) (omega arith) l []))

-- Of the first k entries of message m, those to node b.
pub one-front : (m : Message) (b k n : ℕ) → OneTo n b
    → sent_to b (take k (addressed n m)) ≡ ite (dec_le (enough b (address m)) k) (pick b (m ∷ [])) []
unfolding pick sent_to
one-front m b k n h = go (address m)
  where
    go : (d : Address)
        → sent_to b (take k (entries_to n m d)) ≡ ite (dec_le (enough b d) k) (keep-by (whose-by b d) m []) []
    go (one to) = answer-front b k (entry to m) _ (answer-to (ℕ_discrete to b) m)
    go all = turns-front m b k n h

pub length-addressed : (m : Message) (n : ℕ) → length (addressed n m) ≡ size n (address m)
length-addressed m n = go (address m)
  where
    go : (d : Address) → length (entries_to n m d) ≡ size n d
    go (one to) = refl
    go all = length-table (λ j. entry j m) n
