-- What a message does at once, by its cases: a law for each part that decides something.
use Prim.Native.Nat.{ℕ, ◌≤◌, ◌<◌, max}
use native.Mathlib.Omega.{arith}
use native.Mathlib.Decide.{ℕ_discrete, dec_lt}
use mathlib.Core.Path.{◌≡◌, refl, sym, ◌∙◌}
use mathlib.Core.Logic.{ite}
use mathlib.Core.Bool.{Bool, true, false, true≢false, cond}
use mathlib.Core.List.{List, [], ◌∷◌}
use Rattle.logs.specs.Update.{upd}
use Rattle.logs.specs.Log.{◌∈◌}
use Rattle.history.specs.Message.{Value, echo, value}
use Rattle.history.specs.Event.{Operation, Round}
use Rattle.algorithm.specs.Algorithm.{Nodes, Wait, idle, reading, writing, comparing, borrowing, Node, Step}
use Rattle.algorithm.specs.Algorithm.{still, sending, with_wait, has, receive, raise, read_answered, write_answered}
use Rattle.algorithm.specs.Node.{topping, holding}
use Rattle.algorithm.proofs.Sets.{has-to, has_of}

-- The tag is above maxtag, or it is not.
pub raise-by : (Q : Step → Type 0) (t : ℕ) (ν : Node) → (ν.maxtag < t → Q (sending (echo t ∷ []) (topping t ν)))
    → (t ≤ ν.maxtag → Q (still ν)) → Q (raise t ν)
raise-by Q t ν x y = elim (dec_lt ν.maxtag t) as (λ d. Q (ite d (sending (echo t ∷ []) (topping t ν)) (still ν)))
    [ yes h ↦ x h | no h ↦ y (omega arith) ]

pub raise-cases : (Q : Step → Type 0) (t : ℕ) (ν : Node) → Q (sending (echo t ∷ []) (topping t ν)) → Q (still ν)
    → Q (raise t ν)
raise-cases Q t ν x y = raise-by Q t ν (λ h. x) (λ h. y)

-- The values from each node, after v has come from node k.
abbrev pub from-by : ℕ → Value → Node → ℕ → List Value
from-by k v ν = upd ν.from k (v ∷ ν.from k)

-- The node then, if it has the value, and if the value is new to it.
abbrev pub knowing : ℕ → Value → Node → Node
knowing k v ν = holding ν.all (from-by k v ν) ν

abbrev pub learning : ℕ → Value → Node → Node
learning k v ν = holding (v ∷ ν.all) (from-by k v ν) ν

pub receive-by : (Q : Step → Type 0) (k : ℕ) (v : Value) (ν : Node) → (v ∈ ν.all → Q (still (knowing k v ν)))
    → (¬ (v ∈ ν.all) → Q (sending (value v ∷ []) (learning k v ν))) → Q (receive k v ν)
receive-by Q k v ν x y = go (has ν.all v) refl
  where
    go : (b : Bool) → has ν.all v ≡ b
        → Q (cond b (still (knowing k v ν)) (sending (value v ∷ []) (learning k v ν)))
    go true e = x (has-to ν.all v e)
    go false e = y (λ m. true≢false (sym (has_of m) ∙ e))

pub receive-cases : (Q : Step → Type 0) (k : ℕ) (v : Value) (ν : Node) → Q (still (knowing k v ν))
    → Q (sending (value v ∷ []) (learning k v ν)) → Q (receive k v ν)
receive-cases Q k v ν x y = receive-by Q k v ν (λ m. x) (λ m. y)

-- A read answer from node k to the last request is counted, if read answers are awaited.
abbrev pub ReadCounted : ℕ → Wait → Type 0
ReadCounted k (reading op s u) = s k ≡ true
ReadCounted k idle = Unit {0}
ReadCounted k (writing op r u s) = Unit {0}
ReadCounted k (comparing op r u) = Unit {0}
ReadCounted k (borrowing op u) = Unit {0}

-- A write answer with tag t from node k to the last request, likewise.
abbrev pub WriteCounted : ℕ → ℕ → Wait → Type 0
WriteCounted k t (writing op r u s) = t ≡ u → s k ≡ true
WriteCounted k t idle = Unit {0}
WriteCounted k t (reading op s u) = Unit {0}
WriteCounted k t (comparing op r u) = Unit {0}
WriteCounted k t (borrowing op u) = Unit {0}

-- An answer changes nothing, and is counted if it should be; or it is counted now. P is known of the wait.
module _ (P : Wait → Type 0) (Q : Node → Type 0) (k q t : ℕ) (ν : Node) where
  pub read-cases : (w : Wait) → P w → ((q ≡ ν.request → ReadCounted k w) → Q (with_wait w ν))
      → ((op : Operation) (s : Nodes) (u : ℕ) → q ≡ ν.request → P (reading op s u)
      → Q (with_wait (reading op (upd s k true) (max u t)) ν))
      → Q (read_answered k q t (with_wait w ν) w)
  read-cases idle p stay count = stay (λ e. tt)
  read-cases (writing op r u s) p stay count = stay (λ e. tt)
  read-cases (comparing op r u) p stay count = stay (λ e. tt)
  read-cases (borrowing op u) p stay count = stay (λ e. tt)
  read-cases (reading op s u) p stay count = go (ℕ_discrete q ν.request) (s k) refl
    where
      ν' : Node
      ν' = with_wait (reading op s u) ν

      go : (d : Dec (q ≡ ν.request)) (b : Bool) → s k ≡ b
          → Q (ite d (cond b ν' (with_wait (reading op (upd s k true) (max u t)) ν)) ν')
      go (yes e) true is = stay (λ e. is)
      go (yes e) false is = count op s u e p
      go (no e) b is = stay (λ x. absurd (e x))

  pub write-cases : (w : Wait) → P w → ((q ≡ ν.request → WriteCounted k t w) → Q (with_wait w ν))
      → ((op : Operation) (r : Round) (u : ℕ) (s : Nodes) → q ≡ ν.request → t ≡ u → P (writing op r u s)
      → Q (with_wait (writing op r u (upd s k true)) ν))
      → Q (write_answered k q t (with_wait w ν) w)
  write-cases idle p stay count = stay (λ e. tt)
  write-cases (reading op s u) p stay count = stay (λ e. tt)
  write-cases (comparing op r u) p stay count = stay (λ e. tt)
  write-cases (borrowing op u) p stay count = stay (λ e. tt)
  write-cases (writing op r u s) p stay count = go (ℕ_discrete q ν.request) (ℕ_discrete t u)
    where
      ν' : Node
      ν' = with_wait (writing op r u s) ν

      go : (d : Dec (q ≡ ν.request)) (d' : Dec (t ≡ u))
          → Q (ite d (ite d' (with_wait (writing op r u (upd s k true)) ν) ν') ν')
      go (yes e) (yes is) = count op r u s e is p
      go (yes e) (no is) = stay (λ x z. absurd (is z))
      go (no e) d' = stay (λ x. absurd (e x))
