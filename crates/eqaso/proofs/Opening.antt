-- A round opens with a tag that is not below maxtag: so the newest values up to that tag can be told from two reports.
use Prim.Native.Nat.{ℕ, suc, ◌≤◌, max}
use native.Mathlib.Omega.{arith}
use mathlib.Core.Path.{sym, subst}
use mathlib.Core.List.Memᴰ
use mathlib.Core.List.{[], ◌∷◌}
use Rattle.logs.specs.Log.{◌∈◌, push}
use Rattle.logs.proofs.Log.{push-new}
use Rattle.history.specs.Message.{of, Message, read, read_answer, write, write_answer, echo, value, good}
use Rattle.algorithm.specs.Algorithm.{Node, sending, ◌then◌, react, message_step}
use Rattle.algorithm.proofs.Cert.{Log}
use Rattle.algorithm.proofs.Cases.{raise-cases, receive-cases}
use Rattle.algorithm.proofs.Passes.{left}
use Rattle.algorithm.proofs.MoveOn.{Moves, message-leaves}

-- A write among the messages of a step is that of a round that opens.
abbrev High : ℕ → Message → Type 0
High top (write q t) = top ≤ t
High top (read q) = Unit {0}
High top (read_answer to q t) = Unit {0}
High top (write_answer to q t) = Unit {0}
High top (echo t) = Unit {0}
High top (value v) = Unit {0}
High top (good t v) = Unit {0}

abbrev Highs : Node → Log → Type 0
Highs ν l = (m : Message) → m ∈ l → High ν.maxtag m

one_more : (top : ℕ) {l : Log} (m : Message) → High top m → ((x : Message) → x ∈ l → High top x)
    → (x : Message) → x ∈ (m ∷ l) → High top x
one_more top m h hs x (Memᴰ.head e) = subst (High top) (sym e) h
one_more top m h hs x (Memᴰ.tail i) = hs x i

highs-kept : (n f i : ℕ) → Moves n f i Highs Highs (λ e. Highs)
highs-kept n f i = record {
  stays = λ ν l x. x;
  spends = λ ν l p u s q z x. x;
  updates = λ ν l p u s q x. one_more ν.maxtag (write (suc ν.request) (max u ν.maxtag)) (omega arith)
      (one_more ν.maxtag (value (of (suc (max u ν.maxtag)) i p)) tt x);
  scans = λ ν l u s q x. one_more ν.maxtag (write (suc ν.request) (max u ν.maxtag)) (omega arith) x;
  compares = λ ν l o r t s q x. x;
  passes = λ ν l o t h x.
      one_more ν.maxtag (write (suc ν.request) (suc t)) (omega arith) (one_more ν.maxtag (good t _) tt x);
  ends = λ ν l o r t z h x. one_more ν.maxtag (good t _) tt x;
  fails = λ ν l o r r' t h x. one_more ν.maxtag (write (suc ν.request) ν.maxtag) (omega arith) x;
  borrows = λ ν l o t h x. x;
  lends = λ ν l o t x. x;
}

none-sent : (top : ℕ) (x : Message) → x ∈ [] → High top x
none-sent top x i = elim i [ ]

high-react : (k : ℕ) (m : Message) (ν : Node) → Highs (react k m ν).node (push (react k m ν).sent [])
high-react k (read q) ν = one_more ν.maxtag (read_answer k q ν.maxtag) tt (none-sent ν.maxtag)
high-react k (read_answer to q t) ν = none-sent _
high-react k (write q t) ν = raise-cases
    (λ s. let z = s then sending (write_answer k q t ∷ []) in Highs z.node (push z.sent [])) t ν
    (one_more t (write_answer k q t) tt (one_more t (echo t) tt (none-sent t)))
    (one_more ν.maxtag (write_answer k q t) tt (none-sent ν.maxtag))
high-react k (write_answer to q t) ν = none-sent _
high-react k (echo t) ν = raise-cases (λ s. Highs s.node (push s.sent [])) t ν
    (one_more t (echo t) tt (none-sent t)) (none-sent ν.maxtag)
high-react k (value v) ν = receive-cases (λ s. Highs s.node (push s.sent [])) k v ν (none-sent ν.maxtag)
    (one_more ν.maxtag (value v) tt (none-sent ν.maxtag))
high-react k (good t v) ν = none-sent ν.maxtag

-- A round opens with a tag that is not below maxtag.
pub opens-high : (n f i k : ℕ) (m : Message) (ν : Node) (q t : ℕ) → write q t ∈ (message_step n f i k m ν).sent
    → (message_step n f i k m ν).node.maxtag ≤ t
opens-high n f i k m ν q t x = left Highs (message_step n f i k m ν).ending
    (message-leaves (highs-kept n f i) k m ν [] (high-react k m ν)) (write q t) (push-new [] x)
