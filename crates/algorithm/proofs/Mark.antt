-- How far tags have come: a number M that no tag in use is above. A step keeps it, or it is the end of a good round 0
-- with tag M: then it sends the good message of M, and after that, last of all, a write of the next tag.
use Prim.Native.Nat.{ℕ, suc, ◌≤◌, ◌<◌, max}
use native.Mathlib.Omega.{arith}
use native.Mathlib.Decide.{dec_lt}
use mathlib.Core.Path.{◌≡◌, refl, sym, subst}
use mathlib.Core.Logic.{◌⊎◌, inl, inr}
use mathlib.Core.Bool.{true}
use mathlib.Core.List.Memᴰ
use mathlib.Core.List.{[], ◌∷◌}
use Rattle.logs.specs.Update.{upd}
use Rattle.logs.specs.Log.{◌∈◌, push}
use Rattle.history.specs.Message.{of, View, Message, read, read_answer, write, write_answer, echo, value, good}
use Rattle.history.specs.Event.{Operation, update, scan, round0, round1}
use Rattle.algorithm.specs.Algorithm.{nobody, Wait, idle, reading, writing, comparing, borrowing, Node, sending}
use Rattle.algorithm.specs.Algorithm.{◌then◌, with_wait, view_upto, react, message_step, begin_step}
use Rattle.algorithm.proofs.Cert.{Log}
use Rattle.algorithm.specs.Node.{with_request_and_wait, topping}
use Rattle.algorithm.proofs.Cases.{raise-cases, receive-cases, read-cases, write-cases}
use Rattle.algorithm.proofs.Passes.{left}
use Rattle.algorithm.proofs.MoveOn.{Moves, writes, message-leaves, begin-leaves}

-- The tag that a node waits with.
abbrev pub Low : ℕ → Wait → Type 0
Low M idle = Unit {0}
Low M (reading op s u) = u ≤ M
Low M (writing op r t s) = t ≤ M
Low M (comparing op r t) = t ≤ M
Low M (borrowing op t) = t < M

-- The tag that a message tells its receiver to reckon with.
abbrev pub Below : ℕ → Message → Type 0
Below M (read_answer to q t) = t ≤ M
Below M (write q t) = t ≤ M
Below M (echo t) = t ≤ M
Below M (read q) = Unit {0}
Below M (write_answer to q t) = Unit {0}
Below M (value v) = Unit {0}
Below M (good t v) = Unit {0}

pub low_up : {M N : ℕ} (w : Wait) → M ≤ N → Low M w → Low N w
low_up idle h x = tt
low_up (reading op s u) h x = omega arith
low_up (writing op r t s) h x = omega arith
low_up (comparing op r t) h x = omega arith
low_up (borrowing op t) h x = omega arith

pub below_up : {M N : ℕ} (m : Message) → M ≤ N → Below M m → Below N m
below_up (read_answer to q t) h x = omega arith
below_up (write q t) h x = omega arith
below_up (echo t) h x = omega arith
below_up (read q) h x = tt
below_up (write_answer to q t) h x = tt
below_up (value v) h x = tt
below_up (good t v) h x = tt

-- A node of which no tag is above M, and what it has sent in this step.
pub record Marked (M : ℕ) (ν : Node) (l : Log) : Type 0 where
  pub top : ν.maxtag ≤ M
  pub low : Low M ν.wait
  pub said : (m : Message) → m ∈ l → Below M m

-- A round with the next tag.
abbrev pub Opened : ℕ → Wait → Type 0
Opened M (writing op r t s) = t ≤ suc M
Opened M idle = ⊥
Opened M (reading op s u) = ⊥
Opened M (comparing op r t) = ⊥
Opened M (borrowing op t) = ⊥

-- It has gone from a good round with tag M to the next tag.
pub record Leapt (M : ℕ) (ν : Node) (l : Log) : Type 0 where
  pub q : ℕ
  pub view : View
  pub before : Log
  pub sent : l ≡ write q (suc M) ∷ good M view ∷ before
  pub said : (m : Message) → m ∈ before → Below M m
  pub top : ν.maxtag ≤ M
  pub opened : Opened M ν.wait

module _ (M : ℕ) where
  more-said : {l : Log} (m : Message) → Below M m → ((x : Message) → x ∈ l → Below M x) → (x : Message) → x ∈ (m ∷ l)
      → Below M x
  more-said m h old x (Memᴰ.head e) = subst (Below M) (sym e) h
  more-said m h old x (Memᴰ.tail i) = old x i

  -- Another wait and request number; one more message.
  turn : {ν : Node} {l : Log} (w : Wait) (q : ℕ) → Low M w → Marked M ν l → Marked M (with_request_and_wait q w ν) l
  turn w q h c = record { top = c.top; low = h; said = c.said }

  post : {ν : Node} {l : Log} (m : Message) → Below M m → Marked M ν l → Marked M ν (m ∷ l)
  post m h c = record { top = c.top; low = c.low; said = more-said m h c.said }

  -- What a message does at once.

  topped : {ν : Node} {l : Log} (t : ℕ) → t ≤ M → Marked M ν l → Marked M (topping t ν) (echo t ∷ l)
  topped t h c = record { top = h; low = c.low; said = more-said (echo t) h c.said }

  react-marked : (k : ℕ) (m : Message) (ν : Node) (l : Log) → Below M m → Marked M ν l
      → Marked M (react k m ν).node (push (react k m ν).sent l)
  react-marked k (read q) ν l h c = post (read_answer k q ν.maxtag) c.top c
  react-marked k (read_answer to q t) ν l h c =
      read-cases (λ w. Marked M (with_wait w ν) l) (λ ν. Marked M ν l) k q t ν ν.wait c (λ is. c)
      (λ op s u e c. turn (reading op (upd s k true) (max u t)) ν.request (omega (arith, c.low)) c)
  react-marked k (write q t) ν l h c = raise-cases
      (λ s. let z = s then sending (write_answer k q t ∷ []) in Marked M z.node (push z.sent l)) t ν
      (post (write_answer k q t) tt (topped t h c)) (post (write_answer k q t) tt c)
  react-marked k (write_answer to q t) ν l h c =
      write-cases (λ w. Marked M (with_wait w ν) l) (λ ν. Marked M ν l) k q t ν ν.wait c (λ is. c)
      (λ op r u s e d c. turn (writing op r u (upd s k true)) ν.request c.low c)
  react-marked k (echo t) ν l h c = raise-cases (λ s. Marked M s.node (push s.sent l)) t ν (topped t h c) c
  react-marked k (value v) ν l h c = receive-cases (λ s. Marked M s.node (push s.sent l)) k v ν
      (record { top = c.top; low = c.low; said = c.said })
      (record { top = c.top; low = c.low; said = more-said (value v) tt c.said })
  react-marked k (good t v) ν l h c = record { top = c.top; low = c.low; said = c.said }

  -- What a step leaves.
  abbrev pub Left : Node → Log → Type 0
  Left ν l = Marked M ν l ⊎ Leapt M ν l

  mark-moves : (n f i : ℕ) → Moves n f i (Marked M) Left (λ e. Left)
  mark-moves n f i = record {
    stays = λ ν l c. inl c;
    spends = λ ν l p u s x z c. inl (turn idle ν.request tt c);
    updates = λ ν l p u s x c. let le : max u ν.maxtag ≤ M = omega (arith, c.low, c.top) in
        post (write (suc ν.request) (max u ν.maxtag)) le (post (value (of (suc (max u ν.maxtag)) i p)) tt
        (turn (writing (update p) round0 (max u ν.maxtag) nobody) (suc ν.request) le c));
    scans = λ ν l u s x c. let le : max u ν.maxtag ≤ M = omega (arith, c.low, c.top) in
        post (write (suc ν.request) (max u ν.maxtag)) le
        (turn (writing scan round1 (max u ν.maxtag) nobody) (suc ν.request) le c);
    compares = λ ν l op r t s x c. turn (comparing op r t) ν.request c.low c;
    passes = passes;
    ends = λ ν l op r t z h c. inl (post (good t _) tt (turn idle ν.request tt c));
    fails = λ ν l op r r' t h c. inl (post (write (suc ν.request) ν.maxtag) c.top
        (turn (writing op r' ν.maxtag nobody) (suc ν.request) c.top c));
    borrows = λ ν l op t h c. inl (turn (borrowing op t) ν.request (omega (arith, c.top)) c);
    lends = lends;
  }
    where
      passes : (ν : Node) (l : Log) (op : Operation) (t : ℕ) → ν.maxtag ≤ t
          → Marked M (with_wait (comparing op round0 t) ν) l
          → Left (writes op round1 (suc t) ν) (write (suc ν.request) (suc t) ∷ good t (view_upto n t ν.all) ∷ l)
      passes ν l op t h c = go (dec_lt t M)
        where
          go : Dec (t < M) → Left (writes op round1 (suc t) ν)
              (write (suc ν.request) (suc t) ∷ good t (view_upto n t ν.all) ∷ l)
          go (yes lt) = inl (post (write (suc ν.request) (suc t)) (omega arith) (post (good t _) tt
              (turn (writing op round1 (suc t) nobody) (suc ν.request) (omega arith) c)))
          go (no ge) = let e : t ≡ M = omega (arith, c.low) in inr (record {
            q = suc ν.request;
            view = view_upto n t ν.all;
            before = l;
            said = c.said;
            top = c.top;
            sent = subst (λ x. write (suc ν.request) (suc t) ∷ good t (view_upto n t ν.all) ∷ l
                ≡ write (suc ν.request) (suc x) ∷ good x (view_upto n t ν.all) ∷ l) e refl;
            opened = omega arith;
          })

      lends : (ν : Node) (l : Log) (op : Operation) (t : ℕ) → Left (with_wait (borrowing op t) ν) l
          → Left (with_wait idle ν) l
      lends ν l op t (inl c) = inl (turn idle ν.request tt c)
      lends ν l op t (inr x) = absurd x.opened

  -- The two steps of a node.

  pub message-marked : (n f i k : ℕ) (m : Message) (ν : Node) → Below M m → Marked M ν []
      → Left (message_step n f i k m ν).node (push (message_step n f i k m ν).sent [])
  message-marked n f i k m ν h c = left Left (message_step n f i k m ν).ending
      (message-leaves (mark-moves n f i) k m ν [] (react-marked k m ν [] h c))

  pub begin-marked : (n f i : ℕ) (op : Operation) (ν : Node) → Marked M ν []
      → Left (begin_step n f i op ν).node (push (begin_step n f i op ν).sent [])
  begin-marked n f i op ν c = left Left (begin_step n f i op ν).ending (begin-leaves (mark-moves n f i) op ν []
      (post (read (suc ν.request)) tt (turn (reading op nobody 0) (suc ν.request) (omega arith) c)))
