-- Nothing that a node was handed is lost on it: a request has its answer in the node's own log, an answer to its last
-- request is counted, and a good message is kept unless a later one is. And what it waits for answers to it has sent.
use Prim.Native.Nat.{ℕ, suc, ◌≤◌, ◌<◌, max}
use native.Mathlib.Omega.{arith}
use native.Mathlib.Decide.{dec_lt}
use mathlib.Core.Path.{◌≡◌, refl, sym, subst}
use mathlib.Core.Logic.{◌⊎◌, inl, inr, ite}
use mathlib.Core.Bool.{Bool, true}
use mathlib.Core.List.Memᴰ
use mathlib.Core.List.{List, [], ◌∷◌}
use Rattle.logs.specs.Update.{upd}
use Rattle.logs.proofs.Update.{upd_same, upd-all}
use Rattle.logs.specs.Log.{◌∈◌, ◌⊑◌, here, more, push}
use Rattle.logs.proofs.Log.{mem_up}
use Rattle.history.specs.Message.{Value, Message, read, read_answer, write, write_answer, echo, value, good}
use Rattle.history.specs.Event.{Operation, update, scan, round0, round1}
use Rattle.algorithm.specs.Algorithm.{nobody, Wait, idle, reading, writing, comparing, borrowing, Good, Node}
use Rattle.algorithm.specs.Algorithm.{sending, ◌then◌, with_wait, asking, kept, keep, react, message_step}
use Rattle.algorithm.specs.Algorithm.{begin_step}
use Rattle.algorithm.proofs.Cert.{Log, Logs}
use Rattle.algorithm.proofs.Meant.{Meant, Others}
use Rattle.algorithm.specs.Node.{topping, holding}
use Rattle.algorithm.proofs.Cases.{raise-cases, receive-cases, ReadCounted, WriteCounted, read-cases}
use Rattle.algorithm.proofs.Cases.{write-cases}
use Rattle.algorithm.proofs.Passes.{left}
use Rattle.algorithm.proofs.MoveOn.{Moves, message-leaves, begin-leaves}

-- The request that is to be answered stands in the log, with number q.
abbrev pub Asks : ℕ → Log → Wait → Type 0
Asks q l (reading op s u) = read q ∈ l
Asks q l (writing op r t s) = write q t ∈ l
Asks q l idle = Unit {0}
Asks q l (comparing op r t) = Unit {0}
Asks q l (borrowing op t) = Unit {0}

-- An answer is to a request that was made.
abbrev pub Numbered : Node → Message → Type 0
Numbered ν (read_answer to q t) = q ≤ ν.request
Numbered ν (write_answer to q t) = q ≤ ν.request
Numbered ν (read q) = Unit {0}
Numbered ν (write q t) = Unit {0}
Numbered ν (echo t) = Unit {0}
Numbered ν (value v) = Unit {0}
Numbered ν (good t v) = Unit {0}

-- What is for others is not for node i.
not-both : (i : ℕ) (m : Message) → Meant i m → Others i m → ⊥
not-both i (read_answer to q t) h o = o h
not-both i (write_answer to q t) h o = o h
not-both i _ h o = elim o [ ]

module _ (n : ℕ) where
  -- What a message from node k has led to at the node that it was handed to.
  abbrev pub Replied : ℕ → Node → Log → Message → Type 0
  Replied k ν l (read q) = (t : ℕ) × (read_answer k q t ∈ l)
  Replied k ν l (read_answer to q t) = (q ≤ ν.request) × (q ≡ ν.request → ReadCounted k ν.wait)
  Replied k ν l (write q t) = write_answer k q t ∈ l
  Replied k ν l (write_answer to q t) = (q ≤ ν.request) × (q ≡ ν.request → WriteCounted k t ν.wait)
  Replied k ν l (echo t) = Unit {0}
  Replied k ν l (value v) = Unit {0}
  Replied k ν l (good t v) = t ≤ (kept n ν.goods).tag

  -- Node i with state ν and log l, to which the logs of the others have been handed up to got.
  pub record Live (i : ℕ) (got : Logs) (ν : Node) (l : Log) : Type 0 where
    pub replied : (k : ℕ) (m : Message) → m ∈ got k → Meant i m → Replied k ν l m
    pub asks : Asks ν.request l ν.wait

  -- What was counted is so still, or another request is the last one.
  abbrev Keeps : Node → Node → Type 0
  Keeps ν ν' = (ν.request < ν'.request) ⊎ ((ν.request ≡ ν'.request)
      × ((k : ℕ) → ReadCounted k ν.wait → ReadCounted k ν'.wait)
      × ((k t : ℕ) → WriteCounted k t ν.wait → WriteCounted k t ν'.wait))

  answered-up : {A B : Type 0} {p q q' : ℕ} → (q < q') ⊎ ((q ≡ q') × (A → B)) → (p ≤ q) × (p ≡ q → A)
      → (p ≤ q') × (p ≡ q' → B)
  answered-up (inl h) (lo, c) = (omega arith, λ e. absurd (omega arith))
  answered-up (inr (e, g)) (lo, c) = (omega arith, λ x. g (c (omega arith)))

  replied-up : (k : ℕ) (ν ν' : Node) (l l' : Log) (m : Message) → (kept n ν.goods).tag ≤ (kept n ν'.goods).tag
      → l ⊑ l' → Keeps ν ν' → Replied k ν l m → Replied k ν' l' m
  replied-up k ν ν' l l' (read q) g up h (t, m) = (t, mem_up up m)
  replied-up k ν ν' l l' (read_answer to q t) g up h x =
      answered-up (elim h [ inl p ↦ inl p | inr p ↦ inr (p.0, p.1 k) ]) x
  replied-up k ν ν' l l' (write q t) g up h m = mem_up up m
  replied-up k ν ν' l l' (write_answer to q t) g up h x =
      answered-up (elim h [ inl p ↦ inl p | inr p ↦ inr (p.0, p.2 k t) ]) x
  replied-up k ν ν' l l' (echo t) g up h x = tt
  replied-up k ν ν' l l' (value v) g up h x = tt
  replied-up k ν ν' l l' (good t v) g up h x = omega arith

  module _ {i : ℕ} {got : Logs} {ν : Node} {l : Log} (c : Live i got ν l) where
    changed : (ν' : Node) (l' : Log) → (kept n ν.goods).tag ≤ (kept n ν'.goods).tag → l ⊑ l' → Keeps ν ν'
        → Asks ν'.request l' ν'.wait → Live i got ν' l'
    changed ν' l' g up h a = record {
      replied = λ k m x y. replied-up k ν ν' l l' m g up h (c.replied k m x y);
      asks = a;
    }

    asks-up : (q : ℕ) (l' : Log) (w : Wait) → l ⊑ l' → Asks q l w → Asks q l' w
    asks-up q l' idle up a = tt
    asks-up q l' (reading op s u) up a = mem_up up a
    asks-up q l' (writing op r t s) up a = mem_up up a
    asks-up q l' (comparing op r t) up a = tt
    asks-up q l' (borrowing op t) up a = tt

    -- The same wait, with other values, another maxtag and more sent.
    same-wait : (a : List Value) (g : ℕ → List Value) (t : ℕ) (l' : Log) → l ⊑ l'
        → Live i got (topping t (holding a g ν)) l'
    same-wait a g t l' up = changed _ l' (omega arith) up (inr (refl, λ k x. x, λ k t x. x))
        (asks-up ν.request l' ν.wait up c.asks)

    -- A wait in which no answers are awaited.
    silent : (w : Wait) (l' : Log) → l ⊑ l' → ((k : ℕ) → ReadCounted k w) → ((k t : ℕ) → WriteCounted k t w)
        → Asks ν.request l' w → Live i got (with_wait w ν) l'
    silent w l' up x y a = changed (with_wait w ν) l' (omega arith) up (inr (refl, λ k z. x k, λ k t z. y k t)) a

    -- A new request.
    asked : (w : Wait) (l' : Log) → l ⊑ l' → Asks (suc ν.request) l' w → Live i got (asking w ν) l'
    asked w l' up a = changed (asking w ν) l' (omega arith) up (inl (omega arith)) a

    -- A message is handed over; what was before it in the log of its sender is for others.
    live-handed : (k : ℕ) (m : Message) (place : Log) → ((x : Message) → x ∈ place → (x ∈ got k) ⊎ Others i x)
        → (Meant i m → Replied k ν l m) → Live i (upd got k (m ∷ place)) ν l
    live-handed k m place skipped new = record {
      replied = upd-all (λ j z. (x : Message) → x ∈ z → Meant i x → Replied j ν l x) got k (m ∷ place)
          (λ j ne. c.replied j) at;
      asks = c.asks;
    }
      where
        at : (x : Message) → x ∈ (m ∷ place) → Meant i x → Replied k ν l x
        at x (Memᴰ.head e) h = subst (Replied k ν l) (sym e) (new (subst (Meant i) e h))
        at x (Memᴰ.tail y) h =
            elim (skipped x y) [ inl z ↦ c.replied k x z h | inr o ↦ absurd (not-both i x h o) ]

  kept_more : (l : List Good) (g : Good) → ((kept n l).tag ≤ (kept n (g ∷ l)).tag) × (g.tag ≤ (kept n (g ∷ l)).tag)
  unfolding kept
  kept_more l g = elim (dec_lt (kept n l).tag g.tag)
      as (λ d. ((kept n l).tag ≤ (ite d g (kept n l)).tag) × (g.tag ≤ (ite d g (kept n l)).tag))
      [ yes h ↦ (omega arith, omega arith) | no h ↦ (omega arith, omega arith) ]

  -- What a message does at once.

  abbrev Reacts : ℕ → Logs → ℕ → Message → Node → Log → Type 0
  Reacts i got k m ν l = Live i got ν l × (Meant i m → Replied k ν l m)

  counted-more : (s : ℕ → Bool) (k j : ℕ) → s j ≡ true → upd s k true j ≡ true
  counted-more s k = upd-all (λ j b. s j ≡ true → b ≡ true) s k true (λ j ne h. h) (λ h. refl)

  react-live : {i : ℕ} {got : Logs} (k : ℕ) (m : Message) (ν : Node) (l : Log) → Live i got ν l
      → (Meant i m → Numbered ν m) → Reacts i got k m (react k m ν).node (push (react k m ν).sent l)
  react-live k (read q) ν l c h =
      (same-wait c ν.all ν.from ν.maxtag _ (more here), λ e. (ν.maxtag, Memᴰ.head refl))
  react-live {i} {got} k (read_answer to q t) ν l c h =
      read-cases (λ w. Live i got (with_wait w ν) l) (λ ν. Reacts i got k (read_answer to q t) ν l) k q t ν ν.wait c
      (λ is. (c, λ x. (h x, is)))
      (λ op s u e c. (
        changed c (with_wait (reading op (upd s k true) (max u t)) ν) l (omega arith) here
            (inr (refl, counted-more s k, λ j u x. tt)) c.asks,
        λ x. (h x, λ y. upd_same s k true),
      ))
  react-live {i} {got} k (write q t) ν l c h = raise-cases
      (λ s. let z = s then sending (write_answer k q t ∷ []) in Reacts i got k (write q t) z.node (push z.sent l))
      t ν
      (same-wait c ν.all ν.from t _ (more (more here)), λ e. Memᴰ.head refl)
      (same-wait c ν.all ν.from ν.maxtag _ (more here), λ e. Memᴰ.head refl)
  react-live {i} {got} k (write_answer to q t) ν l c h =
      write-cases (λ w. Live i got (with_wait w ν) l) (λ ν. Reacts i got k (write_answer to q t) ν l) k q t ν ν.wait c
      (λ is. (c, λ x. (h x, is)))
      (λ op r u s e d c. (
        changed c (with_wait (writing op r u (upd s k true)) ν) l (omega arith) here
            (inr (refl, λ j x. tt, λ j v x z. counted-more s k j (x z))) c.asks,
        λ x. (h x, λ y z. upd_same s k true),
      ))
  react-live {i} {got} k (echo t) ν l c h = raise-cases (λ s. Reacts i got k (echo t) s.node (push s.sent l)) t ν
      (same-wait c ν.all ν.from t _ (more here), λ e. tt) (c, λ e. tt)
  react-live {i} {got} k (value v) ν l c h =
      receive-cases (λ s. Reacts i got k (value v) s.node (push s.sent l)) k v ν
      (same-wait c ν.all _ ν.maxtag l here, λ e. tt)
      (same-wait c (v ∷ ν.all) _ ν.maxtag _ (more here), λ e. tt)
  react-live k (good t v) ν l c h = let (x, y) = kept_more ν.goods (record { tag = t; view = v }) in
      (changed c (keep t v ν) l x here (inr (refl, λ k x. x, λ k t x. x)) c.asks, λ e. y)

  -- How the open operation moves on.
  module _ (f i : ℕ) (got : Logs) where
    live-moves : Moves n f i (Live i got) (Live i got) (λ e. Live i got)
    live-moves = record {
      stays = λ ν l c. c;
      spends = λ ν l p u s x z c. silent c idle l here (λ k. tt) (λ k t. tt) tt;
      updates = λ ν l p u s x c. asked c (writing (update p) round0 _ nobody) _ (more (more here))
          (Memᴰ.head refl);
      scans = λ ν l u s x c. asked c (writing scan round1 _ nobody) _ (more here) (Memᴰ.head refl);
      compares = λ ν l op r t s x c. silent c (comparing op r t) l here (λ k. tt) (λ k t. tt) tt;
      passes = λ ν l op t h c. asked c (writing op round1 (suc t) nobody) _ (more (more here)) (Memᴰ.head refl);
      ends = λ ν l op r t z h c. silent c idle _ (more here) (λ k. tt) (λ k t. tt) tt;
      fails = λ ν l op r r' t h c. asked c (writing op r' _ nobody) _ (more here) (Memᴰ.head refl);
      borrows = λ ν l op t h c. silent c (borrowing op t) l here (λ k. tt) (λ k t. tt) tt;
      lends = λ ν l op t c. silent c idle l here (λ k. tt) (λ k t. tt) tt;
    }

  -- The two steps of a node.

  pub message-live : (f i : ℕ) (got : Logs) (k : ℕ) (m : Message) (place : Log) (ν : Node) (l : Log)
      → ((x : Message) → x ∈ place → (x ∈ got k) ⊎ Others i x) → (Meant i m → Numbered ν m) → Live i got ν l
      → Live i (upd got k (m ∷ place)) (message_step n f i k m ν).node (push (message_step n f i k m ν).sent l)
  message-live f i got k m place ν l skipped h c =
      let (x, y) = react-live k m ν l c h in
      left (Live i (upd got k (m ∷ place))) (message_step n f i k m ν).ending
      (message-leaves (live-moves f i (upd got k (m ∷ place))) k m ν l (live-handed x k m place skipped y))

  pub begin-live : (f i : ℕ) (got : Logs) (op : Operation) (ν : Node) (l : Log) → Live i got ν l
      → Live i got (begin_step n f i op ν).node (push (begin_step n f i op ν).sent l)
  begin-live f i got op ν l c = left (Live i got) (begin_step n f i op ν).ending
      (begin-leaves (live-moves f i got) op ν l (asked c (reading op nobody 0) _ (more here) (Memᴰ.head refl)))
