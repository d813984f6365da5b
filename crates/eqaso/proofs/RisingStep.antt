-- The order of values in logs through a whole step of a node: a begin, and each message.
use Prim.Native.Nat.{ℕ, suc, ◌≤◌, max}
use native.Mathlib.Omega.{arith}
use mathlib.Core.Path.{◌≡◌, refl, ap, subst}
use mathlib.Core.Logic.{◌⊎◌, inl, inr}
use mathlib.Core.Bool.{true}
use mathlib.Core.List.Memᴰ
use mathlib.Core.List.{[], ◌∷◌}
use Rattle.logs.specs.Update.{upd}
use Rattle.logs.specs.Log.{◌∈◌, ◌⊑◌, here, more, push}
use Rattle.history.specs.Message.{Value, of, Message, read, read_answer, write, write_answer, echo, value, good}
use Rattle.history.specs.Event.{Operation, update, scan, Round, round0, round1}
use Rattle.algorithm.specs.Algorithm.{Nodes, nobody, Wait, idle, reading, writing, comparing, borrowing, Node}
use Rattle.algorithm.specs.Algorithm.{sending, ◌then◌, react, message_step, begin_step}
use Rattle.algorithm.proofs.Cert.{Log, Logs, IsValue}
use Rattle.algorithm.proofs.Local.{Past, Local}
use Rattle.algorithm.proofs.Cases.{raise-cases, receive-by, read-cases, write-cases}
use Rattle.algorithm.proofs.Passes.{left}
use Rattle.algorithm.proofs.MoveOn.{Last, Moves, message-leaves, begin-leaves}
use Rattle.eqaso.proofs.Closure.{Dues}
use Rattle.eqaso.proofs.Rising.{Orders, Marked, marked-up, Order, Young, Rising, longer, rising-forward}

module _ (i : ℕ) where
  order-silent : (m : Message) (l : Log) → (IsValue m → ⊥) → Order i m l
  order-silent (value v) l s = absurd (s tt)
  order-silent (read q) l s = tt
  order-silent (read_answer to q t) l s = tt
  order-silent (write q t) l s = tt
  order-silent (write_answer to q t) l s = tt
  order-silent (echo t) l s = tt
  order-silent (good t v) l s = tt

  -- A message that is no value is sent.
  pub rising-post : {w : Wait} {l : Log} → Rising i w l → (m : Message) → (IsValue m → ⊥) → Rising i w (m ∷ l)
  rising-post {w} {l} j m s = record { order = (order-silent m l s, j.order); own = own }
    where
      own : (v : Value) → value v ∈ (m ∷ l) → v.writer ≡ i → Marked v.tag (m ∷ l) ⊎ Young w v
      own v (Memᴰ.head d) e = absurd (s (subst IsValue d tt))
      own v (Memᴰ.tail x) e = longer w v (more here) (j.own v x e)

  -- The node goes on to another wait.
  pub rising-turn : {w : Wait} {l : Log} → Rising i w l → (w' : Wait)
      → ((v : Value) → Young w v → Marked v.tag l ⊎ Young w' v)
      → Rising i w' l
  rising-turn {w} {l} j w' h = record { order = j.order; own = λ v m e. go v (j.own v m e) }
    where
      go : (v : Value) → Marked v.tag l ⊎ Young w v → Marked v.tag l ⊎ Young w' v
      go v (inl m) = inl m
      go v (inr y) = h v y

  abbrev pub Rises : Node → Log → Type 0
  Rises ν l = Rising i ν.wait l

  -- A round opens with the write of a tag that marks the own value.
  opened : {w : Wait} {l : Log} → Rising i w l → (w' : Wait) (q t : ℕ) → ((v : Value) → Young w v → v.tag ≤ t)
      → Rising i w' (write q t ∷ l)
  opened x w' q t h = rising-turn (rising-post x (write q t) (λ z. z)) w'
      (λ v y. inl (t, h v y, inr (q, Memᴰ.head refl)))

  -- An update makes its value.
  made : {l : Log} (p : ℕ) (s : Nodes) (u t : ℕ) → Rising i (reading (update p) s u) l
      → Rising i (writing (update p) round0 t nobody) (value (of (suc t) i p) ∷ l)
  made {l} p s u t x = record {
    order = (record { rise = λ u ne m e. absurd (ne refl); mark = λ u m e h. old u (x.own u m e) }, x.order);
    own = own;
  }
    where
      old : (v : Value) → Marked v.tag l ⊎ Young (reading (update p) s u) v → Marked v.tag l
      old v (inl m) = m
      old v (inr h) = elim h [ ]

      own : (v : Value) → value v ∈ (value (of (suc t) i p) ∷ l) → v.writer ≡ i
          → Marked v.tag (value (of (suc t) i p) ∷ l) ⊎ Young (writing (update p) round0 t nobody) v
      own v (Memᴰ.head d) e = let same : v ≡ of (suc t) i p = cc d in inr (omega (arith, ap (λ z. z.tag) same))
      own v (Memᴰ.tail m) e = inl (marked-up (more here) (old v (x.own v m e)))

  young-low : (r : Round) (o : Operation) (t : ℕ) (v : Value) → Young (comparing o r t) v → v.tag ≤ suc t
  young-low round0 o t v y = omega arith
  young-low _ o t v y = elim y [ ]

  late : (r : Round) (o : Operation) (t : ℕ) → Last r → (v : Value) → Young (comparing o r t) v → ⊥
  late round0 o t h v y = h
  late _ o t h v y = elim y [ ]

  rising-moves : (n f : ℕ) → Moves n f i Rises Rises (λ e. Rises)
  rising-moves n f = record {
    stays = λ ν l x. x;
    spends = λ ν l p u s q z x. rising-turn x idle (λ v y. absurd y);
    updates = λ ν l p u s q x. rising-post (made p s u (max u ν.maxtag) x) (write (suc ν.request) _) (λ z. z);
    scans = λ ν l u s q x. opened x (writing scan round1 _ nobody) (suc ν.request) _ (λ v y. absurd y);
    compares = λ ν l o r t s q x. rising-turn x (comparing o r t) (λ v y. inr (comparing-young r o t s v y));
    passes = λ ν l o t h x. opened (rising-post x (good t _) (λ z. z)) (writing o round1 (suc t) nobody)
        (suc ν.request) (suc t)
        (young-low round0 o t);
    ends = λ ν l o r t z h x. rising-turn (rising-post x (good t _) (λ z. z)) idle (λ v y. absurd (late r o t z v y));
    fails = λ ν l o r r' t h x. opened x (writing o r' ν.maxtag nobody) (suc ν.request) ν.maxtag
        (λ v y. omega (arith, young-low r o t v y));
    borrows = λ ν l o t h x. rising-turn x (borrowing o t) (λ v y. absurd y);
    lends = λ ν l o t x. rising-turn x idle (λ v y. absurd y);
  }
    where
      comparing-young : (r : Round) (o : Operation) (t : ℕ) (s : Nodes) (v : Value) → Young (writing o r t s) v
          → Young (comparing o r t) v
      comparing-young round0 o t s v y = y
      comparing-young _ o t s v y = elim y [ ]

  -- An operation begins.
  pub rising-begin : (n f : ℕ) (op : Operation) (ν : Node) (l : Log) → ν.wait ≡ idle → Rising i ν.wait l
      → Rises (begin_step n f i op ν).node (push (begin_step n f i op ν).sent l)
  rising-begin n f op ν l e x = left Rises (begin_step n f i op ν).ending (begin-leaves (rising-moves n f) op ν l
      (rising-turn (rising-post x (read (suc ν.request)) (λ z. z)) (reading op nobody 0)
      (λ v y. absurd (subst (λ w. Young w v) e y))))

  still-young : (r : Round) (o : Operation) (t : ℕ) (s s' : Nodes) (v : Value) → Young (writing o r t s) v
      → Young (writing o r t s') v
  still-young round0 o t s s' v y = y
  still-young _ o t s s' v y = elim y [ ]

  module _ (n f : ℕ) (out : Logs) (dues : Dues n f out) (orders : Orders out) {γ : Past} {r : ℕ} {op : Operation}
      {ν : Node} (c : Local n f out γ i r op ν (out i)) (x : Rising i ν.wait (out i)) (k : ℕ) where
    reacts : (m : Message) → (m ∷ γ.got k) ⊑ out k → Rises (react k m ν).node (push (react k m ν).sent (out i))
    reacts (read q) at = rising-post x (read_answer k q ν.maxtag) (λ z. z)
    reacts (read_answer to q t) at =
        read-cases (λ w. Rising i w (out i)) (λ ν. Rises ν (out i)) k q t ν ν.wait x (λ is. x)
        (λ o s u e y. rising-turn y (reading o (upd s k true) (max u t)) (λ v z. absurd z))
    reacts (write q t) at = raise-cases
        (λ s. let z = s then sending (write_answer k q t ∷ []) in Rises z.node (push z.sent (out i))) t ν
        (rising-post (rising-post x (echo t) (λ z. z)) (write_answer k q t) (λ z. z))
        (rising-post x (write_answer k q t) (λ z. z))
    reacts (write_answer to q t) at =
        write-cases (λ w. Rising i w (out i)) (λ ν. Rises ν (out i)) k q t ν ν.wait x (λ is. x)
        (λ o r u s e d y. rising-turn y (writing o r u (upd s k true))
        (λ v z. inr (still-young r o u s (upd s k true) v z)))
    reacts (echo t) at = raise-cases (λ s. Rises s.node (push s.sent (out i))) t ν
        (rising-post x (echo t) (λ z. z)) x
    reacts (value v) at = receive-by (λ s. Rises s.node (push s.sent (out i))) k v ν (λ m. x)
        (λ new. rising-forward n f out dues orders c k v at x new)
    reacts (good t v) at = x

    -- Node i is handed message m by node k.
    pub rising-message : (m : Message) → (m ∷ γ.got k) ⊑ out k
        → Rises (message_step n f i k m ν).node (push (message_step n f i k m ν).sent (out i))
    rising-message m at = left Rises (message_step n f i k m ν).ending
        (message-leaves (rising-moves n f) k m ν (out i) (reacts m at))
