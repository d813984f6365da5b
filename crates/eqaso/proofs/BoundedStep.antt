-- The sets of a node stay bounded through a whole step.
use Prim.Native.Nat.{ℕ, ◌≤◌, ◌<◌}
use native.Mathlib.Omega.{arith}
use native.Mathlib.Decide.{dec_lt}
use mathlib.Core.Path.{◌≡◌, refl, sym, ◌∙◌, ap, subst}
use mathlib.Core.List.Memᴰ
use mathlib.Core.List.{List, [], ◌∷◌}
use Rattle.logs.specs.Update.{upd}
use Rattle.logs.proofs.Update.{upd-all}
use Rattle.logs.specs.Log.{◌∈◌}
use Rattle.history.specs.Message.{Value, Message, read, read_answer, write, write_answer, echo, value, good}
use Rattle.history.specs.Event.{Operation}
use Rattle.algorithm.specs.Algorithm.{Node, sending, ◌then◌, react, message_step, begin_step}
use Rattle.algorithm.proofs.Cert.{Log}
use Rattle.algorithm.proofs.Cases.{raise-by, receive-by, read-cases, write-cases}
use Rattle.algorithm.proofs.Passes.{left}
use Rattle.algorithm.proofs.MoveOn.{Moves, message-leaves, begin-leaves}
use Rattle.eqaso.specs.Bounded.{Expected, UpTo}
use Rattle.eqaso.proofs.Bounded.{Bounded, BoundedNode, Arrives, bounded-raised}

-- A value is taken in.
module _ {n : ℕ} {all : List Value} {from : ℕ → List Value} {maxtag k : ℕ} {v : Value} where
  -- One that the node has: only that it came from k is new.
  heard-more : Bounded n all from maxtag → Arrives n all from maxtag k v → v ∈ all
      → Bounded n all (upd from k (v ∷ from k)) maxtag
  heard-more b a has = record {
    tagged = b.tagged;
    writer = b.writer;
    one = b.one;
    low = b.low;
    known = upd-all (λ j l. (u : Value) → u ∈ l → u ∈ all) from k (v ∷ from k) (λ j ne. b.known j) known;
    segment = upd-all (λ j l. (u x : Value) → x ∈ l → u ∈ all → UpTo u x → u ∈ l) from k (v ∷ from k)
        (λ j ne. b.segment j) segment;
  }
    where
      known : (u : Value) → u ∈ (v ∷ from k) → u ∈ all
      known u (Memᴰ.head e) = subst (λ z. z ∈ all) (sym e) has
      known u (Memᴰ.tail m) = b.known k u m

      segment : (u x : Value) → x ∈ (v ∷ from k) → u ∈ all → UpTo u x → u ∈ (v ∷ from k)
      segment u x (Memᴰ.tail m) y h = Memᴰ.tail (b.segment k u x m y h)
      segment u x (Memᴰ.head e) y h = go (subst (UpTo u) e h)
        where
          go : UpTo u v → u ∈ (v ∷ from k)
          go (d, h) = elim (dec_lt u.tag v.tag) [
            | yes lt ↦ Memᴰ.tail (a.older u y d lt)
            | no le ↦ Memᴰ.head (b.one u v y has d (omega arith))
          ]

  -- One that is new.
  more-values : Bounded n all from maxtag → Arrives n all from maxtag k v → ¬ (v ∈ all)
      → Bounded n (v ∷ all) from maxtag
  more-values b a new = record {
    tagged = tagged;
    writer = writer;
    one = one;
    low = low;
    known = λ j u m. Memᴰ.tail (b.known j u m);
    segment = λ j u x m y h. segment j u x m y h;
  }
    where
      tagged : (u : Value) → u ∈ (v ∷ all) → 0 < u.tag
      tagged u (Memᴰ.head e) = rw e a.tagged
      tagged u (Memᴰ.tail m) = b.tagged u m

      writer : (u : Value) → u ∈ (v ∷ all) → (1 ≤ u.writer) × (u.writer ≤ n)
      writer u (Memᴰ.head e) = rw e a.writer
      writer u (Memᴰ.tail m) = b.writer u m

      -- Nothing that the node has is as new as v.
      older : (u x : Value) → u ≡ v → x ∈ all → UpTo u x → ⊥
      older u x e m h = new (a.seen x m (subst (λ z. UpTo z x) e h))

      one : (u x : Value) → u ∈ (v ∷ all) → x ∈ (v ∷ all) → u.writer ≡ x.writer → u.tag ≡ x.tag → u ≡ x
      one u x (Memᴰ.head e) (Memᴰ.head d) p q = e ∙ sym d
      one u x (Memᴰ.head e) (Memᴰ.tail m) p q = absurd (older u x e m (p, omega arith))
      one u x (Memᴰ.tail m) (Memᴰ.head d) p q = absurd (older x u d m (sym p, omega arith))
      one u x (Memᴰ.tail m) (Memᴰ.tail m') p q = b.one u x m m' p q

      low : (u x : Value) → u ∈ (v ∷ all) → x ∈ (v ∷ all) → u.writer ≡ x.writer → u.tag < x.tag → u.tag ≤ maxtag
      low u x (Memᴰ.head e) (Memᴰ.head d) p q = absurd (omega (arith, ap (λ z. z.tag) (e ∙ sym d)))
      low u x (Memᴰ.head e) (Memᴰ.tail m) p q = absurd (older u x e m (p, omega arith))
      low u x (Memᴰ.tail m) (Memᴰ.head d) p q =
          a.low u m (p ∙ ap (λ z. z.writer) d) (omega (arith, ap (λ z. z.tag) d))
      low u x (Memᴰ.tail m) (Memᴰ.tail m') p q = b.low u x m m' p q

      segment : (j : ℕ) (u x : Value) → x ∈ from j → u ∈ (v ∷ all) → UpTo u x → u ∈ from j
      segment j u x m (Memᴰ.head e) h = absurd (older u x e (b.known j x m) h)
      segment j u x m (Memᴰ.tail y) h = b.segment j u x m y h

  arrives_more : Arrives n all from maxtag k v → Arrives n (v ∷ all) from maxtag k v
  arrives_more a = record {
    tagged = a.tagged;
    writer = a.writer;
    rise = a.rise;
    seen = λ u m h. Memᴰ.head refl;
    older = λ u m e h. a.older u (not-v u m h) e h;
    low = λ u m e h. a.low u (not-v u m h) e h;
  }
    where
      not-v : (u : Value) → u ∈ (v ∷ all) → u.tag < v.tag → u ∈ all
      not-v u (Memᴰ.head e) h = absurd (omega (arith, ap (λ z. z.tag) e))
      not-v u (Memᴰ.tail m) h = m

module _ (n : ℕ) where
  abbrev Tidy : Node → Log → Type 0
  Tidy ν l = BoundedNode n ν

  -- An operation that moves on changes neither the sets nor maxtag.
  moves : (f i : ℕ) → Moves n f i Tidy Tidy (λ e. Tidy)
  moves f i = record {
    stays = λ ν l x. x;
    spends = λ ν l p u s q z x. x;
    updates = λ ν l p u s q x. x;
    scans = λ ν l u s q x. x;
    compares = λ ν l o r t s q x. x;
    passes = λ ν l o t h x. x;
    ends = λ ν l o r t z h x. x;
    fails = λ ν l o r r' t h x. x;
    borrows = λ ν l o t h x. x;
    lends = λ ν l o t x. x;
  }

  pub reacts : (k : ℕ) (m : Message) (ν : Node) → BoundedNode n ν → Expected n k ν m → BoundedNode n (react k m ν).node
  reacts k (read q) ν b a = b
  reacts k (read_answer to q t) ν b a =
      read-cases (λ w. Unit {0}) (BoundedNode n) k q t ν ν.wait tt (λ is. b) (λ o s u e x. b)
  reacts k (write q t) ν b a = raise-by (λ s. BoundedNode n (s then sending (write_answer k q t ∷ [])).node) t ν
      (λ h. bounded-raised b t (omega arith)) (λ h. b)
  reacts k (write_answer to q t) ν b a =
      write-cases (λ w. Unit {0}) (BoundedNode n) k q t ν ν.wait tt (λ is. b) (λ o r u s e d x. b)
  reacts k (echo t) ν b a = raise-by (λ s. BoundedNode n s.node) t ν (λ h. bounded-raised b t (omega arith)) (λ h. b)
  reacts k (value v) ν b a = receive-by (λ s. BoundedNode n s.node) k v ν (λ m. heard-more b a m)
      (λ new. heard-more (more-values b a new) (arrives_more a) (Memᴰ.head refl))
  reacts k (good t v) ν b a = b

  pub bounded-message : (f i k : ℕ) (m : Message) (ν : Node) → BoundedNode n ν → Expected n k ν m
      → BoundedNode n (message_step n f i k m ν).node
  bounded-message f i k m ν b a = left Tidy (message_step n f i k m ν).ending
      (message-leaves (moves f i) k m ν [] (reacts k m ν b a))

  pub bounded-begin : (f i : ℕ) (op : Operation) (ν : Node) → BoundedNode n ν
      → BoundedNode n (begin_step n f i op ν).node
  bounded-begin f i op ν b = left Tidy (begin_step n f i op ν).ending (begin-leaves (moves f i) op ν [] b)
