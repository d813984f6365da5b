-- What a step does to the wait of its node, and which values it sends: an idle node stays idle; one that reads goes on
-- reading, or opens a round, an update with its value, or is spent; one past its reading stays so, or ends.
use Prim.Native.Nat.{ℕ, suc, ◌+◌, ◌-◌, ◌≤◌, ◌<◌, max}
use native.Mathlib.Omega.{arith}
use mathlib.Core.Path.{◌≡◌, refl, ap, subst}
use mathlib.Core.Logic.{◌⊎◌, inl, inr, ite}
use mathlib.Core.List.Memᴰ
use mathlib.Core.List.{List, [], ◌∷◌}
use Rattle.logs.specs.Count.{count}
use Rattle.logs.proofs.Count.{count_none}
use Rattle.logs.specs.Log.{◌∈◌, push}
use Rattle.logs.proofs.Log.{push-new}
use Rattle.history.specs.Message.{Value, of, View, Message, write, value, good}
use Rattle.history.specs.Event.{Operation, update, scan, Rule, direct, borrowed, Round, round0, round1, round3, Ending}
use Rattle.history.specs.Event.{none, done, shown, spent}
use Rattle.algorithm.specs.Algorithm.{Nodes, nobody, Wait, idle, reading, writing, comparing, borrowing, Node}
use Rattle.algorithm.specs.Algorithm.{with_wait, quorum?, finish}
use Rattle.algorithm.proofs.Cert.{Log, IsValue, value≢write}
use Rattle.algorithm.proofs.Read.{read_tag}
use Rattle.algorithm.proofs.Passes.{Claim}
use Rattle.algorithm.proofs.MoveOn.{Moves}

abbrev pub Rests : Wait → Type 0
Rests idle = Unit {0}
Rests (reading o s u) = ⊥
Rests (writing o r t s) = ⊥
Rests (comparing o r t) = ⊥
Rests (borrowing o t) = ⊥

abbrev pub Reads : Wait → Type 0
Reads idle = ⊥
Reads (reading o s u) = Unit {0}
Reads (writing o r t s) = ⊥
Reads (comparing o r t) = ⊥
Reads (borrowing o t) = ⊥

-- The operation is past its reading.
abbrev pub Staged : Wait → Type 0
Staged idle = ⊥
Staged (reading o s u) = ⊥
Staged (writing o r t s) = Unit {0}
Staged (comparing o r t) = Unit {0}
Staged (borrowing o t) = Unit {0}

-- The wait's operation is op.
abbrev pub Of : Operation → Wait → Type 0
Of op idle = Unit {0}
Of op (reading o s u) = o ≡ op
Of op (writing o r t s) = o ≡ op
Of op (comparing o r t) = o ≡ op
Of op (borrowing o t) = o ≡ op

-- A round that has just opened.
abbrev pub Opened : Wait → Type 0
Opened w = (o : Operation) × (r : Round) × (t : ℕ) × (w ≡ writing o r t nobody)

-- What comes after the answers to a write.
abbrev pub Later : Wait → Type 0
Later idle = ⊥
Later (reading o s u) = ⊥
Later (writing o r t s) = ⊥
Later (comparing o r t) = Unit {0}
Later (borrowing o t) = Unit {0}

later-not-reading : (w : Wait) → Later w → Reads w → ⊥
later-not-reading (comparing o r t) h x = x
later-not-reading (borrowing o t) h x = x
later-not-reading _ h x = elim h [ ]

abbrev pub answered : Wait → Nodes
answered idle = nobody
answered (reading o s u) = s
answered (writing o r t s) = s
answered (comparing o r t) = nobody
answered (borrowing o t) = nobody

-- The values in a list are such as K says.
abbrev pub Only : (Value → Type 0) → List Message → Type 0
Only K l = (v : Value) → value v ∈ l → K v

-- The list has the operation's own value, and otherwise only such values.
abbrev pub Makes : (i r : ℕ) → Operation → (Value → Type 0) → List Message → Type 0
Makes i r (update p) K l = (value (of (suc r) i p) ∈ l) × Only (λ v. K v ⊎ (v ≡ of (suc r) i p)) l
Makes i r scan K l = Only K l

-- The ending of an operation past its reading, and of one that reads.
abbrev pub EndsBy : (Value → Type 0) → Ending → Wait → List Message → Type 0
EndsBy K none w l = ⊥
EndsBy K (done rule v) w l = Rests w × Only K l
EndsBy K (shown rule v) w l = Rests w × Only K l
EndsBy K spent w l = ⊥

abbrev pub SpentBy : (Value → Type 0) → Ending → Wait → List Message → Type 0
SpentBy K none w l = ⊥
SpentBy K (done rule v) w l = ⊥
SpentBy K (shown rule v) w l = ⊥
SpentBy K spent w l = Rests w × Only K l

module _ (K : Value → Type 0) where
  -- A message that is no value brings none.
  pub plain : (m : Message) {l : List Message} → (IsValue m → ⊥) → Only K l → Only K (m ∷ l)
  plain m other h v (Memᴰ.head e) = absurd (other (subst IsValue e tt))
  plain m other h v (Memᴰ.tail x) = h v x

  -- Of the log after a list, and of the list.
  pub listed : (l : List Message) → Only K (push l []) → Only K l
  listed l h v m = h v (push-new [] m)

  -- An idle node does not move on.
  pub rest-moves : (n f i : ℕ) → Moves n f i (λ ν l. Rests ν.wait × Only K l) (λ ν l. Rests ν.wait × Only K l)
      (λ e ν l. ⊥)
  rest-moves n f i = record {
    stays = λ ν l h. h;
    spends = λ ν l p u s q z h. h.0;
    updates = λ ν l p u s q h. absurd h.0;
    scans = λ ν l u s q h. absurd h.0;
    compares = λ ν l o r t s q h. absurd h.0;
    passes = λ ν l o t le h. absurd h.0;
    ends = λ ν l o r t z le h. h.0;
    fails = λ ν l o r r' t lt h. absurd h.0;
    borrows = λ ν l o t lt h. absurd h.0;
    lends = λ ν l o t h. h.0;
  }

  finishes : (op : Operation) (rule : Rule) (v : View) (l : List Message) → Only K l
      → EndsBy K (finish op rule v) idle l
  finishes (update p) rule v l h = (tt, h)
  finishes scan rule v l h = (tt, h)

  -- An operation past its reading stays so, or ends.
  pub staged-moves : (n f i : ℕ) → Moves n f i (λ ν l. Staged ν.wait × Only K l) (λ ν l. Staged ν.wait × Only K l)
      (λ e ν l. EndsBy K e ν.wait l)
  staged-moves n f i = record {
    stays = λ ν l h. h;
    spends = λ ν l p u s q z h. h.0;
    updates = λ ν l p u s q h. absurd h.0;
    scans = λ ν l u s q h. absurd h.0;
    compares = λ ν l o r t s q h. (tt, h.1);
    passes = λ ν l o t le h. (tt, plain (write _ _) (λ x. x) (plain (good _ _) (λ x. x) h.1));
    ends = λ ν l o r t z le h. finishes o (direct r) _ _ (plain (good _ _) (λ x. x) h.1);
    fails = λ ν l o r r' t lt h. (tt, plain (write _ _) (λ x. x) h.1);
    borrows = λ ν l o t lt h. (tt, h.1);
    lends = λ ν l o t h. finishes o borrowed _ l h.1;
  }

  -- An operation that reads: it will have read r' if there is a quorum of answers.
  module _ (n f i : ℕ) (half : f + f < n) (op : Operation) (r r' : ℕ) where
    pub record Asking (ν : Node) (l : List Message) : Type 0 where
      pub reads : Reads ν.wait
      pub same_op : Of op ν.wait
      pub tag : read_tag n f r ν ν.wait ≡ r'
      pub only : Only K l

    abbrev pub Asks : Claim
    Asks ν l = Asking ν l ⊎ (Opened ν.wait × Makes i r' op K l)

    not-reading : {w : Wait} → Opened w → Reads w → ⊥
    not-reading (o, rnd, t, e) h = subst Reads e h

    read_is : {P : Type 0} (d : Dec P) (a : ℕ) → P → ite d a r ≡ r' → a ≡ r'
    read_is (yes h) a p e = e
    read_is (no h) a p e = absurd (h p)

    compared : (ν : Node) (l : Log) → Later ν.wait → Asks ν l → ⊥
    compared ν l h (inl a) = later-not-reading ν.wait h a.reads
    compared ν l h (inr ((o, rnd, t, e), x)) = subst Later e h

    spends : (ν : Node) (l : Log) (o : Operation) (s : Nodes) (u : ℕ) → Asks (with_wait (reading o s u) ν) l
        → Unit {0} × Only K l
    spends ν l o s u (inl a) = (tt, a.only)
    spends ν l o s u (inr (o', x)) = absurd (not-reading o' tt)

    makes : (l : Log) (p q t : ℕ) → Only K l → Makes i t (update p) K (write q t ∷ value (of (suc t) i p) ∷ l)
    makes l p q t only = (Memᴰ.tail (Memᴰ.head refl), own)
      where
        own : (v : Value) → value v ∈ (write q t ∷ value (of (suc t) i p) ∷ l) → K v ⊎ (v ≡ of (suc t) i p)
        own v (Memᴰ.head e) = absurd (value≢write e)
        own v (Memᴰ.tail (Memᴰ.head e)) = inr (cc e)
        own v (Memᴰ.tail (Memᴰ.tail m)) = inl (only v m)

    updates : (ν : Node) (l : Log) (p u : ℕ) (s : Nodes) → n - f ≤ count s n
        → Asks (with_wait (reading (update p) s u) ν) l
        → let t = max u ν.maxtag in Opened (writing (update p) round0 t nobody)
        × Makes i r' op K (write (suc ν.request) t ∷ value (of (suc t) i p) ∷ l)
    updates ν l p u s q (inr (o, x)) = absurd (not-reading o tt)
    updates ν l p u s q (inl a) =
        let t = max u ν.maxtag in
        let l' : Log = write (suc ν.request) t ∷ value (of (suc t) i p) ∷ l in (
          (update p, round0, t, refl),
          subst (λ z. Makes i z op K l') (read_is (quorum? n f s) t q a.tag)
              (subst (λ z. Makes i t z K l') a.same_op (makes l p (suc ν.request) t a.only)),
        )

    scans : (ν : Node) (l : Log) (u : ℕ) (s : Nodes) → n - f ≤ count s n → Asks (with_wait (reading scan s u) ν) l
        → let t = max u ν.maxtag in Opened (writing scan round1 t nobody)
        × Makes i r' op K (write (suc ν.request) t ∷ l)
    scans ν l u s q (inr (o, x)) = absurd (not-reading o tt)
    scans ν l u s q (inl a) =
        let t = max u ν.maxtag in (
          (scan, round1, t, refl),
          subst (λ z. Makes i r' z K (write (suc ν.request) t ∷ l)) a.same_op
              (plain (write (suc ν.request) t) (λ x. x) a.only),
        )

    -- A round that has just opened has no quorum.
    opened : (ν : Node) (l : Log) (o : Operation) (rnd : Round) (t : ℕ) (s : Nodes) → n - f ≤ count s n
        → Asks (with_wait (writing o rnd t s) ν) l → ⊥
    opened ν l o rnd t s q (inl a) = a.reads
    opened ν l o rnd t s q (inr ((o', rnd', t', e), x)) =
        omega (arith, subst (λ z. n - f ≤ count z n) (ap answered e) q, count_none n)

    pub ask-moves : Moves n f i Asks Asks (λ e ν l. SpentBy K e ν.wait l)
    ask-moves = record {
      stays = λ ν l h. h;
      spends = λ ν l p u s q z h. spends ν l (update p) s u h;
      updates = λ ν l p u s q h. inr (updates ν l p u s q h);
      scans = λ ν l u s q h. inr (scans ν l u s q h);
      compares = λ ν l o rnd t s q h. absurd (opened ν l o rnd t s q h);
      passes = λ ν l o t le h. absurd (compared (with_wait (comparing o round0 t) ν) l tt h);
      ends = λ ν l o rnd t z le h. absurd (compared (with_wait (comparing o rnd t) ν) l tt h);
      fails = λ ν l o rnd rnd' t lt h. absurd (compared (with_wait (comparing o rnd t) ν) l tt h);
      borrows = λ ν l o t lt h. absurd (compared (with_wait (comparing o round3 t) ν) l tt h);
      lends = λ ν l o t h. absurd (compared (with_wait (borrowing o t) ν) l tt h);
    }
