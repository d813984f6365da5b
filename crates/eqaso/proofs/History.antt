-- What the sites know of the operations in the book: every ended operation has left its certificate, every value that
-- was let out is that of an update in the book, and the open operation of a node is the one that its wait speaks of.
use Prim.Native.Nat.{ℕ, suc, ◌<◌}
use mathlib.Core.Path.{◌≡◌, refl, sym, subst}
use mathlib.Core.Logic.{◌⊎◌, inl, inr, ◌↔◌}
use mathlib.Core.Bool.{Bool, false}
use mathlib.Core.List.{◌∷◌}
use Rattle.logs.specs.Log.{◌∈◌, ◌⊑◌, here, more}
use Rattle.logs.proofs.Log.{⊑_trans, mem_up, place, comparable}
use Rattle.history.specs.Message.{Value, of, View, value}
use Rattle.history.specs.Event.{Operation, update, scan, none, done, shown, spent}
use Rattle.history.specs.Trace.{Begun, nothing, updating, scanning, Fate, unfinished, ended}
use Rattle.history.specs.Order.{OneTo, EndedBefore}
use Rattle.algorithm.specs.Algorithm.{Wait, idle, reading, writing, comparing, borrowing}
use Rattle.algorithm.proofs.Cert.{Log, Logs, ◌≼◌, carry}
use Rattle.algorithm.proofs.Local.{Settled, Known}
use Rattle.algorithm.proofs.Grow.{settled_up}
use Rattle.algorithm.proofs.Sites.{Site, Sites, logs}
use Rattle.eqaso.proofs.Course.{Rests, Reads, Staged}
use Rattle.eqaso.proofs.Book.{Book, IdleAt, OpenAt}

-- What begins at node c with an operation.
abbrev pub kind_of : ℕ → Operation → Begun
kind_of c (update p) = updating c p
kind_of c scan = scanning c

-- The tag of an open operation that has read r.
abbrev pub Tagged : Operation → ℕ → ℕ → Type 0
Tagged (update p) r s = s ≡ suc r
Tagged scan r s = Unit {0}

-- The value is that of an update in the book.
abbrev pub Booked : Book → Value → Type 0
Booked B v = (u : ℕ) × (B.begun u ≡ updating v.writer v.report) × (B.tag u ≡ v.tag) × (0 < v.tag)

-- The log has x, and every place of it comes after u.
abbrev pub Behind : Value → Value → Log → Type 0
Behind u x l = (value x ∈ l) × ((a : Log) → (value x ∷ a) ⊑ l → value u ∈ a)

pub behind-up : {u x : Value} {l l' : Log} → l ⊑ l' → Behind u x l → Behind u x l'
behind-up {u} {x} {l} {l'} up (m, h) = (mem_up up m, λ a at. go a (comparable at up))
  where
    old : (a : Log) → (value x ∷ a) ⊑ l → value u ∈ a
    old = h

    step : (a b : Log) → l ≡ b → b ⊑ (value x ∷ a) → value u ∈ a
    step a b e here = h a (subst (λ z. (value x ∷ a) ⊑ z) (sym e) here)
    step a b e (more p) = let (c, at) =
        place m in mem_up (⊑_trans (more here) (⊑_trans at (subst (λ z. z ⊑ a) (sym e) p))) (h c at)

    go : (a : Log) → ((value x ∷ a) ⊑ l) ⊎ (l ⊑ (value x ∷ a)) → value u ∈ a
    go a (inl p) = h a p
    go a (inr p) = step a l refl p

module _ (n f : ℕ) where
  abbrev pub Certified : Logs → View → Type 0
  Certified lg v = (T : ℕ) × Known n f lg T v

  -- What an ended operation has left in the logs.
  abbrev pub Left : Logs → Begun → Fate → ℕ → Type 0
  Left lg nothing x s = Unit {0}
  Left lg (updating c p) unfinished s = Unit {0}
  Left lg (updating c p) (ended k none) s = Unit {0}
  Left lg (updating c p) (ended k (done r v)) s = Certified lg v × Settled n f lg (of s c p)
  Left lg (updating c p) (ended k (shown r v)) s = Unit {0}
  Left lg (updating c p) (ended k spent) s = Unit {0}
  Left lg (scanning c) unfinished s = Unit {0}
  Left lg (scanning c) (ended k none) s = Unit {0}
  Left lg (scanning c) (ended k (done r v)) s = Unit {0}
  Left lg (scanning c) (ended k (shown r v)) s = Certified lg v
  Left lg (scanning c) (ended k spent) s = Unit {0}

  abbrev pub LeftIn : Logs → Book → ℕ → Type 0
  LeftIn lg B a = Left lg (B.begun a) (B.fate a) (B.tag a)

  -- The operation op of node c is the open one at index t, and what had ended before has left it in base.
  pub record Runs (B : Book) (c : ℕ) (op : Operation) (base : Logs) (t : ℕ) : Type 0 where
    pub unended : OpenAt B c t
    pub kind : B.begun t ≡ kind_of c op
    pub prior : (a : ℕ) → EndedBefore (B.fate a) t → LeftIn base B a

  -- What the wait of a standing node says of the book.
  abbrev pub Mode : (B : Book) (c : ℕ) (op : Operation) (r : ℕ) (base : Logs) → Wait → Type 0
  Mode B c op r base idle = IdleAt B c
  Mode B c op r base (reading o s u) = (t : ℕ) × Runs B c op base t × (B.tag t ≡ 0)
  Mode B c op r base (writing o rnd u s) = (t : ℕ) × Runs B c op base t × Tagged op r (B.tag t)
  Mode B c op r base (comparing o rnd u) = (t : ℕ) × Runs B c op base t × Tagged op r (B.tag t)
  Mode B c op r base (borrowing o u) = (t : ℕ) × Runs B c op base t × Tagged op r (B.tag t)

  abbrev pub ModeAt : Book → ℕ → Site → Type 0
  ModeAt B c s = Mode B c s.op s.tag s.past.base s.node.wait

  -- The same by the kind of the wait.
  pub mode-rests : (B : Book) (c : ℕ) (op : Operation) (r : ℕ) (base : Logs) (w : Wait) → Rests w
      → Mode B c op r base w ↔ IdleAt B c
  mode-rests B c op r base idle h = (λ x. x, λ x. x)
  mode-rests B c op r base _ h = elim h [ ]

  pub mode-reads : (B : Book) (c : ℕ) (op : Operation) (r : ℕ) (base : Logs) (w : Wait) → Reads w
      → Mode B c op r base w ↔ ((t : ℕ) × Runs B c op base t × (B.tag t ≡ 0))
  mode-reads B c op r base (reading o s u) h = (λ x. x, λ x. x)
  mode-reads B c op r base _ h = elim h [ ]

  pub mode-staged : (B : Book) (c : ℕ) (op : Operation) (r : ℕ) (base : Logs) (w : Wait) → Staged w
      → Mode B c op r base w ↔ ((t : ℕ) × Runs B c op base t × Tagged op r (B.tag t))
  mode-staged B c op r base (reading _ answered largest) h = elim h [ ]
  mode-staged B c op r base idle h = elim h [ ]
  mode-staged B c op r base (writing o rnd u s) h = (λ x. x, λ x. x)
  mode-staged B c op r base (comparing o rnd u) h = (λ x. x, λ x. x)
  mode-staged B c op r base (borrowing o u) h = (λ x. x, λ x. x)

  pub record History (stopped : ℕ → Bool) (σ : Sites) (gone : ℕ → Logs) (B : Book) : Type 0 where
    pub modes : (c : ℕ) → stopped c ≡ false → ModeAt B c (σ c)
    pub left : (a : ℕ) → LeftIn (logs σ) B a
    pub booked : (a b : ℕ) (v : Value) → OneTo n b → value v ∈ gone a b → Booked B v
    pub behind : (u x c d p q : ℕ) → B.begun u ≡ updating c p → B.begun x ≡ updating d q → EndedBefore (B.fate u) x
        → 0 < B.tag u → 0 < B.tag x → Behind (of (B.tag u) c p) (of (B.tag x) d q) (σ d).log

  pub certified-up : {lg lg' : Logs} {v : View} → lg ≼ lg' → Certified lg v → Certified lg' v
  certified-up up (T, (A, is, G)) = (T, (A, is, carry up G))

  pub left_up : {lg lg' : Logs} (up : lg ≼ lg') (b : Begun) (x : Fate) (s : ℕ) → Left lg b x s → Left lg' b x s
  left_up up nothing x s h = tt
  left_up up (updating c p) unfinished s h = tt
  left_up up (updating c p) (ended k none) s h = tt
  left_up up (updating c p) (ended k (done r v)) s h = (certified-up up h.0, settled_up n f up h.1)
  left_up up (updating c p) (ended k (shown r v)) s h = tt
  left_up up (updating c p) (ended k spent) s h = tt
  left_up up (scanning c) unfinished s h = tt
  left_up up (scanning c) (ended k none) s h = tt
  left_up up (scanning c) (ended k (done r v)) s h = tt
  left_up up (scanning c) (ended k (shown r v)) s h = certified-up up h
  left_up up (scanning c) (ended k spent) s h = tt
