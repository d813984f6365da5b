-- How an open operation moves on, as a list of its moves: what each of them keeps, a step keeps.
use Prim.Native.Nat.{ℕ, suc, ◌-◌, ◌≤◌, ◌<◌, max}
use native.Mathlib.Omega.{arith}
use native.Mathlib.Decide.{ℕ_discrete, dec_le}
use mathlib.Core.Path.{◌≡◌, subst}
use mathlib.Core.Logic.{ite}
use mathlib.Core.List.{[], ◌∷◌}
use Rattle.logs.specs.Count.{count}
use Rattle.logs.specs.Log.{push}
use Rattle.history.specs.Message.{of, Message, read, write, value, good}
use Rattle.history.specs.Event.{Operation, update, scan, direct, borrowed, Round, round0, round1, round2, round3, spent}
use Rattle.algorithm.specs.Algorithm.{limit, Nodes, nobody, Wait, idle, reading, writing, comparing, borrowing}
use Rattle.algorithm.specs.Algorithm.{Node, Step, ended, still, sending, ◌then◌, with_wait, asking, agrees}
use Rattle.algorithm.specs.Algorithm.{quorum?, kept, view_upto, opening, finish, after_read, after_good, after_failed}
use Rattle.algorithm.specs.Algorithm.{read_pass, write_pass, compare_pass, borrow_pass, move_on, react, message_step}
use Rattle.algorithm.specs.Algorithm.{begin_step}
use Rattle.algorithm.proofs.Cert.{Log}
use Rattle.algorithm.proofs.Passes.{Claim, Final, Leaves, move-leaves, finished, reacted}

-- The node that asks for a write of tag t, in round r.
abbrev pub writes : Operation → Round → ℕ → Node → Node
writes op r t ν = asking (writing op r t nobody) ν

-- Rounds 1 to 3, after which an operation may end.
abbrev pub Last : Round → Type 0
Last round0 = ⊥
Last round1 = Unit {0}
Last round2 = Unit {0}
Last round3 = Unit {0}

-- P holds of node i and its log until sets are compared, Q from then on, and E of the ending if the operation ends.
pub record Moves (n f i : ℕ) (P Q : Claim) (E : Final) : Type 0 where
  pub stays : (ν : Node) (l : Log) → P ν l → Q ν l
  -- No tag is left for the update.
  pub spends : (ν : Node) (l : Log) (p u : ℕ) (s : Nodes) → n - f ≤ count s n → max u ν.maxtag ≡ limit
      → P (with_wait (reading (update p) s u) ν) l → E spent (with_wait idle ν) l
  -- A quorum of read answers: round 0 of an update, round 1 of a scan.
  pub updates : (ν : Node) (l : Log) (p u : ℕ) (s : Nodes) → n - f ≤ count s n
      → P (with_wait (reading (update p) s u) ν) l → let t = max u ν.maxtag in
      P (writes (update p) round0 t ν) (write (suc ν.request) t ∷ value (of (suc t) i p) ∷ l)
  pub scans : (ν : Node) (l : Log) (u : ℕ) (s : Nodes) → n - f ≤ count s n
      → P (with_wait (reading scan s u) ν) l
      → let t = max u ν.maxtag in P (writes scan round1 t ν) (write (suc ν.request) t ∷ l)
  -- A quorum of write answers.
  pub compares : (ν : Node) (l : Log) (op : Operation) (r : Round) (t : ℕ) (s : Nodes) → n - f ≤ count s n
      → P (with_wait (writing op r t s) ν) l → P (with_wait (comparing op r t) ν) l
  -- A good round 0, a later good round, and a failed one.
  pub passes : (ν : Node) (l : Log) (op : Operation) (t : ℕ) → ν.maxtag ≤ t → P (with_wait (comparing op round0 t) ν) l
      → Q (writes op round1 (suc t) ν) (write (suc ν.request) (suc t) ∷ good t (view_upto n t ν.all) ∷ l)
  pub ends : (ν : Node) (l : Log) (op : Operation) (r : Round) (t : ℕ) → Last r → ν.maxtag ≤ t
      → P (with_wait (comparing op r t) ν) l → let view = view_upto n t ν.all in
      E (finish op (direct r) view) (with_wait idle ν) (good t view ∷ l)
  pub fails : (ν : Node) (l : Log) (op : Operation) (r r' : Round) (t : ℕ) → t < ν.maxtag
      → P (with_wait (comparing op r t) ν) l → Q (writes op r' ν.maxtag ν) (write (suc ν.request) ν.maxtag ∷ l)
  pub borrows : (ν : Node) (l : Log) (op : Operation) (t : ℕ) → t < ν.maxtag
      → P (with_wait (comparing op round3 t) ν) l → Q (with_wait (borrowing op t) ν) l
  -- A view is lent.
  pub lends : (ν : Node) (l : Log) (op : Operation) (t : ℕ) → Q (with_wait (borrowing op t) ν) l
      → E (finish op borrowed (kept n ν.goods).view) (with_wait idle ν) l

module _ {n f i : ℕ} {P Q : Claim} {E : Final} (c : Moves n f i P Q E) where
  abbrev Before : Log → Step → Type 0
  Before l s = Leaves P E l s

  abbrev After : Log → Step → Type 0
  After l s = Leaves Q E l s

  read-moves : (ν : Node) (l : Log) (w : Wait) → P (with_wait w ν) l → Before l (read_pass n f i (with_wait w ν) w)
  read-moves ν l idle h = h
  read-moves ν l (writing op r t s) h = h
  read-moves ν l (comparing op r t) h = h
  read-moves ν l (borrowing op t) h = h
  read-moves ν l (reading scan s u) h = go (quorum? n f s)
    where
      ν' : Node
      ν' = with_wait (reading scan s u) ν

      go : (d : Dec (n - f ≤ count s n)) → Before l (ite d (after_read i (max u ν.maxtag) scan ν') (still ν'))
      go (yes x) = c.scans ν l u s x h
      go (no x) = h
  read-moves ν l (reading (update p) s u) h = go (quorum? n f s) (ℕ_discrete t limit)
    where
      t : ℕ
      t = max u ν.maxtag

      ν' : Node
      ν' = with_wait (reading (update p) s u) ν

      go : (d : Dec (n - f ≤ count s n)) (d' : Dec (t ≡ limit)) → Before l (ite d (ite d'
          (ended spent [] (with_wait idle ν'))
          (sending (value (of (suc t) i p) ∷ []) ν' then opening (update p) round0 t)) (still ν'))
      go (yes x) (yes y) = c.spends ν l p u s x y h
      go (yes x) (no y) = c.updates ν l p u s x h
      go (no x) d' = h

  write_moves : (ν : Node) (l : Log) (w : Wait) → P (with_wait w ν) l → Before l (write_pass n f (with_wait w ν) w)
  write_moves ν l idle h = h
  write_moves ν l (reading op s u) h = h
  write_moves ν l (comparing op r t) h = h
  write_moves ν l (borrowing op t) h = h
  write_moves ν l (writing op r t s) h = go (quorum? n f s)
    where
      go : (d : Dec (n - f ≤ count s n))
          → Before l (ite d (still (with_wait (comparing op r t) ν)) (still (with_wait (writing op r t s) ν)))
      go (yes x) = c.compares ν l op r t s x h
      go (no x) = h

  good-moves : (ν : Node) (l : Log) (op : Operation) (r : Round) (t : ℕ) → ν.maxtag ≤ t
      → P (with_wait (comparing op r t) ν) l
      → After l (after_good op r t (view_upto n t ν.all) (with_wait (comparing op r t) ν))
  good-moves ν l op round0 t le h = subst
      (λ x. Q (writes op round1 x ν) (write (suc ν.request) x ∷ good t (view_upto n t ν.all) ∷ l)) (omega arith)
      (c.passes ν l op t le h)
  good-moves ν l op round1 t le h = finished Q E op (direct round1) _ _ _ (c.ends ν l op round1 t tt le h)
  good-moves ν l op round2 t le h = finished Q E op (direct round2) _ _ _ (c.ends ν l op round2 t tt le h)
  good-moves ν l op round3 t le h = finished Q E op (direct round3) _ _ _ (c.ends ν l op round3 t tt le h)

  failed-moves : (ν : Node) (l : Log) (op : Operation) (r : Round) (t : ℕ) → t < ν.maxtag
      → P (with_wait (comparing op r t) ν) l → After l (after_failed op r t (with_wait (comparing op r t) ν))
  failed-moves ν l op round0 t lt h = subst (λ x. Q (writes op round1 x ν) (write (suc ν.request) x ∷ l))
      (omega arith) (c.fails ν l op round0 round1 t lt h)
  failed-moves ν l op round1 t lt h = c.fails ν l op round1 round2 t lt h
  failed-moves ν l op round2 t lt h = c.fails ν l op round2 round3 t lt h
  failed-moves ν l op round3 t lt h = c.borrows ν l op t lt h

  compare-moves : (ν : Node) (l : Log) (w : Wait) → P (with_wait w ν) l → After l (compare_pass n f i (with_wait w ν) w)
  compare-moves ν l idle h = c.stays _ l h
  compare-moves ν l (reading op s u) h = c.stays _ l h
  compare-moves ν l (writing op r t s) h = c.stays _ l h
  compare-moves ν l (borrowing op t) h = c.stays _ l h
  compare-moves ν l (comparing op r t) h = go (quorum? n f (agrees i ν' t)) (dec_le ν.maxtag t)
    where
      ν' : Node
      ν' = with_wait (comparing op r t) ν

      go : (d : Dec (n - f ≤ count (agrees i ν' t) n)) (d' : Dec (ν.maxtag ≤ t)) → After l
          (ite d (ite d' (after_good op r t (view_upto n t ν.all) ν') (after_failed op r t ν')) (still ν'))
      go (yes x) (yes y) = good-moves ν l op r t y h
      go (yes x) (no y) = failed-moves ν l op r t (omega arith) h
      go (no x) d' = c.stays _ l h

  borrow-moves : (ν : Node) (l : Log) (w : Wait) → Q (with_wait w ν) l → After l (borrow_pass n (with_wait w ν) w)
  borrow-moves ν l idle h = h
  borrow-moves ν l (reading op s u) h = h
  borrow-moves ν l (writing op r t s) h = h
  borrow-moves ν l (comparing op r t) h = h
  borrow-moves ν l (borrowing op t) h = go (dec_le t (kept n ν.goods).tag)
    where
      go : (d : Dec (t ≤ (kept n ν.goods).tag)) → After l (ite d
          (ended (finish op borrowed (kept n ν.goods).view) [] (with_wait idle ν))
          (still (with_wait (borrowing op t) ν)))
      go (yes x) = finished Q E op borrowed _ _ _ (c.lends ν l op t h)
      go (no x) = h

  moved : (s : Step) (l : Log) → Before l s → After l (move_on n f i s)
  moved s l h = move-leaves n f i P P P Q Q E s l h read-moves write_moves compare-moves borrow-moves

  -- The two steps of a node.
  pub message-leaves : (k : ℕ) (m : Message) (ν : Node) (l : Log) → P (react k m ν).node (push (react k m ν).sent l)
      → Leaves Q E l (message_step n f i k m ν)
  message-leaves k m ν l h = moved (react k m ν) l (reacted P E l k m ν h)

  pub begin-leaves : (op : Operation) (ν : Node) (l : Log)
      → P (asking (reading op nobody 0) ν) (read (suc ν.request) ∷ l) → Leaves Q E l (begin_step n f i op ν)
  begin-leaves op ν l h = moved (sending (read (suc ν.request) ∷ []) (asking (reading op nobody 0) ν)) l h
