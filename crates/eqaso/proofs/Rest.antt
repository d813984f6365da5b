-- After every step the node must wait: what it waits for has not come yet.
use Prim.Native.Nat.{ℕ, suc, ◌-◌, ◌≤◌, ◌<◌, max}
use native.Mathlib.Omega.{arith}
use native.Mathlib.Decide.{ℕ_discrete, dec_le}
use mathlib.Core.Logic.{ite}
use mathlib.Core.Bool.{Bool, true, false}
use mathlib.Core.List.{[], ◌∷◌}
use Rattle.logs.specs.Count.{count}
use Rattle.logs.proofs.Count.{count_none}
use Rattle.history.specs.Message.{of, View, Message, read, value}
use Rattle.history.specs.Event.{Operation, update, scan, direct, borrowed, Round, round0, round1, round2, round3, spent}
use Rattle.algorithm.specs.Algorithm.{limit, nobody, Wait, idle, reading, writing, comparing, borrowing, Node, Step}
use Rattle.algorithm.specs.Algorithm.{still, sending, ended, ◌then◌, opening, with_wait, asking, agrees, quorum?, kept}
use Rattle.algorithm.specs.Algorithm.{view_upto, finish, after_read, after_good, after_failed, read_pass, write_pass}
use Rattle.algorithm.specs.Algorithm.{compare_pass, borrow_pass, move_on, react, message_step, begin_step}
use Rattle.algorithm.proofs.Cert.{Log}
use Rattle.algorithm.proofs.Passes.{Leaves, move-leaves, finished, left, reacted}

-- Only once the pass has been tried.
abbrev once : Bool → Type 0 → Type 0
once true P = P
once false P = Unit {0}

module _ (n f i : ℕ) where
  -- What the node waits for has not come. The passes that have been tried are the first, and w, c, b of the others.
  abbrev Tried : (w c b : Bool) → Node → Wait → Type 0
  Tried w c b ν idle = Unit {0}
  Tried w c b ν (reading op s u) = count s n < n - f
  Tried w c b ν (writing op r t s) = once w (count s n < n - f)
  Tried w c b ν (comparing op r t) = once c (count (agrees i ν t) n < n - f)
  Tried w c b ν (borrowing op t) = once b ((kept n ν.goods).tag < t)

  abbrev pub Rests : Node → Type 0
  Rests ν = Tried true true true ν ν.wait

  abbrev After : (w c b : Bool) → Log → Step → Type 0
  After w c b l s = Leaves (λ ν l. Tried w c b ν ν.wait) (λ e ν l. Rests ν) l s

  few : (s : ℕ → Bool) → ¬ (n - f ≤ count s n) → count s n < n - f
  few s h = omega arith

  module _ (some : 0 < n - f) where
    none_yet : count nobody n < n - f
    none_yet = omega (arith, count_none n)

    after-read : (u : ℕ) (op : Operation) (ν : Node) (l : Log) → After false false false l (after_read i u op ν)
    after-read u scan ν l = tt
    after-read u (update p) ν l = elim (ℕ_discrete u limit)
        as (λ d. After false false false l (ite d (ended spent [] (with_wait idle ν)) own)) [ yes h ↦ tt | no h ↦ tt ]
      where
        own : Step
        own = sending (value (of (suc u) i p) ∷ []) ν then opening (update p) round0 u

    read-tried : (ν : Node) (l : Log) (w : Wait) → After false false false l (read_pass n f i (with_wait w ν) w)
    read-tried ν l idle = tt
    read-tried ν l (writing op r t s) = tt
    read-tried ν l (comparing op r t) = tt
    read-tried ν l (borrowing op t) = tt
    read-tried ν l (reading op s u) = go (quorum? n f s)
      where
        ν' : Node
        ν' = with_wait (reading op s u) ν

        go : (d : Dec (n - f ≤ count s n))
            → After false false false l (ite d (after_read i (max u ν.maxtag) op ν') (still ν'))
        go (yes h) = after-read (max u ν.maxtag) op ν' l
        go (no h) = few s h

    write-tried : (ν : Node) (l : Log) (w : Wait) → Tried false false false (with_wait w ν) w
        → After true false false l (write_pass n f (with_wait w ν) w)
    write-tried ν l idle h = tt
    write-tried ν l (reading op s u) h = h
    write-tried ν l (comparing op r t) h = tt
    write-tried ν l (borrowing op t) h = tt
    write-tried ν l (writing op r t s) h = go (quorum? n f s)
      where
        ν' : Node
        ν' = with_wait (writing op r t s) ν

        go : (d : Dec (n - f ≤ count s n))
            → After true false false l (ite d (still (with_wait (comparing op r t) ν')) (still ν'))
        go (yes h) = tt
        go (no h) = few s h

    after-good : (op : Operation) (r : Round) (t : ℕ) (v : View) (ν : Node) (l : Log)
        → After true true false l (after_good op r t v ν)
    after-good op round0 t v ν l = none_yet
    after-good op round1 t v ν l = finished (λ ν l. Tried true true false ν ν.wait) (λ e ν l. Rests ν) op
        (direct round1) v _ _ tt
    after-good op round2 t v ν l = finished (λ ν l. Tried true true false ν ν.wait) (λ e ν l. Rests ν) op
        (direct round2) v _ _ tt
    after-good op round3 t v ν l = finished (λ ν l. Tried true true false ν ν.wait) (λ e ν l. Rests ν) op
        (direct round3) v _ _ tt

    after-failed : (op : Operation) (r : Round) (t : ℕ) (ν : Node) (l : Log)
        → After true true false l (after_failed op r t ν)
    after-failed op round0 t ν l = none_yet
    after-failed op round1 t ν l = none_yet
    after-failed op round2 t ν l = none_yet
    after-failed op round3 t ν l = tt

    compare-tried : (ν : Node) (l : Log) (w : Wait) → Tried true false false (with_wait w ν) w
        → After true true false l (compare_pass n f i (with_wait w ν) w)
    compare-tried ν l idle h = tt
    compare-tried ν l (reading op s u) h = h
    compare-tried ν l (writing op r t s) h = h
    compare-tried ν l (borrowing op t) h = tt
    compare-tried ν l (comparing op r t) h = go (quorum? n f (agrees i ν' t)) (dec_le ν.maxtag t)
      where
        ν' : Node
        ν' = with_wait (comparing op r t) ν

        go : (d : Dec (n - f ≤ count (agrees i ν' t) n)) (e : Dec (ν.maxtag ≤ t)) → After true true false l
            (ite d (ite e (after_good op r t (view_upto n t ν.all) ν') (after_failed op r t ν')) (still ν'))
        go (yes h) (yes g) = after-good op r t (view_upto n t ν.all) ν' l
        go (yes h) (no g) = after-failed op r t ν' l
        go (no h) e = few (agrees i ν' t) h

    borrow-tried : (ν : Node) (l : Log) (w : Wait) → Tried true true false (with_wait w ν) w
        → After true true true l (borrow_pass n (with_wait w ν) w)
    borrow-tried ν l idle h = tt
    borrow-tried ν l (reading op s u) h = h
    borrow-tried ν l (writing op r t s) h = h
    borrow-tried ν l (comparing op r t) h = h
    borrow-tried ν l (borrowing op t) h = go op (dec_le t (kept n ν.goods).tag)
      where
        go : (op : Operation) (d : Dec (t ≤ (kept n ν.goods).tag)) → After true true true l (ite d
            (ended (finish op borrowed (kept n ν.goods).view) [] (with_wait idle (with_wait (borrowing op t) ν)))
            (still (with_wait (borrowing op t) ν)))
        go (update p) (yes h) = tt
        go scan (yes h) = tt
        go op (no h) = omega arith

    move-rests : (s : Step) (l : Log) → Leaves (λ ν l. Unit {0}) (λ e ν l. Rests ν) l s → Rests (move_on n f i s).node
    move-rests s l h = left (λ ν l. Rests ν) (move_on n f i s).ending
        (move-leaves n f i (λ ν l. Unit {0}) (λ ν l. Tried false false false ν ν.wait)
        (λ ν l. Tried true false false ν ν.wait) (λ ν l. Tried true true false ν ν.wait) (λ ν l. Rests ν)
        (λ e ν l. Rests ν) s l h (λ ν l w h. read-tried ν l w) write-tried compare-tried borrow-tried)

    -- Whatever the node was, it must wait after a step.
    pub message-rests : (k : ℕ) (m : Message) (ν : Node) → Rests (message_step n f i k m ν).node
    message-rests k m ν = move-rests (react k m ν) [] (reacted (λ ν l. Unit {0}) (λ e ν l. Rests ν) [] k m ν tt)

    pub begin-rests : (op : Operation) (ν : Node) → Rests (begin_step n f i op ν).node
    begin-rests op ν = move-rests (sending (read (suc ν.request) ∷ []) (asking (reading op nobody 0) ν)) [] tt
