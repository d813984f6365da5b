-- Where all that the standing nodes have sent to each other has been handed over, and they are a quorum, none of them
-- waits: each has answered every request, and each holds what the others hold.
use Prim.Native.Nat.{ℕ, ◌-◌, ◌≤◌, ◌<◌}
use native.Mathlib.Omega.{arith}
use native.Mathlib.Decide.{ℕ_discrete}
use mathlib.Core.Path.{◌≡◌, refl}
use mathlib.Core.Bool.{Bool, true, decide}
use Rattle.logs.specs.Count.{count}
use Rattle.logs.proofs.Count.{count-mono}
use Rattle.logs.specs.Log.{◌∈◌}
use Rattle.history.specs.Message.{Value, View, Message, read, read_answer, write, write_answer, value, good}
use Rattle.history.specs.Order.{OneTo}
use Rattle.algorithm.specs.Algorithm.{Wait, idle, reading, writing, comparing, borrowing, Node, with_wait, agrees}
use Rattle.algorithm.proofs.Cert.{Logs}
use Rattle.algorithm.proofs.Local.{Took}
use Rattle.algorithm.proofs.Meant.{Meant}
use Rattle.algorithm.proofs.Sets.{or_right, and-of, included_up_to-of}
use Rattle.eqaso.proofs.Rest.{Rests}
use Rattle.algorithm.proofs.Live.{Live}

-- A node that borrows has been handed a good message with its tag.
abbrev pub Lent : Logs → Wait → Type 0
Lent got (borrowing op t) = (k : ℕ) × (view : View) × (good t view ∈ got k)
Lent got idle = Unit {0}
Lent got (reading op s u) = Unit {0}
Lent got (writing op r t s) = Unit {0}
Lent got (comparing op r t) = Unit {0}

-- The nodes with their logs, and how far the log of each has been handed to each: got i k is that of k to i.
module _ (n f : ℕ) (stands : ℕ → Bool) (nodes : ℕ → Node) (log : Logs) (got : ℕ → Logs) where
  abbrev pub Stands : ℕ → Type 0
  Stands i = OneTo n i × (stands i ≡ true)

  pub record Drained : Type 0 where
    pub many : n - f ≤ count stands n
    pub handed : (i k : ℕ) → Stands i → Stands k → (m : Message) → m ∈ log k → Meant i m → m ∈ got i k
    pub rests : (i : ℕ) → Stands i → Rests n f i (nodes i)
    pub live : (i : ℕ) → Stands i → Live n i (got i) (nodes i) (log i)
    pub took : (i : ℕ) → Stands i → (k : ℕ) (m : Message) → m ∈ got i k → Took k (nodes i) m
    pub sent : (i : ℕ) → Stands i → (v : Value) → v ∈ (nodes i).all → value v ∈ log i
    pub heard : (i : ℕ) → Stands i → (k : ℕ) (v : Value) → v ∈ (nodes i).from k → value v ∈ got i k
    pub lent : (i : ℕ) → Stands i → Lent (got i) (nodes i).wait

  module _ (D : Drained) where
    -- A quorum has passed, so the node would have moved on.
    too_many : (s : ℕ → Bool) → ((k : ℕ) → Stands k → s k ≡ true) → count s n < n - f → ⊥
    too_many s h lt = let le = count-mono stands s n (λ k lo hi e. h k ((lo, hi), e)) in omega (arith, D.many)

    -- Node k has answered the read of node i, and the answer has come.
    read_back : (i k q : ℕ) → Stands i → Stands k → read q ∈ log i → (t : ℕ) × (read_answer i q t ∈ got i k)
    read_back i k q hi hk m =
        let (t, a) = (D.live k hk).replied i (read q) (D.handed k i hk hi (read q) m tt) tt in
        (t, D.handed i k hi hk (read_answer i q t) a refl)

    write-back : (i k q t : ℕ) → Stands i → Stands k → write q t ∈ log i → write_answer i q t ∈ got i k
    write-back i k q t hi hk m =
        let a = (D.live k hk).replied i (write q t) (D.handed k i hk hi (write q t) m tt) tt in
        D.handed i k hi hk (write_answer i q t) a refl

    -- What node i holds, node k has passed on to it.
    agree : (i k t : ℕ) → Stands i → Stands k → agrees i (nodes i) t k ≡ true
    agree i k t hi hk = or_right (decide (ℕ_discrete k i)) _ (and-of _ _
        (included_up_to-of t ((nodes i).from k) (nodes i).all
        (λ v m lo. (D.took i hi k (value v) (D.heard i hi k v m)).1))
        (included_up_to-of t (nodes i).all ((nodes i).from k) (λ v m lo.
        let there = (D.took k hk i (value v) (D.handed k i hk hi (value v) (D.sent i hi v m) tt)).1 in
        (D.took i hi k (value v) (D.handed i k hi hk (value v) (D.sent k hk v there) tt)).0)))

    -- By the wait of the node.
    by-wait : (i : ℕ) → Stands i → (ν : Node) (w : Wait) → Rests n f i (with_wait w ν)
        → Live n i (got i) (with_wait w ν) (log i)
        → Lent (got i) w → ((t k : ℕ) → Stands k → agrees i (with_wait w ν) t k ≡ true) → w ≡ idle
    by-wait i hi ν idle r c lent agree = refl
    by-wait i hi ν (reading op s u) r c lent agree = absurd (too_many s (λ k hk.
        let (t, a) = read_back i k ν.request hi hk c.asks in (c.replied k _ a refl).1 refl) r)
    by-wait i hi ν (writing op rnd t s) r c lent agree = absurd (too_many s (λ k hk.
        (c.replied k _ (write-back i k ν.request t hi hk c.asks) refl).1 refl refl) r)
    by-wait i hi ν (comparing op rnd t) r c lent agree = absurd (too_many _ (agree t) r)
    by-wait i hi ν (borrowing op t) r c (k, view, m) agree = absurd (omega (arith, c.replied k (good t view) m tt))

    pub no-wait : (i : ℕ) → Stands i → (nodes i).wait ≡ idle
    no-wait i hi = by-wait i hi (nodes i) (nodes i).wait (D.rests i hi) (D.live i hi) (D.lent i hi)
        (λ t k hk. agree i k t hi hk)
