-- After a step the open operation must wait, and a begin does no more than to ask. Assumes nothing.
use mathlib.Core.Path.{◌≡◌, refl}
use mathlib.Core.Bool.{false}
use Prim.Native.Nat.{ℕ, ◌-◌, ◌≤◌, ◌<◌, max}
use native.Mathlib.Omega.{arith}
use lib.Dec.{leb, ltb, eqb}
use borrow.Author.Tests.{lt-leb}
use Rattle.view.specs.Size.{limit}
use Rattle.table.specs.Quorum.{members_in, is_quorum}
use Rattle.table.proofs.Sets.{members_in-none}
use Rattle.record.specs.Record.{with_wait}
use Rattle.record.specs.declared.Node.{Node}
use Rattle.record.specs.declared.Operation.{Operation}
use Rattle.record.specs.declared.Operation.TheVariants.{Update, Scan}
use Rattle.record.specs.declared.Wait.{Wait}
use Rattle.record.specs.declared.Wait.TheVariants.{Idle, Reading, Writing, Comparing, Borrowing}
use Rattle.step.specs.declared.Step.{Step}
use Rattle.step.specs.Claims.{MustWait}
use Rattle.step.specs.Step.{ended}
use Rattle.step.specs.Move.{agreement}
use Rattle.step.specs.Move.{opened, after_read, read_pass, write_pass, after_good, after_failed, compare_pass}
use Rattle.step.specs.Move.{borrow_pass, reads, writes, compares, borrows, move_on, begun, begin_step}
use Rattle.step.proofs.Numbers.{on-pick}
use Rattle.step.proofs.Same.{reads-keep, writes-keep, compares-keep}

-- nobody is no quorum
pub no-quorum : (n f : ℕ) → f < n → is_quorum n f (members_in n 0) ≡ false
no-quorum n f h = rw (members_in-none n) (lt-leb (n - f) 0 (omega arith))

-- ---- pass by pass

-- what k passes have brought: an operation that waits for what they try must wait
abbrev Past : ℕ → ℕ → Node → Wait → Type 0
Past f k c Idle = Unit {0}
Past f k c (Reading o a m) = 1 ≤ k → MustWait f c (Reading o a m)
Past f k c (Writing kd i r a) = 2 ≤ k → MustWait f c (Writing kd i r a)
Past f k c (Comparing kd i r) = 3 ≤ k → MustWait f c (Comparing kd i r)
Past f k c (Borrowing kd r) = 4 ≤ k → MustWait f c (Borrowing kd r)

abbrev At : ℕ → ℕ → Step → Type 0
At f k s = Past f k s.node s.node.wait

-- the step with another wait
abbrev pub with-wait : Step → Wait → Step
with-wait s w = ended s (with_wait s.node w) s.ending s.view

module _ (f : ℕ) (s : Step) (h : f < s.node.n) where
  read_past : (w : Wait) → At f 1 (read_pass f (with-wait s w) (with_wait s.node w) w)
  unfolding read_pass after_read opened
  read_past (Reading (Update p) a m) =
      on-pick (At f 1) (is_quorum s.node.n f (members_in s.node.n a)) _ _
      (λ e. on-pick (At f 1) (eqb (max m s.node.maxtag) limit) _ _ (λ e. tt) (λ e l. no-quorum s.node.n f h))
      (λ e l. e)
  read_past (Reading Scan a m) =
      on-pick (At f 1) (is_quorum s.node.n f (members_in s.node.n a)) _ _ (λ e l. no-quorum s.node.n f h)
      (λ e l. e)
  read_past Idle = tt
  read_past (Writing kd i r a) = λ l. absurd (omega arith)
  read_past (Comparing kd i r) = λ l. absurd (omega arith)
  read_past (Borrowing kd r) = λ l. absurd (omega arith)

  write-past : (w : Wait) → Past f 1 (with_wait s.node w) w
      → At f 2 (write_pass f (with-wait s w) (with_wait s.node w) w)
  unfolding write_pass
  write-past (Writing kd i r a) p =
      on-pick (At f 2) (is_quorum s.node.n f (members_in s.node.n a)) _ _ (λ e l. absurd (omega arith)) (λ e l. e)
  write-past Idle p = tt
  write-past (Reading o a m) p = λ l. p (omega arith)
  write-past (Comparing kd i r) p = λ l. absurd (omega arith)
  write-past (Borrowing kd r) p = λ l. absurd (omega arith)

  compare-past : (w : Wait) → Past f 2 (with_wait s.node w) w
      → At f 3 (compare_pass f (with-wait s w) (with_wait s.node w) w)
  unfolding compare_pass after_good after_failed opened
  compare-past (Comparing kd i r) p =
      on-pick (At f 3) (agreement f s.node) _ _
      (λ e. on-pick (At f 3) (leb s.node.maxtag r) _ _
      (λ e. on-pick (At f 3) (eqb i 0) _ _ (λ e l. no-quorum s.node.n f h) (λ e. tt))
      (λ e. on-pick (At f 3) (ltb i 3) _ _ (λ e l. no-quorum s.node.n f h) (λ e l. absurd (omega arith))))
      (λ e l. e)
  compare-past Idle p = tt
  compare-past (Reading o a m) p = λ l. p (omega arith)
  compare-past (Writing kd i r a) p = λ l. p (omega arith)
  compare-past (Borrowing kd r) p = λ l. absurd (omega arith)

  borrow-past : (w : Wait) → Past f 3 (with_wait s.node w) w
      → At f 4 (borrow_pass (with-wait s w) (with_wait s.node w) w)
  unfolding borrow_pass
  borrow-past (Borrowing kd r) p = on-pick (At f 4) (leb r s.node.kept) _ _ (λ e. tt) (λ e l. e)
  borrow-past Idle p = tt
  borrow-past (Reading o a m) p = λ l. p (omega arith)
  borrow-past (Writing kd i r a) p = λ l. p (omega arith)
  borrow-past (Comparing kd i r) p = λ l. p (omega arith)

-- ---- all passes

must-of : (f : ℕ) (c : Node) (w : Wait) → Past f 4 c w → MustWait f c w
must-of f c Idle p = tt
must-of f c (Reading o a m) p = p (omega arith)
must-of f c (Writing kd i r a) p = p (omega arith)
must-of f c (Comparing kd i r) p = p (omega arith)
must-of f c (Borrowing kd r) p = p (omega arith)

pub must-wait : (f : ℕ) (s : Step) → f < s.node.n → MustWait f (move_on f s).node (move_on f s).node.wait
unfolding move_on
must-wait f s h =
    let a = reads f s in
    let b = writes f a in
    let d = compares f b in
    let na : f < a.node.n = rw (reads-keep (λ (c : Node). c.n) (λ c q w v. refl) f s) h in
    let nb : f < b.node.n = rw (writes-keep (λ (c : Node). c.n) (λ c q w v. refl) f a) na in
    let nd : f < d.node.n = rw (compares-keep (λ (c : Node). c.n) (λ c q w v. refl) f b) nb in
    must-of f (borrows d).node (borrows d).node.wait
    (borrow-past f d nd d.node.wait
    (compare-past f b nb b.node.wait (write-past f a na a.node.wait (read_past f s h s.node.wait))))

-- where it must wait, no pass does anything
pub waits-still : (f : ℕ) (s : Step) (w : Wait) → MustWait f s.node w
    → (read_pass f s s.node w ≡ s) × (write_pass f s s.node w ≡ s) × (compare_pass f s s.node w ≡ s)
    × (borrow_pass s s.node w ≡ s)
unfolding read_pass write_pass compare_pass borrow_pass
waits-still f s Idle h = (refl, refl, refl, refl)
waits-still f s (Reading o a m) h = (rw h, refl, refl, refl)
waits-still f s (Writing kd i r a) h = (refl, rw h, refl, refl)
waits-still f s (Comparing kd i r) h = (refl, refl, rw h, refl)
waits-still f s (Borrowing kd r) h = (refl, refl, refl, rw h)

-- ---- the begin

-- An operation never ends in its begin step: nobody has answered yet, so the step only asks.
pub begin-asks : (f : ℕ) (c : Node) (o : Operation) → f < c.n → begin_step f c o ≡ begun c o
unfolding begin_step move_on begun read_pass write_pass compare_pass borrow_pass
begin-asks f c o h = rw (no-quorum c.n f h)
