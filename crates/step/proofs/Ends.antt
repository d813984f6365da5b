-- An operation that ends is open no more, and a message opens none: the claims of specs/Ends. Assumes nothing.
use mathlib.Core.Path.{◌≡◌, refl, ap, ◌∙◌}
use mathlib.Core.Bool.{true, false}
use Prim.Native.Nat.{ℕ, max}
use lib.Dec.{leb, ltb, eqb}
use Rattle.octets.proofs.Test.{true-false}
use Rattle.view.specs.Size.{limit}
use Rattle.table.specs.Quorum.{members_in, is_quorum}
use Rattle.record.specs.Record.{with_wait}
use Rattle.record.specs.Usable.{is_open}
use Rattle.record.specs.declared.Node.{Node}
use Rattle.record.specs.declared.Operation.TheVariants.{Update, Scan}
use Rattle.record.specs.declared.Wait.{Wait}
use Rattle.record.specs.declared.Wait.TheVariants.{Idle, Reading, Writing, Comparing, Borrowing}
use Rattle.step.specs.declared.Ending.TheVariants.{None}
use Rattle.step.specs.declared.Step.{Step}
use Rattle.step.specs.Claims.{MustWait}
use Rattle.step.specs.React.{react}
use Rattle.step.specs.Move.{agreement}
use Rattle.step.specs.Move.{opened, after_read, read_pass, write_pass, after_good, after_failed, compare_pass}
use Rattle.step.specs.Move.{borrow_pass, reads, writes, compares, borrows, move_on, message_step}
use Rattle.step.specs.Ends as claim
use Rattle.step.proofs.Numbers.{on-pick}
use Rattle.step.proofs.Same.{react-wait}
use Rattle.step.proofs.Waits.{with-wait, waits-still}
use Rattle.step.proofs.Lawful.{react-started}

-- ---- pass by pass

-- where an operation is open after the step, none has ended
abbrev Unended : Step → Type 0
Unended s = is_open s.node.wait ≡ true → s.ending ≡ None

module _ (f : ℕ) (s : Step) where
  read-ends : (w : Wait) → Unended (with-wait s w) → Unended (read_pass f (with-wait s w) (with_wait s.node w) w)
  unfolding read_pass after_read opened
  read-ends (Reading (Update p) a m) h =
      on-pick Unended (is_quorum s.node.n f (members_in s.node.n a)) _ _
      (λ e. on-pick Unended (eqb (max m s.node.maxtag) limit) _ _ (λ e o. true-false false o refl) (λ e. h))
      (λ e. h)
  read-ends (Reading Scan a m) h =
      on-pick Unended (is_quorum s.node.n f (members_in s.node.n a)) _ _ (λ e. h) (λ e. h)
  read-ends Idle h = h
  read-ends (Writing kd i r a) h = h
  read-ends (Comparing kd i r) h = h
  read-ends (Borrowing kd r) h = h

  write-ends : (w : Wait) → Unended (with-wait s w) → Unended (write_pass f (with-wait s w) (with_wait s.node w) w)
  unfolding write_pass
  write-ends (Writing kd i r a) h =
      on-pick Unended (is_quorum s.node.n f (members_in s.node.n a)) _ _ (λ e. h) (λ e. h)
  write-ends Idle h = h
  write-ends (Reading o a m) h = h
  write-ends (Comparing kd i r) h = h
  write-ends (Borrowing kd r) h = h

  compare-ends : (w : Wait) → Unended (with-wait s w)
      → Unended (compare_pass f (with-wait s w) (with_wait s.node w) w)
  unfolding compare_pass after_good after_failed opened
  compare-ends (Comparing kd i r) h =
      on-pick Unended (agreement f s.node) _ _
      (λ e. on-pick Unended (leb s.node.maxtag r) _ _
      (λ e. on-pick Unended (eqb i 0) _ _ (λ e. h) (λ e o. true-false false o refl))
      (λ e. on-pick Unended (ltb i 3) _ _ (λ e. h) (λ e. h)))
      (λ e. h)
  compare-ends Idle h = h
  compare-ends (Reading o a m) h = h
  compare-ends (Writing kd i r a) h = h
  compare-ends (Borrowing kd r) h = h

  borrow-ends : (w : Wait) → Unended (with-wait s w) → Unended (borrow_pass (with-wait s w) (with_wait s.node w) w)
  unfolding borrow_pass
  borrow-ends (Borrowing kd r) h =
      on-pick Unended (leb r s.node.kept) _ _ (λ e o. true-false false o refl) (λ e. h)
  borrow-ends Idle h = h
  borrow-ends (Reading o a m) h = h
  borrow-ends (Writing kd i r a) h = h
  borrow-ends (Comparing kd i r) h = h

-- ---- the whole step

pub ends-closed : claim.EndsClosed
unfolding message_step move_on
ends-closed f c s m v =
    let x = react c s m v in
    let a = reads f x in
    let b = writes f a in
    let d = compares f b in
    borrow-ends f d d.node.wait
    (compare-ends f b b.node.wait
    (write-ends f a a.node.wait
    (read-ends f x x.node.wait (λ o. ap (λ (y : Step). y.ending) (react-started c s m v)))))

-- where no operation is open, the wait is idle
closed-waits : (f : ℕ) (c : Node) (w : Wait) → is_open w ≡ false → MustWait f c w
closed-waits f c Idle h = tt
closed-waits f c (Reading o a m) h = true-false true refl h
closed-waits f c (Writing k i r a) h = true-false true refl h
closed-waits f c (Comparing k i r) h = true-false true refl h
closed-waits f c (Borrowing k r) h = true-false true refl h

-- A handler opens none, and then no pass does anything.
pub closed-stays : claim.ClosedStays
unfolding message_step move_on
closed-stays f c s m v h =
    let x = react c s m v in
    let o : is_open x.node.wait ≡ false =
    react-wait is_open (λ o a m b k. refl) (λ k i r a b. refl) c s m v ∙ h in
    let q = waits-still f x x.node.wait (closed-waits f x.node x.node.wait o) in
    let same : borrows (compares f (writes f (reads f x))) ≡ x =
    ap (λ (y : Step). borrows (compares f (writes f y))) q.0
    ∙ ap (λ (y : Step). borrows (compares f y)) q.1 ∙ ap borrows q.2 ∙ q.3 in
    (ap (λ (y : Step). y.ending) (same ∙ react-started c s m v), ap (λ (y : Step). is_open y.node.wait) same ∙ o)
