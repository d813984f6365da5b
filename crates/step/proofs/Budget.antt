-- A message pays for what its handler sends, and the budget of the open operation for the rest: the claims of
-- specs/Budget. Assumes nothing.
use mathlib.Core.Path.{◌≡◌, refl, ap}
use mathlib.Core.List.{◌++◌}
use Prim.Native.Nat.{ℕ, ◌+◌, ◌-◌, ◌*◌, ◌≤◌, max}
use native.Mathlib.Nat.{le_refl, le_trans}
use native.Mathlib.Omega.{arith}
use lib.Dec.{leb, ltb, eqb}
use borrow.Author.Tests.{eqb-true, ltb-true, ne_eqb}
use Rattle.octets.specs.Test.{pick}
use Rattle.view.specs.Size.{limit, nodes}
use Rattle.view.specs.declared.View.{View}
use Rattle.wire.specs.Layout.{one_size, two_size, value_size, good_size, message_size}
use Rattle.wire.specs.declared.Message.{Message}
use Rattle.wire.specs.declared.Message.TheVariants.{Read, ReadAnswer, Write, WriteAnswer, Echo, Value, Good}
use Rattle.table.specs.Quorum.{members_in, is_quorum}
use Rattle.record.specs.Record.{with_wait}
use Rattle.record.specs.declared.Node.{Node}
use Rattle.record.specs.declared.Operation.{Operation}
use Rattle.record.specs.declared.Operation.TheVariants.{Update, Scan}
use Rattle.record.specs.declared.Wait.{Wait}
use Rattle.record.specs.declared.Wait.TheVariants.{Idle, Reading, Writing, Comparing, Borrowing}
use Rattle.step.specs.declared.Sent.{Sent}
use Rattle.step.specs.declared.Step.{Step}
use Rattle.step.specs.Step.{listed}
use Rattle.step.specs.Claims.{sizes}
use Rattle.step.specs.React.{is_new, react}
use Rattle.step.specs.Move.{agreement}
use Rattle.step.specs.Move.{opened, after_read, read_pass, write_pass, after_good, after_failed, compare_pass}
use Rattle.step.specs.Move.{borrow_pass, reads, writes, compares, move_on, message_step}
use Rattle.step.specs.Budget.{budget, budget_most}
use Rattle.step.specs.Budget as claim
use Rattle.step.proofs.Numbers.{on-pick}
use Rattle.step.proofs.Same.{react-wait}
use Rattle.step.proofs.Waits.{with-wait}
use Rattle.step.proofs.Lawful.{react-started, sizes-append}
use Rattle.step.proofs.Exclusive.{handler-first}

-- the budget of a round, whatever its number i
round-most : (n i : ℕ) → n ≤ nodes → value_size * 0 + two_size * (3 - i) + good_size n * pick (eqb i 0) 2 1 ≤
    budget_most
round-most n i h =
    on-pick (λ (x : ℕ). value_size * 0 + two_size * (3 - i) + good_size n * x ≤ budget_most) (eqb i 0) 2 1
    (λ e. omega arith) (λ e. omega arith)

pub budget-most : claim.BudgetMost
budget-most n Idle h = omega arith
budget-most n (Reading (Update p) a m) h = omega arith
budget-most n (Reading Scan a m) h = omega arith
budget-most n (Writing k i r a) h = round-most n i h
budget-most n (Comparing k i r) h = round-most n i h
budget-most n (Borrowing k r) h = omega arith

-- ---- the passes

-- what the open operation sends in a step, and what it may still send after it
abbrev cost : ℕ → Step → ℕ
cost n s = sizes n (listed s.outbox.reading) + sizes n (listed s.outbox.comparing) + budget n s.node.wait

-- no more good messages come of the next round than of this one
good-falls : (g i : ℕ) → g * pick (eqb (i + 1) 0) 2 1 ≤ g * pick (eqb i 0) 2 1
good-falls g i =
    rw (ne_eqb (i + 1) 0 (λ e. omega arith))
    (on-pick (λ (x : ℕ). g * 1 ≤ g * x) (eqb i 0) 2 1 (λ e. omega arith) (λ e. omega arith))

-- no pass raises that, whatever the step waits for
module _ (f n : ℕ) (s : Step) where
  abbrev Within : Wait → Step → Type 0
  Within w x = cost n x ≤ cost n (with-wait s w)

  read-costs : (w : Wait) → Within w (read_pass f (with-wait s w) (with_wait s.node w) w)
  unfolding read_pass after_read opened message_size
  read-costs (Reading (Update p) a m) =
      let w = Reading (Update p) a m in
      on-pick (Within w) (is_quorum s.node.n f (members_in s.node.n a)) _ _
      (λ e. on-pick (Within w) (eqb (max m s.node.maxtag) limit) _ _ (λ e. omega arith) (λ e. omega arith))
      (λ e. le_refl _)
  read-costs (Reading Scan a m) =
      on-pick (Within (Reading Scan a m)) (is_quorum s.node.n f (members_in s.node.n a)) _ _ (λ e. omega arith)
      (λ e. le_refl _)
  read-costs Idle = le_refl _
  read-costs (Writing kd i r a) = le_refl _
  read-costs (Comparing kd i r) = le_refl _
  read-costs (Borrowing kd r) = le_refl _

  write-costs : (w : Wait) → Within w (write_pass f (with-wait s w) (with_wait s.node w) w)
  unfolding write_pass
  write-costs (Writing kd i r a) =
      on-pick (Within (Writing kd i r a)) (is_quorum s.node.n f (members_in s.node.n a)) _ _ (λ e. le_refl _)
      (λ e. le_refl _)
  write-costs Idle = le_refl _
  write-costs (Reading o a m) = le_refl _
  write-costs (Comparing kd i r) = le_refl _
  write-costs (Borrowing kd r) = le_refl _

  compare-costs : (w : Wait) → Within w (compare_pass f (with-wait s w) (with_wait s.node w) w)
  unfolding compare_pass after_good after_failed opened message_size
  compare-costs (Comparing kd i r) =
      let w = Comparing kd i r in
      on-pick (Within w) (agreement f s.node) _ _
      (λ e. on-pick (Within w) (leb s.node.maxtag r) _ _
      (λ e. on-pick (Within w) (eqb i 0) _ _ (λ e. rw e (omega (arith, eqb-true i 0 e))) (λ e. rw e (omega arith)))
      (λ e. on-pick (Within w) (ltb i 3) _ _
      (λ e. omega (arith, good-falls (good_size n) i, ltb-true i 3 e)) (λ e. omega arith)))
      (λ e. le_refl _)
  compare-costs Idle = le_refl _
  compare-costs (Reading o a m) = le_refl _
  compare-costs (Writing kd i r a) = le_refl _
  compare-costs (Borrowing kd r) = le_refl _

  borrow-costs : (w : Wait) → Within w (borrow_pass (with-wait s w) (with_wait s.node w) w)
  unfolding borrow_pass
  borrow-costs (Borrowing kd r) =
      on-pick (Within (Borrowing kd r)) (leb r s.node.kept) _ _ (λ e. le_refl _) (λ e. le_refl _)
  borrow-costs Idle = le_refl _
  borrow-costs (Reading o a m) = le_refl _
  borrow-costs (Writing kd i r a) = le_refl _
  borrow-costs (Comparing kd i r) = le_refl _

move-on-costs : (f n : ℕ) (s : Step) → cost n (move_on f s) ≤ cost n s
unfolding move_on
move-on-costs f n s =
    let a = reads f s in
    let b = writes f a in
    let d = compares f b in
    le_trans (borrow-costs f n d d.node.wait)
    (le_trans (compare-costs f n b b.node.wait)
    (le_trans (write-costs f n a a.node.wait) (read-costs f n s s.node.wait)))

-- ---- the handlers

-- what a message of k bytes pays for
module _ (c : Node) (s : ℕ) (v : View) where
  abbrev Paid : ℕ → Sent → Type 0
  Paid k h = one_size * sizes c.n (listed h) ≤ two_size * k

  handler-pays : (m : Message) → Paid (message_size c.n m) (react c s m v).outbox.handler
  unfolding react message_size
  handler-pays (Read q) = omega arith
  handler-pays (ReadAnswer q t) = omega arith
  handler-pays (Write q t) =
      on-pick (Paid (message_size c.n (Write q t))) (ltb c.maxtag t) _ _ (λ e. omega arith) (λ e. omega arith)
  handler-pays (WriteAnswer q t) = omega arith
  handler-pays (Echo t) =
      on-pick (Paid (message_size c.n (Echo t))) (ltb c.maxtag t) _ _ (λ e. omega arith) (λ e. omega arith)
  handler-pays (Value t w p) =
      on-pick (Paid (message_size c.n (Value t w p))) (is_new c w t) _ _ (λ e. omega arith) (λ e. omega arith)
  handler-pays (Good t) = omega arith

-- who has answered does not change what is still to send
reading-same : (n : ℕ) (o : Operation) (a m b k : ℕ) → budget n (Reading o a m) ≡ budget n (Reading o b k)
reading-same n (Update p) a m b k = refl
reading-same n Scan a m b k = refl

-- a handler leaves the budget, and the operation has sent nothing yet
react-costs : (c : Node) (s : ℕ) (m : Message) (v : View) (n : ℕ) → cost n (react c s m v) ≡ budget n c.wait
react-costs c s m v n =
    let e = ap (cost n) (react-started c s m v) in
    let w = react-wait (budget n) (reading-same n) (λ k i r a b. refl) c s m v in
    omega arith

pub message-pays : claim.MessagePays
unfolding message_step
message-pays f c s m v =
    let n = c.n in
    let d = react c s m v in
    let o = (move_on f d).outbox in
    let h : sizes n (listed o.handler) ≡ sizes n (listed d.outbox.handler) =
    ap (λ (x : Sent). sizes n (listed x)) (handler-first f d) in
    let p : one_size * sizes n (listed d.outbox.handler) ≤ two_size * message_size n m = handler-pays c s v m in
    let q : cost n (move_on f d) ≤ cost n d = move-on-costs f n d in
    let e : cost n d ≡ budget n c.wait = react-costs c s m v n in
    rw (
      sizes-append n (listed o.handler ++ listed o.reading) (listed o.comparing),
      sizes-append n (listed o.handler) (listed o.reading),
    ) (omega arith)
