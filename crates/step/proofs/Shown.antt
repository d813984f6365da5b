-- The view beside the ending of a step has nothing past the record's n. Assumes nothing.
use mathlib.Core.Path.{◌≡◌, refl, sym, ◌∙◌, subst}
use Prim.Native.Nat.{ℕ, ◌≤◌, max}
use lib.Dec.{leb, ltb, eqb}
use Rattle.view.specs.Size.{limit, nodes}
use Rattle.view.specs.View.{AbsentPast}
use Rattle.view.proofs.First.{first_absent, none-absent}
use Rattle.table.specs.Quorum.{members_in, is_quorum}
use Rattle.record.specs.declared.Node.{Node}
use Rattle.record.specs.declared.Operation.TheVariants.{Update, Scan}
use Rattle.record.specs.declared.Wait.{Wait}
use Rattle.record.specs.declared.Wait.TheVariants.{Idle, Reading, Writing, Comparing, Borrowing}
use Rattle.step.specs.declared.Step.{Step}
use Rattle.step.specs.Move.{agreement}
use Rattle.step.specs.Move.{after_read, read_pass, write_pass, after_good, after_failed, compare_pass, borrow_pass}
use Rattle.step.specs.Move.{reads, writes, compares, borrows, move_on}
use Rattle.step.proofs.Numbers.{on-pick}
use Rattle.step.proofs.Same.{reads-keep, writes-keep, compares-keep}

module _ (f : ℕ) (s : Step) (h : s.node.n ≤ nodes) (a : AbsentPast s.node.n s.view) where
  abbrev Shows : Step → Type 0
  Shows x = AbsentPast s.node.n x.view

  read-shows : (w : Wait) → Shows (read_pass f s s.node w)
  unfolding read_pass after_read
  read-shows (Reading (Update p) b m) =
      on-pick Shows (is_quorum s.node.n f (members_in s.node.n b)) _ _
      (λ e. on-pick Shows (eqb (max m s.node.maxtag) limit) _ _ (λ e. none-absent s.node.n h) (λ e. a)) (λ e. a)
  read-shows (Reading Scan b m) =
      on-pick Shows (is_quorum s.node.n f (members_in s.node.n b)) _ _ (λ e. a) (λ e. a)
  read-shows Idle = a
  read-shows (Writing kd i r b) = a
  read-shows (Comparing kd i r) = a
  read-shows (Borrowing kd r) = a

  write-shows : (w : Wait) → Shows (write_pass f s s.node w)
  unfolding write_pass
  write-shows (Writing kd i r b) =
      on-pick Shows (is_quorum s.node.n f (members_in s.node.n b)) _ _ (λ e. a) (λ e. a)
  write-shows Idle = a
  write-shows (Reading o b m) = a
  write-shows (Comparing kd i r) = a
  write-shows (Borrowing kd r) = a

  compare-shows : (w : Wait) → Shows (compare_pass f s s.node w)
  unfolding compare_pass after_good after_failed
  compare-shows (Comparing kd i r) =
      let c = s.node in
      on-pick Shows (agreement f c) _ _
      (λ e. on-pick Shows (leb c.maxtag r) _ _
      (λ e. on-pick Shows (eqb i 0) _ _ (λ e. a) (λ e. first_absent c.n c.atround h))
      (λ e. on-pick Shows (ltb i 3) _ _ (λ e. a) (λ e. a)))
      (λ e. a)
  compare-shows Idle = a
  compare-shows (Reading o b m) = a
  compare-shows (Writing kd i r b) = a
  compare-shows (Borrowing kd r) = a

  borrow-shows : (w : Wait) → Shows (borrow_pass s s.node w)
  unfolding borrow_pass
  borrow-shows (Borrowing kd r) =
      on-pick Shows (leb r s.node.kept) _ _ (λ e. first_absent s.node.n s.node.keptview h) (λ e. a)
  borrow-shows Idle = a
  borrow-shows (Reading o b m) = a
  borrow-shows (Writing kd i r b) = a
  borrow-shows (Comparing kd i r) = a

-- the four passes, each at a record of the same n
pub move-on-shows : (f : ℕ) (s : Step) → s.node.n ≤ nodes → AbsentPast s.node.n s.view
    → AbsentPast s.node.n (move_on f s).view
unfolding move_on
move-on-shows f s h a =
    let x = reads f s in
    let y = writes f x in
    let z = compares f y in
    let ex : x.node.n ≡ s.node.n = reads-keep (λ (c : Node). c.n) (λ c q w v. refl) f s in
    let ey : y.node.n ≡ x.node.n = writes-keep (λ (c : Node). c.n) (λ c q w v. refl) f x in
    let ez : z.node.n ≡ y.node.n = compares-keep (λ (c : Node). c.n) (λ c q w v. refl) f y in
    let hx : x.node.n ≤ nodes = rw ex h in
    let hy : y.node.n ≤ nodes = rw ey hx in
    let hz : z.node.n ≤ nodes = rw ez hy in
    let ax = subst (λ (n : ℕ). AbsentPast n x.view) (sym ex) (read-shows f s h a s.node.wait) in
    let ay = subst (λ (n : ℕ). AbsentPast n y.view) (sym ey) (write-shows f x hx ax x.node.wait) in
    let az = subst (λ (n : ℕ). AbsentPast n z.view) (sym ez) (compare-shows f y hy ay y.node.wait) in
    subst (λ (n : ℕ). AbsentPast n (borrows z).view) (ez ∙ ey ∙ ex) (borrow-shows f z hz az z.node.wait)
