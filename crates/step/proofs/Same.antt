-- The passes change no more than the request number, the wait and the reports held for the round, and an answer no more
-- than the wait. Assumes nothing.
use mathlib.Core.Path.{◌≡◌, refl, ◌∙◌}
use Prim.Native.Nat.{ℕ, max}
use lib.Dec.{leb, ltb, eqb}
use Rattle.view.specs.Size.{limit}
use Rattle.view.specs.declared.Report.{Report}
use Rattle.view.specs.declared.View.{View}
use Rattle.wire.specs.declared.Message.{Message}
use Rattle.wire.specs.declared.Message.TheVariants.{Read, ReadAnswer, Write, WriteAnswer, Echo, Value, Good}
use Rattle.table.specs.Quorum.{member, members_in, is_quorum}
use Rattle.record.specs.Record.{set_wait}
use Rattle.record.specs.declared.Node.{Node}
use Rattle.record.specs.declared.Operation.{Operation}
use Rattle.record.specs.declared.Operation.TheVariants.{Update, Scan}
use Rattle.record.specs.declared.Kind.{Kind}
use Rattle.record.specs.declared.Wait.{Wait}
use Rattle.record.specs.declared.Wait.TheVariants.{Idle, Reading, Writing, Comparing, Borrowing}
use Rattle.step.specs.declared.Step.{Step}
use Rattle.step.specs.React.{raised, read_wait, write_wait, received, keep, react}
use Rattle.step.specs.Move.{agreement}
use Rattle.step.specs.Move.{opened, after_read, read_pass, write_pass, after_good, after_failed, compare_pass}
use Rattle.step.specs.Move.{borrow_pass, reads, writes, compares, borrows, move_on}
use Rattle.step.proofs.Numbers.{on-pick}

-- g is whatever is read of a record beside those three
module _ {X : Type 0} (g : Node → X) (same : (c : Node) (q : ℕ) (w : Wait) (v : View) → g (set_wait c q w v) ≡ g c)
    (f : ℕ) (s : Step) where
  abbrev Same : Step → Type 0
  Same x = g x.node ≡ g s.node

  read_keeps : (w : Wait) → Same (read_pass f s s.node w)
  unfolding read_pass after_read opened
  read_keeps (Reading (Update p) a m) =
      on-pick Same (is_quorum s.node.n f (members_in s.node.n a)) _ _
      (λ e. on-pick Same (eqb (max m s.node.maxtag) limit) _ _ (λ e. same _ _ _ _) (λ e. same _ _ _ _)) (λ e. refl)
  read_keeps (Reading Scan a m) =
      on-pick Same (is_quorum s.node.n f (members_in s.node.n a)) _ _ (λ e. same _ _ _ _) (λ e. refl)
  read_keeps Idle = refl
  read_keeps (Writing kd i r a) = refl
  read_keeps (Comparing kd i r) = refl
  read_keeps (Borrowing kd r) = refl

  write_keeps : (w : Wait) → Same (write_pass f s s.node w)
  unfolding write_pass
  write_keeps (Writing kd i r a) =
      on-pick Same (is_quorum s.node.n f (members_in s.node.n a)) _ _ (λ e. same _ _ _ _) (λ e. refl)
  write_keeps Idle = refl
  write_keeps (Reading o a m) = refl
  write_keeps (Comparing kd i r) = refl
  write_keeps (Borrowing kd r) = refl

  compare-keeps : (w : Wait) → Same (compare_pass f s s.node w)
  unfolding compare_pass after_good after_failed opened
  compare-keeps (Comparing kd i r) =
      on-pick Same (agreement f s.node) _ _
      (λ e. on-pick Same (leb s.node.maxtag r) _ _
      (λ e. on-pick Same (eqb i 0) _ _ (λ e. same _ _ _ _) (λ e. same _ _ _ _))
      (λ e. on-pick Same (ltb i 3) _ _ (λ e. same _ _ _ _) (λ e. same _ _ _ _)))
      (λ e. refl)
  compare-keeps Idle = refl
  compare-keeps (Reading o a m) = refl
  compare-keeps (Writing kd i r a) = refl
  compare-keeps (Borrowing kd r) = refl

  borrow-keeps : (w : Wait) → Same (borrow_pass s s.node w)
  unfolding borrow_pass
  borrow-keeps (Borrowing kd r) = on-pick Same (leb r s.node.kept) _ _ (λ e. same _ _ _ _) (λ e. refl)
  borrow-keeps Idle = refl
  borrow-keeps (Reading o a m) = refl
  borrow-keeps (Writing kd i r a) = refl
  borrow-keeps (Comparing kd i r) = refl

  pub reads-keep : g (reads f s).node ≡ g s.node
  reads-keep = read_keeps s.node.wait

  pub writes-keep : g (writes f s).node ≡ g s.node
  writes-keep = write_keeps s.node.wait

  pub compares-keep : g (compares f s).node ≡ g s.node
  compares-keep = compare-keeps s.node.wait

  pub borrows-keep : g (borrows s).node ≡ g s.node
  borrows-keep = borrow-keeps s.node.wait

module _ {X : Type 0} (g : Node → X) (same : (c : Node) (q : ℕ) (w : Wait) (v : View) → g (set_wait c q w v) ≡ g c)
  where
    pub move-on-keeps : (f : ℕ) (s : Step) → g (move_on f s).node ≡ g s.node
    unfolding move_on
    move-on-keeps f s =
        let a = reads f s in
        let b = writes f a in
        borrows-keep g same f (compares f b) ∙ compares-keep g same f b ∙ writes-keep g same f a ∙ reads-keep g same f s

    -- so does a handler, of what its kind does not speak of
    pub react-keeps : (c : Node) (s : ℕ) (m : Message) (v : View)
        → ((t : ℕ) → g (raised c t) ≡ g c) → ((w t : ℕ) (p : Report) → g (received c s w t p) ≡ g c)
        → ((t : ℕ) → g (keep c t v) ≡ g c)
        → g (react c s m v).node ≡ g c
    unfolding react
    react-keeps c s (Read q) v a b d = refl
    react-keeps c s (ReadAnswer q t) v a b d = same _ _ _ _
    react-keeps c s (Write q t) v a b d = a t
    react-keeps c s (WriteAnswer q t) v a b d = same _ _ _ _
    react-keeps c s (Echo t) v a b d = a t
    react-keeps c s (Value t w p) v a b d = b w t p
    react-keeps c s (Good t) v a b d = d t

-- An answer changes of the wait no more than who is counted and the largest tag answered, and no other message changes
-- it: g is whatever is read of a wait beside those.
module _ {X : Type 0} (g : Wait → X) (reading : (o : Operation) (a m b k : ℕ) → g (Reading o a m) ≡ g (Reading o b k))
    (writing : (k : Kind) (i r a b : ℕ) → g (Writing k i r a) ≡ g (Writing k i r b)) where
  read-wait-keeps : (request s q t : ℕ) (w : Wait) → g (read_wait request s q t w) ≡ g w
  read-wait-keeps request s q t (Reading o a m) =
      on-pick (λ (w : Wait). g w ≡ g (Reading o a m)) (eqb q request) _ _
      (λ e. on-pick (λ (w : Wait). g w ≡ g (Reading o a m)) (member a s) _ _ (λ e. refl) (λ e. reading o _ _ a m))
      (λ e. refl)
  read-wait-keeps request s q t Idle = refl
  read-wait-keeps request s q t (Writing k i r a) = refl
  read-wait-keeps request s q t (Comparing k i r) = refl
  read-wait-keeps request s q t (Borrowing k r) = refl

  write-wait-keeps : (request s q t : ℕ) (w : Wait) → g (write_wait request s q t w) ≡ g w
  write-wait-keeps request s q t (Writing k i r a) =
      on-pick (λ (w : Wait). g w ≡ g (Writing k i r a)) (eqb q request) _ _
      (λ e. on-pick (λ (w : Wait). g w ≡ g (Writing k i r a)) (eqb t r) _ _
      (λ e. on-pick (λ (w : Wait). g w ≡ g (Writing k i r a)) (member a s) _ _ (λ e. refl) (λ e. writing k i r _ a))
      (λ e. refl))
      (λ e. refl)
  write-wait-keeps request s q t Idle = refl
  write-wait-keeps request s q t (Reading o a m) = refl
  write-wait-keeps request s q t (Comparing k i r) = refl
  write-wait-keeps request s q t (Borrowing k r) = refl

  pub react-wait : (c : Node) (s : ℕ) (m : Message) (v : View) → g (react c s m v).node.wait ≡ g c.wait
  unfolding react raised received keep
  react-wait c s (Read q) v = refl
  react-wait c s (ReadAnswer q t) v = read-wait-keeps c.request s q t c.wait
  react-wait c s (Write q t) v = refl
  react-wait c s (WriteAnswer q t) v = write-wait-keeps c.request s q t c.wait
  react-wait c s (Echo t) v = refl
  react-wait c s (Value t w p) v = refl
  react-wait c s (Good t) v = refl
