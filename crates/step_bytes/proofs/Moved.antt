-- A step that was done on the bytes of a record is read back from them: its tables keep their sizes.
use Prim.Native.Nat.{ℕ, max}
use mathlib.Core.Path.{◌≡◌, refl, sym, ap, ap₂, ◌∙◌, subst}
use mathlib.Core.List.{List}
use lib.Dec.{leb, ltb, eqb}
use lib.ListN.{length, length-replicate}
use Rattle.view.specs.Report.{no_report}
use Rattle.view.specs.Size.{limit, nodes}
use Rattle.view.specs.View.{no_view}
use Rattle.table.specs.Quorum.{members_in, is_quorum}
use Rattle.record.specs.declared.Node.{Node}
use Rattle.record.specs.declared.Operation.{Operation}
use Rattle.record.specs.declared.Operation.TheVariants.{Update, Scan}
use Rattle.record.specs.declared.Wait.{Wait}
use Rattle.record.specs.declared.Wait.TheVariants.{Idle, Reading, Writing, Comparing, Borrowing}
use Rattle.step.specs.Claims.{Long}
use Rattle.step.specs.Move.{agreement}
use Rattle.step.specs.Move.{read_pass, write_pass, compare_pass, borrow_pass, reads, writes, compares, move_on, begun}
use Rattle.step.specs.Move.{opened, after_read, after_good, after_failed}
use Rattle.step.specs.declared.Step.{Step}
use Rattle.step.proofs.Numbers.{on-pick}
use Rattle.step.proofs.Same.{move-on-keeps}
use Rattle.region.specs.Record.{record_of, record_bytes}
use Rattle.region.proofs.Back.{Sized, SizedNode, sized_of, record-back}
use Rattle.react_bytes.proofs.Handling.{sized-newest}
use Rattle.step_bytes.specs.Moved.{IsStep}
use Rattle.step_bytes.proofs.Turned.{step_of}
use Rattle.step_bytes.specs.declared.Effect.{Effect}

pub sized-none : Sized no_view
sized-none = record { tags = length-replicate {A = ℕ} nodes 0; reports = length-replicate nodes no_report }

-- Of the tables a pass changes no more than the reports held for the round: it holds the newest, none, or the same.
abbrev Held : Step → Type 0
Held s = Sized s.node.atround

module _ (f : ℕ) (s : Step) (z : Held s) where
  read-holds : (w : Wait) → Held (read_pass f s s.node w)
  unfolding read_pass after_read opened
  read-holds (Reading (Update p) a m) =
      on-pick Held (is_quorum s.node.n f (members_in s.node.n a)) _ _
      (λ e. on-pick Held (eqb (max m s.node.maxtag) limit) _ _ (λ e. sized-none) (λ e. sized-newest _ _ _)) (λ e. z)
  read-holds (Reading Scan a m) =
      on-pick Held (is_quorum s.node.n f (members_in s.node.n a)) _ _ (λ e. sized-newest _ _ _) (λ e. z)
  read-holds Idle = z
  read-holds (Writing k i r a) = z
  read-holds (Comparing k i r) = z
  read-holds (Borrowing k r) = z

  write-holds : (w : Wait) → Held (write_pass f s s.node w)
  unfolding write_pass
  write-holds (Writing k i r a) =
      on-pick Held (is_quorum s.node.n f (members_in s.node.n a)) _ _ (λ e. z) (λ e. z)
  write-holds Idle = z
  write-holds (Reading o a m) = z
  write-holds (Comparing k i r) = z
  write-holds (Borrowing k r) = z

  compare-holds : (w : Wait) → Held (compare_pass f s s.node w)
  unfolding compare_pass after_good after_failed opened
  compare-holds (Comparing k i r) =
      on-pick Held (agreement f s.node) _ _
      (λ e. on-pick Held (leb s.node.maxtag r) _ _
      (λ e. on-pick Held (eqb i 0) _ _ (λ e. sized-newest _ _ _) (λ e. sized-none))
      (λ e. on-pick Held (ltb i 3) _ _ (λ e. sized-newest _ _ _) (λ e. sized-none)))
      (λ e. z)
  compare-holds Idle = z
  compare-holds (Reading o a m) = z
  compare-holds (Writing k i r a) = z
  compare-holds (Borrowing k r) = z

  borrow-holds : (w : Wait) → Held (borrow_pass s s.node w)
  unfolding borrow_pass
  borrow-holds (Borrowing k r) = on-pick Held (leb r s.node.kept) _ _ (λ e. sized-none) (λ e. z)
  borrow-holds Idle = z
  borrow-holds (Reading o a m) = z
  borrow-holds (Writing k i r a) = z
  borrow-holds (Comparing k i r) = z

move-on-holds : (f : ℕ) (s : Step) → Held s → Held (move_on f s)
unfolding move_on
move-on-holds f s z =
    let a = reads f s in
    let b = writes f a in
    let c = compares f b in
    let y = write-holds f a (read-holds f s z s.node.wait) a.node.wait in
    borrow-holds f c (compare-holds f b y b.node.wait) c.node.wait

-- the tables after a step have their sizes
pub sized-moved : (f : ℕ) (s : Step) → SizedNode s.node → SizedNode (move_on f s).node
sized-moved f s z =
    record {
      heard = ap length (move-on-keeps (λ (c : Node). c.heard) (λ c q w v. refl) f s) ∙ z.heard;
      last = subst Sized (sym (move-on-keeps (λ (c : Node). c.last) (λ c q w v. refl) f s)) z.last;
      atmax = subst Sized (sym (move-on-keeps (λ (c : Node). c.atmax) (λ c q w v. refl) f s)) z.atmax;
      atround = move-on-holds f s z.atround;
      keptview = subst Sized (sym (move-on-keeps (λ (c : Node). c.keptview) (λ c q w v. refl) f s)) z.keptview;
    }

pub sized-begun : (c : Node) (o : Operation) → SizedNode c → SizedNode (begun c o).node
unfolding begun
sized-begun c o z =
    record { heard = z.heard; last = z.last; atmax = z.atmax; atround = z.atround; keptview = z.keptview }

-- the bytes and the effect of a step are that step
module _ (s : Step) (z : SizedNode s.node) {e : Effect} {r : List ℕ} (h : IsStep e r s) where
  read_back : record_of r ≡ s.node
  read_back = ap record_of h.1 ∙ record-back s.node z

  pub step-bytes : r ≡ record_bytes (record_of r)
  step-bytes = h.1 ∙ ap record_bytes (sym read_back)

  pub step_back : step_of (record_of r) e ≡ s
  step_back = ap₂ step_of read_back h.0

-- the tables of a record in bytes have the lengths that their types say
pub long_of : (r : List ℕ) → Long (record_of r)
long_of r =
    let z = sized_of r in
    record {
      last = (z.last.tags, z.last.reports);
      atmax = (z.atmax.tags, z.atmax.reports);
      atround = (z.atround.tags, z.atround.reports);
    }
