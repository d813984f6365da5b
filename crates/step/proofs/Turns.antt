-- What each pass does where it moves the operation on. Assumes nothing.
use mathlib.Core.Path.{◌≡◌, sym, ap, ◌∙◌}
use mathlib.Core.Bool.{true}
use Prim.Native.Nat.{ℕ, ◌≤◌, max}
use Rattle.view.specs.Size.{limit}
use Rattle.table.specs.Quorum.{members_in, is_quorum}
use Rattle.record.specs.Usable.{wait_ok}
use Rattle.record.specs.declared.Node.{Node}
use Rattle.record.specs.declared.Operation.{Operation}
use Rattle.record.specs.declared.Kind.{Kind}
use Rattle.record.specs.declared.Wait.TheVariants.{Reading, Comparing}
use Rattle.record.proofs.Parts.{Parts, Round, reading-ok, round-parts}
use Rattle.step.specs.declared.Step.{Step}
use Rattle.step.specs.Move.{read_pass, after_read}

-- the numbers of the wait keep their limits
pub reading-most : (c : Node) {o : Operation} {a m : ℕ} → Parts c → c.wait ≡ Reading o a m → m ≤ limit
reading-most c {o} {a} {m} p e = (reading-ok c.n o a m (sym (ap (wait_ok c.n) e) ∙ p.wait-ok)).1

pub comparing-most : (c : Node) {k : Kind} {i r : ℕ} → Parts c → c.wait ≡ Comparing k i r → Round i r
comparing-most c {k} {i} {r} p e = round-parts i r (sym (ap (wait_ok c.n) e) ∙ p.wait-ok)

-- a step that reads on is the pass at the record's wait
pub reads_on : (f : ℕ) (s : Step) (c : Node) {o : Operation} {a m t : ℕ} → c.wait ≡ Reading o a m
    → is_quorum c.n f (members_in c.n a) ≡ true → t ≡ max m c.maxtag
    → after_read s c o t ≡ read_pass f s c c.wait
unfolding read_pass
reads_on f s c {o} e q h = ap (after_read s c o) h ∙ sym (ap (read_pass f s c) e ∙ rw q)
