-- `session_progress::finish` meets its contract.
use Prim.Native.Nat.{ℕ, ◌+◌, ◌≤◌}
use mathlib.Core.Path.{◌≡◌, refl, sym, ◌∙◌}
use mathlib.Core.List.{List}
use native.Mathlib.Nat.{zero-add}
use native.Mathlib.Omega.{arith}
use lib.ListN.{length}
use borrow.Author.Tests.{eq-eqb, ne_eqb}
use Rattle.octets.specs.Bytes.{put}
use Rattle.octets.proofs.Put.{put-nil}
use Rattle.session_progress.specs.Progress.{text_size, finished}
use Rattle.session_progress.specs.declared.Progress.{Progress}
use Rattle.session_progress.proofs.Short.{finish-short}
use Rattle.session_progress.proofs.finish.Goals as goal

-- what is printed at the end has room
ends : (o : List ℕ) {b : List ℕ} {k : ℕ} (p : Progress) → (b ≡ put o 0 (finished p)) × (k ≡ 0 + length (finished p))
    → (b ≡ put o 0 (finished p)) × (k ≡ length (finished p)) × (k ≤ text_size)
ends o p e = (e.0, e.1 ∙ zero-add (length (finished p)), omega (arith, e.1, finish-short p))

pub returns-in-First : goal.returns-in-First
unfolding finished
returns-in-First c = ends c.args.out.now c.args.p (rw c.in-First.is c.put_bad.ensures)

pub returns-in-Events : goal.returns-in-Events
unfolding finished
returns-in-Events c =
    let x = c.args in
    ends x.out.now x.p
    (rw (c.in-Events.is, ne_eqb x.p.carry.size 0 (λ e. omega (arith, c.if-p-gt0.true))) c.put_bad-in-Events.ensures)

-- a last line that ended, and a session that is over, print nothing
pub returns-in_default : goal.returns-in_default
unfolding finished
returns-in_default c =
    let x = c.args in
    ends x.out.now x.p (rw (c.in-Events.is, eq-eqb x.p.carry.size 0 (omega (arith, c.if-p-gt0.false)))
    (sym (put-nil x.out.now 0), refl))

pub returns-in_default-2 : goal.returns-in_default-2
unfolding finished
returns-in_default-2 c =
    let x = c.args in
    ends x.out.now x.p (rw c.in_default.is (sym (put-nil x.out.now 0), refl))
