-- `release::release_handled` meets its contract.
use borrow.Author.Rules.{rules}
use Prim.Native.Nat.{ℕ}
use native.Mathlib.Omega.{arith}
use mathlib.Core.Path.{sym, ap, ap₂, ◌∙◌, subst}
use mathlib.Core.Bool.{Bool}
use mathlib.Core.List.{List}
use lib.ListN.{take}
use Rattle.view.specs.declared.View.{View}
use Rattle.step.specs.Claims.{AllLawful}
use Rattle.step.specs.Step.{listed}
use Rattle.outgoing.specs.Entries.{Entry, entries_of}
use Rattle.outgoing.specs.Outgoing.{halt_if, let_out}
use Rattle.outgoing.specs.Forward.{ReceivedAt}
use Rattle.outgoing.proofs.Forwarded.{handled-most}
use Rattle.release.proofs.Passed.{received-halted}
use Rattle.release.proofs.release_handled.Goals as goal

pub let_handled-requires : goal.let_handled-requires
let_handled-requires c =
    let a = c.args in
    let p = c.requires in (
      p.0,
      p.1,
      p.2,
      p.3,
      p.4,
      search rules,
      subst (λ (v : View). ReceivedAt a.n a.a a.c v a.s c.halt_if.new.b a.from)
          (sym c.absent.ensures)
          (received-halted a.n a.a a.c p.0 p.1 p.2 p.3 p.4 _ a.s a.b.now
          p.5 a.from p.6 c.is_cut.result c.halt_if.ensures),
      subst (λ (v : View). AllLawful a.n v (listed a.s)) (sym c.absent.ensures) p.7,
    )

pub returns : goal.returns
returns c =
    let a = c.args in
    let p = c.requires in
    let n = a.n in
    c.let_handled.ensures ∙ ap₂ (λ (l : List Entry) (t : List ℕ). let_out n a.c l t)
    (ap₂ (λ (j : ℕ) (v : View). take j (entries_of n a.a v (listed a.s))) c.allowance.ensures
    c.absent.ensures
    ∙ handled-most n a.a a.x _ a.s (omega (arith, p.1, p.2)) p.0)
    (c.halt_if.ensures ∙ ap (λ (t : Bool). halt_if t n a.c a.b.now) c.is_cut.ensures)
