-- `release::release` meets its contract.
use borrow.Author.Rules.{rules}
use Prim.Native.Nat.{ℕ}
use native.Mathlib.Omega.{arith}
use mathlib.Core.Path.{ap, ap₂, ◌∙◌}
use mathlib.Core.Bool.{Bool}
use mathlib.Core.List.{List}
use lib.ListN.{take}
use Rattle.outgoing.specs.Entries.{Entry, entries}
use Rattle.outgoing.specs.Outgoing.{halt_if, let_out}
use Rattle.outgoing.proofs.Out.{shortened-most}
use Rattle.release.proofs.Passed.{received-halted}
use Rattle.release.proofs.release.Goals as goal

pub let_out-requires : goal.let_out-requires
let_out-requires c =
    let a = c.args in
    let p = c.requires in (
      p.0,
      p.1,
      p.2,
      p.3,
      p.4,
      search rules,
      received-halted a.n a.a a.c p.0 p.1 p.2 p.3 p.4 a.o.view a.o.handler a.b.now
          p.5 a.from p.6 c.is_cut.result c.halt_if.ensures,
      p.7,
    )

pub returns : goal.returns
returns c =
    let a = c.args in
    let p = c.requires in
    let n = a.n in
    c.let_out.ensures ∙ ap₂ (λ (l : List Entry) (t : List ℕ). let_out n a.c l t)
    (ap (λ (j : ℕ). take j (entries n a.a a.o)) c.allowance.ensures
    ∙ shortened-most n a.a a.x a.o (omega (arith, p.1, p.2)) p.0)
    (c.halt_if.ensures ∙ ap (λ (t : Bool). halt_if t n a.c a.b.now) c.is_cut.ensures)
