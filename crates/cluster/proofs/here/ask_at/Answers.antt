-- `cluster::here::ask_at` meets its contract.
use borrow.Author.Rules.{rules}
use mathlib.Core.Path.{sym, subst}
use mathlib.Core.List.{List}
use Prim.Native.Nat.{ℕ, ◌≤◌}
use Rattle.view.specs.Size.{limit}
use Rattle.step.specs.Move.{begun}
use Rattle.region.specs.Record.{record_of, record_bytes}
use Rattle.cluster.proofs.InPlace.{record-lent, record-lent-back}
use Rattle.cluster.proofs.here.ask_at.Goals as goal

pub ask_in-requires : goal.ask_in-requires
ask_in-requires c =
    let a = c.args in
    let p = c.requires in
    let e = record-lent a.b.now a.c c.record_at-at.ensures in
    (search rules, subst (λ (r : List ℕ). (record_of r).request ≤ limit) (sym e) p.3)

pub returns : goal.returns
returns c =
    let a = c.args in
    let p = c.requires in
    record-lent-back a.b.now a.c p.0 p.2 (λ (r : List ℕ). record_bytes (begun (record_of r) a.o).node)
    c.record_at-at.ensures c.ask_in.auto.r c.ask_in.ensures.1
