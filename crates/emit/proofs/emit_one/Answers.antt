-- `emit::emit_one` meets its contract. Assumes nothing.
use mathlib.Core.Path.{sym, ap, ◌∙◌, subst}
use mathlib.Core.List.{List, []}
use Prim.Native.Nat.{ℕ, ◌+◌, ◌≤◌}
use lib.ListN.{length}
use Rattle.octets.specs.Bytes.{put}
use Rattle.wire.proofs.Short.{not_good}
use Rattle.wire_put.proofs.Allowed.{any-view, allowed-short}
use Rattle.emit.proofs.emit_one.Goals as goal

pub emit_good-requires : goal.emit_good-requires
emit_good-requires c =
    let p = c.requires in
    let is = c.in-Good.is in
    (p.0, rw is at p.1, rw is at p.2)

pub emit_short-requires : goal.emit_short-requires
emit_short-requires c =
    let a = c.args in
    let p = c.requires in
    let x = any-view a.n a.m a.v.now [] (not_good a.m c.in_default.not-Good) in (
      allowed-short a.n a.m p.0 (sym x.1 ∙ p.1),
      subst (λ (e : List ℕ). a.at + length e ≤ length a.out.now) x.0 p.2,
    )

pub returns-in-Good : goal.returns-in-Good
returns-in-Good c = rw c.in-Good.is c.emit_good.ensures

pub returns-in_default : goal.returns-in_default
returns-in_default c =
    let a = c.args in
    let x = (any-view a.n a.m [] a.v.now (not_good a.m c.in_default.not-Good)).0 in (
      c.emit_short.ensures.0 ∙ ap (λ (e : List ℕ). a.at + length e) x,
      c.emit_short.ensures.1 ∙ ap (λ (e : List ℕ). put a.out.now a.at e) x,
    )
