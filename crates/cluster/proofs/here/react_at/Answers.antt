-- `cluster::here::react_at` meets its contract.
use mathlib.Core.Path.{ap, ◌∙◌}
use mathlib.Core.List.{List}
use Prim.Native.Nat.{ℕ}
use Rattle.view.specs.View.{view_of}
use Rattle.step.specs.React.{react}
use Rattle.region.specs.Record.{record_of, record_bytes}
use Rattle.cluster.proofs.InPlace.{record-lent, record-lent-back}
use Rattle.cluster.proofs.here.react_at.Goals as goal

pub returns : goal.returns
returns c =
    let a = c.args in
    let p = c.requires in
    let v = view_of a.n a.v.now in (
      c.react_in.ensures.0 ∙ ap (λ (r : List ℕ). (react (record_of r) a.a a.m v).outbox.handler)
          (record-lent a.b.now a.c c.record_at-at.ensures),
      record-lent-back a.b.now a.c p.3 p.5
          (λ (r : List ℕ). record_bytes (react (record_of r) a.a a.m v).node) c.record_at-at.ensures
          c.react_in.auto.r c.react_in.ensures.1,
    )
