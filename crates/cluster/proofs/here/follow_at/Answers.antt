-- `cluster::here::follow_at` meets its contract.
use borrow.Author.Rules.{rules}
use mathlib.Core.Path.{sym, ap, ◌∙◌, subst}
use mathlib.Core.List.{List}
use Prim.Native.Nat.{ℕ, ◌≤◌}
use Rattle.view.specs.Size.{limit}
use Rattle.step.specs.Step.{started}
use Rattle.region.specs.Record.{record_of, record_bytes}
use Rattle.step_bytes.specs.Moved.{effect, followed}
use Rattle.cluster.proofs.InPlace.{record-lent, record-lent-back}
use Rattle.cluster.proofs.here.follow_at.Goals as goal

pub follow_in-requires : goal.follow_in-requires
follow_in-requires c =
    let a = c.args in
    let p = c.requires in
    let e = record-lent a.b.now a.c c.record_at-at.ensures in (
      search rules,
      ap (λ (r : List ℕ). (record_of r).n) e ∙ p.3,
      p.4,
      subst (λ (r : List ℕ). (record_of r).request ≤ limit) (sym e) p.5,
      p.6,
      e ∙ p.7 ∙ ap (λ (r : List ℕ). record_bytes (record_of r)) (sym e),
    )

pub returns : goal.returns
returns c =
    let a = c.args in
    let p = c.requires in (
      c.follow_in.ensures.0 ∙ ap (λ (r : List ℕ). effect (followed a.p (started (record_of r)
          a.a a.sent)))
          (record-lent a.b.now a.c c.record_at-at.ensures),
      record-lent-back a.b.now a.c p.0 p.2
          (λ (r : List ℕ). record_bytes (followed a.p (started (record_of r) a.a a.sent)).node)
          c.record_at-at.ensures c.follow_in.auto.r c.follow_in.ensures.1,
    )
