-- `node_bytes::fresh` meets its contract.
use Rattle.refusal.specs.declared.Refusal.TheVariants.{Length, Size}
use borrow.Author.Rules.{rules}
use Prim.Native.Nat.{ℕ}
use mathlib.Core.Path.{refl, sym, ap, ◌∙◌}
use mathlib.Core.List.{List}
use lib.ListN.{length}
use borrow.Author.Tests.{ne_eqb, eq-eqb}
use Rattle.octets.specs.Bytes.{put}
use Rattle.record.specs.Record.{blank}
use Rattle.step.specs.declared.Ending.TheVariants.{None}
use Rattle.region.specs.Record.{n_place, head_in, head_bytes}
use Rattle.node_bytes.proofs.Made.{none, other_length, made, blank-bytes}
use Rattle.node_bytes.proofs.Stepped.{becomes, refuses, called}
use Rattle.node_bytes.proofs.fresh.Goals as goal

pub returns-then-not-sizes_within : goal.returns-then-not-sizes_within
returns-then-not-sizes_within c =
    let a = c.args in
    refuses Size (none a.n a.f a.own a.r.now
    (sym c.sizes_within.ensures ∙ c.if-not-sizes_within.true))

pub returns-then-r-ne-RECORD : goal.returns-then-r-ne-RECORD
returns-then-r-ne-RECORD c =
    let a = c.args in
    refuses Length (other_length a.n a.f a.own a.r.now
    (sym c.sizes_within.ensures ∙ c.if-not-sizes_within.false) (ne_eqb _ _
    c.if-r-ne-RECORD.true))

pub returns : goal.returns
returns c =
    let a = c.args in
    becomes (called None 0) _ _
    (made a.n a.f a.own a.r.now (sym c.sizes_within.ensures ∙ c.if-not-sizes_within.false)
    (eq-eqb _ _ c.if-r-ne-RECORD.false)) (
      refl,
      refl,
      refl,
      c.save_head.ensures
          ∙ ap (λ (z : List ℕ). put z n_place (head_bytes (head_in (blank a.n a.f a.own)))) (search rules)
          ∙ blank-bytes a.n a.f a.own (length a.r.now) c.if-r-ne-RECORD.false,
      refl,
    )
