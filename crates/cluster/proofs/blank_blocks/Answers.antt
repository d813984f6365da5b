-- `cluster::blank_blocks` meets its contract: after i turns its loop has what the definition has after i.
use borrow.Author.Rules.{rules}
use Prim.Native.Nat.{ℕ, ◌+◌}
use native.Mathlib.Omega.{arith}
use mathlib.Core.Path.{◌≡◌, sym, ap, ◌∙◌}
use mathlib.Core.List.{List}
use Rattle.octets.proofs.Loop.{up_to-none, up_to-more}
use Rattle.record.specs.Record.{blank}
use Rattle.record.specs.declared.Node.{Node}
use Rattle.block.specs.Block.{keep_record}
use Rattle.layout.specs.Layout.{on_block}
use Rattle.cluster.proofs.blank_blocks.Goals as goal

pub loop-i-init : goal.loop-i-init
loop-i-init c = (search rules, sym (up_to-none _ _))

pub loop-i-preserved : goal.loop-i-preserved
loop-i-preserved c =
    let a = c.args in
    let i = c.loop-i.i in (
      search rules,
      c.keep_at.ensures
          ∙ ap (λ (d : Node). on_block (i + 1) (keep_record d) c.loop-i.b) c.blank_node.ensures
          ∙ ap (λ (t : List ℕ). on_block (i + 1) (keep_record (blank a.n a.f (i + 1))) t) c.loop-i.invariant.1
          ∙ sym (up_to-more i (λ j. on_block (j + 1) (keep_record (blank a.n a.f (j + 1)))) a.b.now),
    )

pub returns : goal.returns
returns c =
    let e : c.loop-i.i ≡ c.args.n = omega arith in rw e at c.loop-i.invariant.1
