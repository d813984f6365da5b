-- `layout::blocks_sound` meets its contract: the invariant: the first c blocks were judged.
use Rattle.std.proofs.Common.{◌≤◌, ◌+◌, sym, ap, ◌∙◌, List, ℕ, arith}
use borrow.Author.Tests.{le-leb}
use Rattle.octets.proofs.Test.{both_true}
use Rattle.table.proofs.Laws.{all_none, all-next}
use Rattle.block.specs.Block.{block_sound}
use Rattle.layout.proofs.blocks_sound.Goals as goal

pub loop-c-init : goal.loop-c-init
loop-c-init c = sym (all_none _)

pub block_sound-ok-requires : goal.block_sound-ok-requires
block_sound-ok-requires c =
    let d = c.loop-c.c in
    let most : d + 1 ≤ c.args.n = omega arith in (
      c.block_of.ensures.1,
      both_true c.requires.0 (both_true (le-leb 1 (d + 1) (omega arith)) (le-leb (d + 1) c.args.n most)),
    )

pub loop-c-preserved : goal.loop-c-preserved
loop-c-preserved c =
    let a = c.args in
    let d = c.loop-c.c in
    all-next d _ _ _ c.loop-c.invariant
    (c.block_sound-ok.ensures ∙ ap (λ (t : List ℕ). block_sound a.n a.f (d + 1) t) c.block_of.ensures.0)
