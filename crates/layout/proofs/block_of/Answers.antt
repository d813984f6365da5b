-- `layout::block_of` meets its contract.
use Rattle.std.proofs.Common.{ℕ, length, refl, ap, ◌∙◌}
use Rattle.octets.specs.Bytes.{part}
use Rattle.octets.proofs.Lent.{lent}
use Rattle.block.specs.Block.{block_size}
use Rattle.layout.specs.Layout.{block}
use Rattle.layout.proofs.Blocks.{length-block}
use Rattle.layout.proofs.block_of.Goals as goal

pub returns : goal.returns
unfolding block
returns c =
    let b = c.args.b.now in
    let is = lent b c.block_place-at.result block_size refl
    ∙ ap (λ (at : ℕ). part b at block_size) c.block_place-at.ensures in
    (is, ap length is ∙ length-block b c.args.c c.requires.0 c.requires.1)
