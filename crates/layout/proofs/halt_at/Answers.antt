-- `layout::halt_at` meets its contract.
use Rattle.std.proofs.Common.{ℕ, refl, ap, ◌∙◌, arith}
use Rattle.octets.proofs.Lent.{lent_back}
use Rattle.block.specs.Block.{halt, change, block_size}
use Rattle.layout.specs.Layout.{on_block}
use Rattle.layout.proofs.halt_at.Goals as goal

pub returns : goal.returns
unfolding on_block
returns c =
    let b = c.args.b.now in
    let f = halt c.args.n in
    lent_back b c.block_place-at.result block_size f refl (omega arith) c.halt_node.auto.k c.halt_node.ensures
    ∙ ap (λ (at : ℕ). change at block_size f b) c.block_place-at.ensures
