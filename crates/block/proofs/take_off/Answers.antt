-- `block::take_off` meets its contract.
use Rattle.std.proofs.Common.{ℕ, refl, ap, ◌∙◌, arith}
use Rattle.octets.proofs.Lent.{lent_back}
use Rattle.region.specs.Channel.{pop, channel_size}
use Rattle.block.specs.Block.{change, take_off}
use Rattle.block.proofs.take_off.Goals as goal

pub returns : goal.returns
unfolding take_off
returns c =
    let k = c.args.k.now in
    lent_back k c.channel_place-at.result channel_size pop refl (omega arith) c.pop.auto.t c.pop.ensures
    ∙ ap (λ (at : ℕ). change at channel_size pop k) c.channel_place-at.ensures
