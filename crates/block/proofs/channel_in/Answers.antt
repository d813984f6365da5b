-- `block::channel_in` meets its contract.
use Rattle.std.proofs.Common.{ℕ, length, refl, ap, ◌∙◌, arith}
use Rattle.octets.specs.Bytes.{part}
use Rattle.octets.proofs.Lent.{lent}
use Rattle.octets.proofs.Put.{length_part}
use Rattle.region.specs.Channel.{channel_size}
use Rattle.block.specs.Block.{channel_place, channel_in}
use Rattle.block.proofs.channel_in.Goals as goal

pub returns : goal.returns
unfolding channel_in
returns c =
    let k = c.args.k.now in
    let is = lent k c.channel_place-at.result channel_size refl
    ∙ ap (λ (at : ℕ). part k at channel_size) c.channel_place-at.ensures in
    (is, ap length is ∙ length_part k (channel_place c.args.a) channel_size (omega arith))
