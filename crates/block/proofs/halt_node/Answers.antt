-- `block::halt_node` meets its contract: after i turns its loop has what the definition has after i.
use Rattle.std.proofs.Common.{◌≡◌, ℕ, ◌+◌, List, refl, sym, ap, ◌∙◌, arith}
use Rattle.std.proofs.Math.ListN.{length-set}
use Rattle.octets.proofs.Loop.{up_to-none, up_to-more}
use Rattle.octets.proofs.Lent.{lent_back}
use Rattle.region.specs.Channel.{clear, channel_size}
use Rattle.block.specs.Block.{change, on_channel, halt}
use Rattle.block.proofs.halt_node.Goals as goal

pub loop-i-init : goal.loop-i-init
loop-i-init c = sym (up_to-none _ _)

pub loop-i-preserved : goal.loop-i-preserved
loop-i-preserved c =
    let i = c.loop-i.i in
    let k = c.loop-i.k in
    lent_back k c.channel_place-at.result channel_size clear refl (omega (arith, length-set {A = ℕ})) c.clear.auto.t
    c.clear.ensures
    ∙ ap (λ (at : ℕ). change at channel_size clear k) c.channel_place-at.ensures
    ∙ ap (λ (t : List ℕ). on_channel (i + 1) clear t) c.loop-i.invariant
    ∙ sym (up_to-more i (λ j. on_channel (j + 1) clear) _)

pub returns : goal.returns
unfolding halt
returns c = let e : c.loop-i.i ≡ c.args.n = omega arith in rw e at c.loop-i.invariant
