-- `block::receive_from` meets its contract.
use Rattle.std.proofs.Common.{ℕ, refl, sym, ap, ◌∙◌, arith}
use Rattle.octets.proofs.Lent.{lent_back}
use Rattle.region.specs.Channel.{push, channel_size}
use Rattle.block.specs.Block.{change, receive}
use Rattle.block.proofs.receive_from.Goals as goal

pub returns-then-not-has_stopped : goal.returns-then-not-has_stopped
unfolding receive
returns-then-not-has_stopped c =
    let k = c.args.k.now in
    let f = push c.args.m.now in
    rw (sym c.has_stopped.ensures ∙ c.if-not-has_stopped.true)
    (lent_back k c.channel_place-at.result channel_size f refl (omega arith) c.push.auto.t c.push.ensures
    ∙ ap (λ (at : ℕ). change at channel_size f k) c.channel_place-at.ensures)

pub returns-else-not-has_stopped : goal.returns-else-not-has_stopped
unfolding receive
returns-else-not-has_stopped c = rw (sym c.has_stopped.ensures ∙ c.if-not-has_stopped.false) refl
