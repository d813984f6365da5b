-- `block::waiting_in` meets its contract.
use Rattle.std.proofs.Common.{ℕ, List, ap, ◌∙◌, rules}
use Rattle.region.specs.Channel.{count_of}
use Rattle.block.proofs.waiting_in.Goals as goal

pub returns : goal.returns
returns c = (
  c.from.ensures ∙ ap (λ (t : List ℕ). count_of t) c.channel_in.ensures.0,
  search rules,
)
