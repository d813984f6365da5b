-- `block::halt_node` meets its contract: after i turns its loop has what the definition has after i.
use Rattle.std.proofs.Common.{◌≡◌, ◌+◌}
use Rattle.octets.specs.Loop.{up_to}
use Rattle.region.specs.Channel.{clear}
use Rattle.block.specs.Block.{on_channel}
use Rattle.block.proofs.halt_node.Given as goal

abbrev pub invariant-loop-i : goal.invariant-loop-i
invariant-loop-i l = l.k ≡ up_to l.i (λ j. on_channel (j + 1) clear) l.initial.k
