-- `block::channels_sound` meets its contract: the invariant: the channels from the first a nodes were judged.
use Rattle.std.proofs.Common.{◌≡◌, ℕ, leb}
use Rattle.table.specs.Loop.{all}
use Rattle.region.specs.Channel.{capacity}
use Rattle.block.specs.Block.{waiting_in}
use Rattle.block.proofs.channels_sound.Given as goal

abbrev pub invariant-loop-a : goal.invariant-loop-a
invariant-loop-a l = l.ok ≡ all l.a (λ (i : ℕ). leb (waiting_in l.k i) capacity)
