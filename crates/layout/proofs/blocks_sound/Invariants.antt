-- `layout::blocks_sound` meets its contract: the invariant: the first c blocks were judged.
use Rattle.std.proofs.Common.{◌≡◌, ℕ}
use Rattle.table.specs.Loop.{all}
use Rattle.block.specs.Block.{block_sound}
use Rattle.layout.specs.Layout.{block}
use Rattle.layout.proofs.blocks_sound.Given as goal

abbrev pub invariant-loop-c : goal.invariant-loop-c
invariant-loop-c l = l.ok ≡ all l.c (λ (d : ℕ). block_sound l.n l.f d (block l.b d))
