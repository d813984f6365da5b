-- `cluster::blank_blocks` meets its contract: after i turns its loop has what the definition has after i.
use Prim.Native.Nat.{◌+◌}
use mathlib.Core.Path.{◌≡◌}
use lib.ListN.{length}
use Rattle.octets.specs.Loop.{up_to}
use Rattle.record.specs.Record.{blank}
use Rattle.block.specs.Block.{keep_record}
use Rattle.layout.specs.Layout.{cluster_size, on_block}
use Rattle.cluster.proofs.blank_blocks.Given as goal

abbrev pub invariant-loop-i : goal.invariant-loop-i
invariant-loop-i l = (length l.b ≡ cluster_size l.n) × (l.b
    ≡ up_to l.i (λ j. on_block (j + 1) (keep_record (blank l.n l.f (j + 1)))) l.initial.b)
