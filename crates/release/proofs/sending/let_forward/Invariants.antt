-- `release::sending::let_forward` meets its contract: after k turns its loop has what the definition has after k, and
-- the slot that it copies from is as it was.
use Rattle.std.proofs.Common.{◌≡◌, ◌+◌}
use Rattle.octets.specs.Bytes.{part}
use Rattle.octets.specs.Loop.{up_to}
use Rattle.wire.specs.Layout.{value_size}
use Rattle.block.specs.Block.{receive}
use Rattle.layout.specs.Layout.{on_block}
use Rattle.layout.specs.Slot.{slot_from}
use Rattle.release.proofs.sending.let_forward.Given as goal

abbrev pub invariant-loop-k : goal.invariant-loop-k
invariant-loop-k l =
    (l.b ≡ up_to l.k (λ i. on_block (i + 1) (receive l.c (slot_from l.initial.b l.from value_size))) l.initial.b)
    × (part l.b l.from value_size ≡ part l.initial.b l.from value_size)
