-- `release::sending::let_message` meets its contract: after k turns its loop has what the definition has after k.
use Rattle.std.proofs.Common.{◌≡◌, ◌+◌}
use Rattle.octets.specs.Loop.{up_to}
use Rattle.block.specs.Block.{receive}
use Rattle.layout.specs.Layout.{on_block}
use Rattle.release.proofs.sending.let_message.Given as goal

abbrev pub invariant-loop-k : goal.invariant-loop-k
invariant-loop-k l = l.b ≡ up_to l.k (λ i. on_block (i + 1) (receive l.c l.s)) l.initial.b
