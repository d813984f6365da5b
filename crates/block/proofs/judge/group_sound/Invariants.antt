-- `block::judge::group_sound` meets its contract: the invariant: the first j cells of the group were judged.
use Rattle.std.proofs.Common.{◌≡◌, ℕ, ◌+◌}
use Rattle.octets.specs.Loop.{all_to}
use Rattle.block.specs.Judge.{cell_within}
use Rattle.block.proofs.judge.group_sound.Given as goal

abbrev pub invariant-loop-j : goal.invariant-loop-j
invariant-loop-j l = l.ok ≡ all_to l.j (λ (i : ℕ). cell_within l.r (l.k + i))
