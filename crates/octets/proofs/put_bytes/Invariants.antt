-- `octets::put_bytes` meets its contract.
use Rattle.std.proofs.Common.{◌≡◌, ◌≤◌, length, take}
use Rattle.octets.specs.Bytes.{put}
use Rattle.octets.proofs.put_bytes.Given as goal

abbrev pub invariant-loop-i : goal.invariant-loop-i
invariant-loop-i l = (l.i ≤ length l.s) × (l.b ≡ put l.initial.b l.at (take l.i l.s))
    × (length l.b ≡ length l.initial.b)
