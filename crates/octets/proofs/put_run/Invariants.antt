-- `octets::put_run` meets its contract.
use Prim.Native.Nat.{◌-◌, ◌<◌}
use mathlib.Core.Path.{◌≡◌}
use lib.ListN.{length, take}
use Rattle.octets.specs.Bytes.{put}
use Rattle.octets.proofs.put_run.Given as goal

abbrev pub invariant-loop-i : goal.invariant-loop-i
invariant-loop-i l = (l.i < length l.s) × (l.b ≡ put l.initial.b l.at (take l.i l.s))
    × (length l.b ≡ length l.initial.b)

abbrev pub decreases-loop-i : goal.decreases-loop-i
decreases-loop-i l = length l.s - l.i
