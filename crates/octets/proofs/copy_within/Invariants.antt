-- `octets::copy_within` meets its contract: a word is read where none was written before, or the same one.
use Prim.Native.Nat.{◌-◌, ◌<◌}
use mathlib.Core.Path.{◌≡◌}
use lib.ListN.{length, take}
use Rattle.octets.specs.Bytes.{part, put}
use Rattle.octets.proofs.copy_within.Given as goal

abbrev pub invariant-loop-i : goal.invariant-loop-i
invariant-loop-i l = (l.i < l.len) × (l.b ≡ put l.initial.b l.to (take l.i (part l.initial.b l.from l.len)))
    × (length l.b ≡ length l.initial.b)

abbrev pub decreases-loop-i : goal.decreases-loop-i
decreases-loop-i l = l.len - l.i
