-- `octets::put_words` meets its contract.
use Prim.Native.Nat.{◌≤◌}
use mathlib.Core.Path.{◌≡◌}
use lib.ListN.{length, get_or}
use Rattle.octets.specs.Bytes.{be, put}
use Rattle.octets.specs.Loop.{join}
use Rattle.octets.proofs.put_words.Given as goal

abbrev pub invariant-loop-i : goal.invariant-loop-i
invariant-loop-i l = (l.i ≤ length l.t) × (l.b ≡ put l.initial.b l.at (join l.i (λ j. be 8 (get_or l.t j 0))))
    × (length l.b ≡ length l.initial.b)
