-- `page::put_digits` meets its contract.
use Prim.Native.Nat.{◌≤◌}
use mathlib.Core.Path.{◌≡◌}
use lib.ListN.{length}
use Rattle.page.proofs.Digits.{Written}
use Rattle.page.proofs.put_digits.Given as goal

abbrev pub invariant-loop-y : goal.invariant-loop-y
invariant-loop-y l = Written l.initial.out l.end l.x l.out l.k l.y × (length l.out ≡ length l.initial.out)
    × (l.k ≤ l.end)

abbrev pub decreases-loop-y : goal.decreases-loop-y
decreases-loop-y l = l.y
