-- `digits::decimal` meets its contract: the digits still to come stand before those written.
use Prim.Native.Nat.{◌^◌, ◌<◌, ◌≤◌}
use mathlib.Core.Path.{◌≡◌}
use mathlib.Core.List.{◌++◌}
use lib.ListN.{length, drop}
use Rattle.digits.specs.Decimal.{decimal as Decimal·decimal}
use Rattle.digits.proofs.DecimalBack.{above}
use Rattle.digits.proofs.decimal.Given as goal

abbrev pub invariant-loop-y : goal.invariant-loop-y
invariant-loop-y l = (l.from ≤ 19) × (l.y < 10 ^ l.from) × (length l.text ≡ 20) ×
    (above l.from l.y ++ drop l.from l.text ≡ Decimal·decimal l.x)

abbrev pub decreases-loop-y : goal.decreases-loop-y
decreases-loop-y l = l.from
