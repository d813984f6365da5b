-- `digits::number` meets its contract: after i turns its loop has what the definition has after i.
use Rattle.std.proofs.Common.{◌≡◌, ◌+◌, ◌*◌, ◌^◌, ◌≤◌}
use Rattle.octets.specs.Loop.{up_to}
use Rattle.digits.specs.Decimal.{value_with}
use Rattle.digits.proofs.number.Given as goal

abbrev pub invariant-loop-x : goal.invariant-loop-x
invariant-loop-x l = (l.v ≡ up_to l.x-index (value_with l.s) 0) × (l.v + 300 ≤ 300 * 10 ^ l.x-index)
