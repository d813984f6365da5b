-- `figures::is_entry` meets its contract.
use mathlib.Core.Path.{sym}
use native.Mathlib.Omega.{arith}
use Rattle.figures.proofs.Bounds.{by_first}
use Rattle.figures.proofs.is_entry.Goals as goal

pub returns-then-v-at-gt0 : goal.returns-then-v-at-gt0
returns-then-v-at-gt0 c =
    sym (by_first c.args.v.now c.args.at (λ k. (c.type_inv.v k).fits)
    (omega (arith, c.requires)) c.if-v-at-gt0.true)
