-- `digits::decimal` meets its contract: the digits still to come stand before those written.
use borrow.Author.Rules.{rules}
use Prim.Native.Nat.{ℕ, ◌+◌, ◌-◌, ◌/◌, ◌%◌, ◌≤◌}
use mathlib.Core.Path.{◌≡◌, refl, sym, ap, ◌∙◌}
use mathlib.Core.List.{List, ◌++◌}
use native.Mathlib.Omega.{arith}
use lib.ListN.{drop, length-set}
use lib.Seq.{append_snoc}
use Rattle.digits.specs.Decimal.{fewest}
use Rattle.digits.proofs.DecimalBack.{above, above_more, ten-room, ten-low, stored}
use Rattle.digits.proofs.decimal.Goals as goal

pub loop-y-init : goal.loop-y-init
unfolding fewest
loop-y-init c = (search rules, omega arith, refl, refl)

pub overflow_sub-from : goal.overflow_sub-from
overflow_sub-from c = omega (
  arith,
  ten-room c.loop-y.from c.loop-y.y (omega arith)
      c.loop-y.invariant.1,
)

pub bounds-text-from : goal.bounds-text-from
bounds-text-from c = omega (
  arith,
  ten-room c.loop-y.from c.loop-y.y (omega arith)
      c.loop-y.invariant.1,
)

pub loop-y-smaller : goal.loop-y-smaller
loop-y-smaller c = omega (
  arith,
  ten-room c.loop-y.from c.loop-y.y (omega arith)
      c.loop-y.invariant.1,
)

pub loop-y-preserved : goal.loop-y-preserved
loop-y-preserved c =
    let from = c.loop-y.from in
    let y = c.loop-y.y in
    let one : 1 ≤ from = ten-room from y (omega arith) c.loop-y.invariant.1 in
    let d : ℕ = 48 + y % 10 in (
      omega arith,
      ten-low from y (omega arith) c.loop-y.invariant.1,
      simp length-set c.loop-y.invariant.2,
      ap (λ (r : List ℕ). above (from - 1) (y / 10) ++ r) (stored c.loop-y.text from d one (omega arith))
          ∙ sym (append_snoc (above (from - 1) (y / 10)) d (drop from c.loop-y.text))
          ∙ ap (λ (r : List ℕ). r ++ drop from c.loop-y.text) (sym (above_more from y (omega arith) one))
          ∙ c.loop-y.invariant.3,
    )

pub returns : goal.returns
returns c =
    let e : c.loop-y.y ≡ 0 = omega arith in (
      c.loop-y.invariant.2,
      search rules,
      ap (λ (y : ℕ). above c.loop-y.from y ++ drop
          c.loop-y.from c.loop-y.text) (sym e) ∙ c.loop-y.invariant.3,
    )
