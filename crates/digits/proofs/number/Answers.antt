-- `digits::number` meets its contract: after i turns its loop has what the definition has after i.
use Rattle.std.proofs.Common.{◌≡◌, ℕ, ◌+◌, ◌*◌, sym, ap, ap₂, ◌∙◌, arith, length}
use Rattle.octets.specs.Loop.{up_to}
use Rattle.octets.proofs.Loop.{up_to-none, up_to-more}
use Rattle.digits.specs.Decimal.{value, value_with}
use Rattle.digits.proofs.DecimalBack.{ten-more, ten-most}
use Rattle.digits.proofs.number.Goals as goal

pub loop-x-init : goal.loop-x-init
loop-x-init c = (sym (up_to-none _ _), omega arith)

pub overflow_mul-v : goal.overflow_mul-v
overflow_mul-v c = omega (arith, ten-most c.loop-x.x-index (omega arith))

pub overflow_add-v : goal.overflow_add-v
overflow_add-v c = omega (arith, ten-most c.loop-x.x-index (omega arith))

pub loop-x-preserved : goal.loop-x-preserved
loop-x-preserved c =
    let i = c.loop-x.x-index in
    let f = value_with c.args.s.now in (
      ap₂ (λ (v d : ℕ). 10 * v + d) c.loop-x.invariant.0 c.digit.ensures.0
          ∙ sym (up_to-more i f 0),
      omega (arith, ten-more i),
    )

pub returns : goal.returns
unfolding value
returns c =
    let e : c.loop-x.x-index ≡ length c.args.s.now = omega arith in
    c.loop-x.invariant.0 ∙ ap (λ (k : ℕ). up_to k (value_with c.args.s.now) 0) e
