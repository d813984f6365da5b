-- `wire_front::has_head` meets its contract.
use Rattle.std.proofs.Common.{◌≡◌, ◌∙◌, ℕ, ◌+◌, ◌*◌, ◌/◌, ◌%◌, ◌<◌, sym, ap, get_or, arith, eqb, eq-eqb}
use native.Mathlib.Decide.{ℕ_discrete}
use native.Mathlib.Nat.{div-one}
use borrow.Author.Tests.{eqb-true, ne_eqb}
use Rattle.octets.specs.Test.{both}
use Rattle.octets.proofs.Test.{both_left, both_right, both_true, not-true-false}
use Rattle.wire.proofs.Fields.{head-is}
use Rattle.wire_front.proofs.has_head.Goals as goal

-- a number of two bytes is compared as its bytes are
two_bytes : (x y s : ℕ) → y < 256 → eqb (x * 256 + y) s ≡ both (eqb x (s / 256)) (eqb y (s % 256))
two_bytes x y s l = elim (ℕ_discrete (x * 256 + y) s) [
  | yes e ↦ eq-eqb _ _ e ∙ sym (both_true (eq-eqb x (s / 256) (omega arith)) (eq-eqb y (s % 256) (omega arith)))
  | no m ↦ ne_eqb _ _ m ∙ sym (not-true-false (both (eqb x (s / 256)) (eqb y (s % 256))) (λ h.
      let p = eqb-true x (s / 256) (both_left (eqb x (s / 256)) (eqb y (s % 256)) h) in
      let q = eqb-true y (s % 256) (both_right (eqb x (s / 256)) (eqb y (s % 256)) h) in
      m (omega arith)))
]

pub returns-then-b-at : goal.returns-then-b-at
returns-then-b-at c =
    let a = c.args in
    let b = a.b.now in
    let x = get_or b (a.at + 1) 0 in
    let y = get_or b (a.at + 2) 0 in
    let e : c.from_be_bytes.result ≡ x * 256 + y = omega arith in
    let l : y < 256 = (c.type_inv.b (a.at + 2)).fits in
    rw (head-is b a.at a.mark a.size c.requires, eq-eqb _ _ c.if-b-at.true, div-one)
    (ap (λ z. eqb z a.size) e ∙ two_bytes x y a.size l)

pub returns-else-b-at : goal.returns-else-b-at
returns-else-b-at c =
    let a = c.args in
    rw (head-is a.b.now a.at a.mark a.size c.requires, ne_eqb _ _ c.if-b-at.false)
