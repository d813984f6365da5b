-- Refusals whose numbers are in their range. Assumes nothing.
use Prim.Native.Nat.{ℕ}
use native.Mathlib.Omega.{arith}
use mathlib.Core.Path.{◌≡◌, ◌∙◌}
use mathlib.Core.Bool.{Bool, true, not}
use lib.Dec.{leb, ltb, eqb}
use borrow.Author.Tests.{eqb-false, leb-true, ltb-true, not-true}
use Rattle.octets.specs.Answer.{returned, refused}
use Rattle.octets.specs.Test.{both}
use Rattle.octets.proofs.Test.{both_left, both_right}
use Rattle.step.specs.Told.{spent_number}
use Rattle.codes.specs.Code.{done_from}
use Rattle.codes.specs.Apart.{Numbered}

-- a number in that range, by computing
abbrev pub InRange : (last k : ℕ) → Bool
InRange last k = both (both (leb 1 k) (both (leb k last) (ltb k done_from))) (not (eqb k spent_number))

pub in-range : {A : Type 0} {last : ℕ} (k : ℕ) → InRange last k ≡ true → Numbered {A = A} last (refused k)
in-range {A} {last} k h =
    record {
      number = λ j is.
          let same : k ≡ j = cc in
          let most = both (leb k last) (ltb k done_from) in
          let within = both_left (both (leb 1 k) most) (not (eqb k spent_number)) h in
          let low = leb-true 1 k (both_left (leb 1 k) most within) in
          let ends = both_right (leb 1 k) most within in
          let high = leb-true k last (both_left (leb k last) (ltb k done_from) ends) in
          let below = ltb-true k done_from (both_right (leb k last) (ltb k done_from) ends) in
          let other = both_right (both (leb 1 k) most) (not (eqb k spent_number)) h in (
            omega (arith, same, low),
            omega (arith, same, high),
            omega (arith, same, below),
            λ e. eqb-false k spent_number (not-true (eqb k spent_number) other) (same ∙ e),
          );
    }

pub accepted : {A : Type 0} {last : ℕ} {x : A} → Numbered last (returned x)
accepted = record { number = λ k is. let z : ◌≡◌ {A = ℕ} 0 1 = cc in absurd (omega arith) }
