-- The digits of a number written from the last to the first, each before the one written last.
use Prim.Native.Nat.{ℕ, zero, suc, ◌+◌, ◌-◌, ◌/◌, ◌%◌, ◌^◌, ◌<◌, ◌≤◌}
use mathlib.Core.Path.{◌≡◌, refl, sym, ap, ap₂, ◌∙◌}
use mathlib.Core.List.{List, [], ◌∷◌, ◌++◌, append-nil}
use native.Mathlib.Nat.{add-zero}
use native.Mathlib.Omega.{arith}
use lib.ListN.{length, set, length-append}
use lib.Seq.{append_snoc}
use borrow.Author.Tests.{ne_eqb}
use Rattle.octets.specs.Bytes.{put}
use Rattle.octets.proofs.Put.{put-nil, put-before}
use Rattle.digits.specs.Decimal.{fewest, decimal}
use Rattle.digits.proofs.DecimalBack.{ten-down, fewest-some}

-- Of the digits of x those past the digits of y stand from k on, up to `end`.
pub record Written (o : List ℕ) (end x : ℕ) (out : List ℕ) (k y : ℕ) : Type 0 where
  pub fuel : ℕ
  pub tail : List ℕ
  pub digits : decimal x ≡ fewest (suc fuel) y ++ tail
  pub small : y < 10 ^ suc fuel
  pub bytes : out ≡ put o k tail
  pub place : k + length tail ≡ end

pub written_none : (o : List ℕ) (end x : ℕ) → x < 10 ^ 20 → Written o end x o end x
written_none o end x h =
    record {
      fuel = 19;
      tail = [];
      digits = sym (append-nil (decimal x));
      small = h;
      bytes = sym (put-nil o end);
      place = add-zero end;
    }

-- the digits that are left: of one digit its own, of more those before the last and the last
last_one : (j y : ℕ) → y < 10 → fewest (suc j) y ≡ (48 + y) ∷ []
unfolding fewest
last_one j y h =
    let e : y / 10 ≡ 0 = omega arith in
    let q : y % 10 ≡ y = omega arith in
    rw (e, q) refl

last_of : (j y : ℕ) → 10 ≤ y → fewest (suc j) y ≡ fewest j (y / 10) ++ ((48 + y % 10) ∷ [])
unfolding fewest
last_of j y h = rw (ne_eqb (y / 10) 0 (λ e. omega arith)) refl

module _ (o : List ℕ) (end x : ℕ) (out : List ℕ) (k y : ℕ) (w : Written o end x out k y)
    (room : length (decimal x) ≤ end) (fits : end ≤ length o) where
  pub written-room : 1 ≤ k
  written-room =
      let l : length (decimal x) ≡ length (fewest (suc w.fuel) y) + length w.tail = ap length w.digits
      ∙ length-append (fewest (suc w.fuel) y) w.tail in
      omega (arith, l, fewest-some w.fuel y, w.place)

  stored : (d : ℕ) → set out (k - 1) d ≡ put o (k - 1) (d ∷ w.tail)
  stored d =
      let e : suc (k - 1) ≡ k = omega (arith, written-room) in
      ap (λ (t : List ℕ). set t (k - 1) d) (w.bytes ∙ ap (λ (i : ℕ). put o i w.tail) (sym e))
      ∙ put-before o (k - 1) d w.tail (omega (arith, w.place, written-room))

  pub written-more : 10 ≤ y → Written o end x (set out (k - 1) (48 + y % 10)) (k - 1) (y / 10)
  written-more h = by w.fuel w.digits w.small
    where
      by : (j : ℕ) → decimal x ≡ fewest (suc j) y ++ w.tail → y < 10 ^ suc j
          → Written o end x (set out (k - 1) (48 + y % 10)) (k - 1) (y / 10)
      by zero e l = absurd (omega arith)
      by (suc j) e l =
          record {
            fuel = j;
            tail = (48 + y % 10) ∷ w.tail;
            digits = e ∙ ap (λ (t : List ℕ). t ++ w.tail) (last_of (suc j) y h)
                ∙ append_snoc (fewest (suc j) (y / 10)) (48 + y % 10) w.tail;
            small = ten-down (suc j) y l;
            bytes = stored (48 + y % 10);
            place = omega (arith, w.place, written-room);
          }

  pub written_last : y < 10 → set out (k - 1) (48 + y) ≡ put o (end - length (decimal x)) (decimal x)
  written_last h =
      let d : decimal x ≡ (48 + y) ∷ w.tail = w.digits ∙ ap (λ (t : List ℕ). t ++ w.tail) (last_one w.fuel y h) in
      let l : length (decimal x) ≡ suc (length w.tail) = ap length d in
      let e : k - 1 ≡ end - length (decimal x) = omega (arith, l, w.place) in
      stored (48 + y) ∙ ap₂ (λ (i : ℕ) (t : List ℕ). put o i t) e (sym d)
