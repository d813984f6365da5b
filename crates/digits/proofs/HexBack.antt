-- The hexadecimal text of bytes says those bytes, and it is hexadecimal.
use Prim.Native.Nat.{ℕ, zero, suc, ◌+◌, ◌*◌, ◌/◌, ◌%◌, ◌<◌, ◌≤◌}
use mathlib.Core.Path.{◌≡◌, refl, sym, ap, ap₂, ◌∙◌}
use mathlib.Core.Bool.{Bool, true, false}
use mathlib.Core.List.{List, [], ◌∷◌}
use native.Mathlib.Decide.{dec_le}
use native.Mathlib.Nat.{lt_of_not-le}
use native.Mathlib.Omega.{arith}
use lib.ListN.{length, get_or}
use lib.Dec.{eqb}
use Rattle.std.specs.List.{list_all}
use Rattle.std.proofs.lemmas.List.Folds.{list_all-append}
use borrow.Author.Tests.{eq-eqb, ne_eqb, lt-ltb, le-ltb, le-leb, lt-leb}
use Rattle.octets.specs.Test.{pick}
use Rattle.octets.specs.Bytes.{Bytes}
use Rattle.octets.specs.Loop.{tab}
use Rattle.octets.proofs.Test.{both_true}
use Rattle.octets.proofs.Table.{tab-ext, tab-of, get_d-tab, length-tab}
use Rattle.digits.specs.Decimal.{is_digit}
use Rattle.digits.specs.Hex.{is_letter, is_hex, all_hex, hex_value, hex_digit, half, byte_of, half_of, hex_bytes}
use Rattle.digits.specs.Hex.{hex_text}

digit-is : (v : ℕ) → v < 10 → is_digit (48 + v) ≡ true
digit-is v h = both_true (le-leb 48 (48 + v) (omega arith)) (le-leb (48 + v) 57 (omega arith))

letter-no-digit : (v : ℕ) → 10 ≤ v → is_digit (87 + v) ≡ false
letter-no-digit v h = rw (le-leb 48 (87 + v) (omega arith), lt-leb (87 + v) 57 (omega arith))

letter-is : (v : ℕ) → 10 ≤ v → v < 16 → is_letter (87 + v) ≡ true
letter-is v h l = both_true (le-leb 97 (87 + v) (omega arith)) (le-leb (87 + v) 102 (omega arith))

-- a digit says its number
value-digit : (v : ℕ) → v < 16 → hex_value (hex_digit v) ≡ v
unfolding hex_value hex_digit
value-digit v l = elim (dec_le 10 v) [ yes h ↦ letter h | no h ↦ digit (lt_of_not-le h) ]
  where
    digit : v < 10 → hex_value (hex_digit v) ≡ v
    digit h = rw (lt-ltb v 10 h, digit-is v h) (omega arith)

    letter : 10 ≤ v → hex_value (hex_digit v) ≡ v
    letter h = rw (le-ltb v 10 h, letter-no-digit v h, letter-is v h l) (omega arith)

hex-digit : (v : ℕ) → v < 16 → is_hex (hex_digit v) ≡ true
unfolding hex_digit
hex-digit v l = elim (dec_le 10 v) [ yes h ↦ letter h | no h ↦ digit (lt_of_not-le h) ]
  where
    digit : v < 10 → is_hex (hex_digit v) ≡ true
    digit h = rw (lt-ltb v 10 h, digit-is v h)

    letter : 10 ≤ v → is_hex (hex_digit v) ≡ true
    letter h = rw (le-ltb v 10 h, letter-no-digit v h, letter-is v h l)

-- the two halves of a byte
high_half : (x i : ℕ) → half x (2 * i) ≡ hex_digit (x / 16)
unfolding half
high_half x i = simp (eq-eqb (2 * i % 2) 0 (omega arith))

low_half : (x i : ℕ) → half x (2 * i + 1) ≡ hex_digit (x % 16)
unfolding half
low_half x i = simp (ne_eqb ((2 * i + 1) % 2) 0 (λ e. omega arith))

-- bytes as text, and read back
pub bytes_back : (k : ℕ) (b : List ℕ) → Bytes b → length b ≡ k → hex_bytes k (hex_text k b) ≡ b
unfolding hex_bytes hex_text
bytes_back k b h e =
    tab-ext k (byte_of (tab (2 * k) (half_of b))) (λ i. get_or b i 0) one ∙ ap (λ (j : ℕ). tab j (λ i. get_or b i 0))
    (sym e)
    ∙ tab-of b 0
  where
    one : (i : ℕ) → i < k → byte_of (tab (2 * k) (half_of b)) i ≡ get_or b i 0
    one i l =
        let x : ℕ = get_or b i 0 in
        let p : 2 * i / 2 ≡ i = omega arith in
        let q : (2 * i + 1) / 2 ≡ i = omega arith in
        ap₂ (λ (y z : ℕ). 16 * hex_value y + hex_value z)
        (get_d-tab (2 * k) (half_of b) (2 * i) 0 (omega arith) ∙ ap (λ (j : ℕ). half (get_or b j 0) (2 * i)) p
        ∙ high_half x i)
        (get_d-tab (2 * k) (half_of b) (2 * i + 1) 0 (omega arith) ∙ ap (λ (j : ℕ). half (get_or b j 0) (2 * i + 1)) q
        ∙ low_half x i)
        ∙ ap₂ (λ (y z : ℕ). 16 * y + z) (value-digit (x / 16) (omega (arith, h i))) (value-digit (x % 16) (omega arith))
        ∙ (omega arith)

half-hex : (x j : ℕ) → x < 256 → is_hex (half x j) ≡ true
unfolding half
half-hex x j h = chosen (eqb (j % 2) 0)
  where
    chosen : (t : Bool) → is_hex (hex_digit (pick t (x / 16) (x % 16))) ≡ true
    chosen true = hex-digit (x / 16) (omega arith)
    chosen false = hex-digit (x % 16) (omega arith)

list_all-tab : (p : ℕ → Bool) (k : ℕ) (f : ℕ → ℕ) → ((i : ℕ) → p (f i) ≡ true) → list_all p (tab k f) ≡ true
unfolding tab
list_all-tab p zero f h = refl
list_all-tab p (suc k) f h = rw (list_all-append p (tab k f) (f k ∷ []), list_all-tab p k f h, h k)

pub text-hex : (k : ℕ) (b : List ℕ) → Bytes b → all_hex (hex_text k b) ≡ true
unfolding all_hex hex_text
text-hex k b h = list_all-tab is_hex (2 * k) (half_of b) (λ i. half-hex (get_or b (i / 2) 0) i (h (i / 2)))

pub length-text : (k : ℕ) (b : List ℕ) → length (hex_text k b) ≡ 2 * k
unfolding hex_text
length-text k b = length-tab (2 * k) (half_of b)
