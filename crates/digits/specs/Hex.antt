-- Bytes as hexadecimal text: two ASCII digits for each byte, the high one first, letters small.
use Rattle.std.specs.Prelude.{ℕ, ◌+◌, ◌-◌, ◌*◌, ◌/◌, ◌%◌, Bool, true, List, get_or, leb, ltb, eqb}
use Rattle.octets.specs.Test.{pick, both}
use Rattle.std.specs.List.{list_all}
use Rattle.octets.specs.Loop.{tab}
use Rattle.digits.specs.Decimal.{is_digit}

-- a to f
abbrev pub is_letter : ℕ → Bool
is_letter x = both (leb 97 x) (leb x 102)

abbrev pub is_hex : ℕ → Bool
is_hex x = pick (is_digit x) true (is_letter x)

unfoldable pub all_hex : List ℕ → Bool
all_hex s = list_all is_hex s

-- what a digit says, and 0 where it is none
unfoldable pub hex_value : ℕ → ℕ
hex_value x = pick (is_digit x) (x - 48) (pick (is_letter x) (x - 87) 0)

-- the digit of a number below 16
unfoldable pub hex_digit : ℕ → ℕ
hex_digit v = pick (ltb v 10) (48 + v) (87 + v)

-- byte i of the bytes that a text says
abbrev pub byte_of : List ℕ → ℕ → ℕ
byte_of s i = 16 * hex_value (get_or s (2 * i) 0) + hex_value (get_or s (2 * i + 1) 0)

-- how many digits k bytes have
abbrev pub hex_size : ℕ → ℕ
hex_size k = 2 * k

-- k bytes, from 2 * k digits
unfoldable pub hex_bytes : ℕ → List ℕ → List ℕ
hex_bytes k s = tab k (byte_of s)

-- digit j of the text of bytes: the high or the low half of byte j / 2
unfoldable pub half : ℕ → ℕ → ℕ
half x j = hex_digit (pick (eqb (j % 2) 0) (x / 16) (x % 16))

abbrev pub half_of : List ℕ → ℕ → ℕ
half_of b j = half (get_or b (j / 2) 0) j

-- the 2 * k digits of k bytes
unfoldable pub hex_text : ℕ → List ℕ → List ℕ
hex_text k b = tab (hex_size k) (half_of b)
