-- `view::report_from` meets its contract.
use Rattle.std.proofs.Common.{◌≡◌, ◌∙◌, ℕ, ◌/◌, ◌%◌, bit_and, arith}
use Rattle.std.proofs.lemmas.Nat.{and_mask}
use Rattle.octets.specs.Bytes.{be, num, part}
use Rattle.view.specs.Report.{report_of}
use Rattle.view.proofs.report_from.Goals as goal

-- the last count is in the low four bytes
low : (x : ℕ) → x % 65536 ≡ x % 72057594037927936 % 281474976710656 % 1099511627776 % 4294967296 % 65536
low x = omega arith

pair : (z : ℕ) → z % 65536 ≡ num (part (be 4 z) 2 2)
unfolding part
pair z = omega arith

mask : (x : ℕ) → bit_and x 65535 ≡ x % 65536
mask x = and_mask x 16

pub returns : goal.returns
unfolding report_of part
returns c =
    let x : ℕ = c.args.x in
    let a : x / 281474976710656 ≡ num (part (be 8 x) 0 2) = omega arith in
    let b : x / 4294967296 % 65536 ≡ num (part (be 8 x) 2 2) = omega arith in
    let d : x / 65536 % 65536 ≡ num (part (be 8 x) 4 2) = omega arith in
    let e : x % 65536 ≡ num (part (be 8 x) 6 2) = low x
    ∙ pair (x % 72057594037927936 % 281474976710656 % 1099511627776 % 4294967296) in
    let f = mask (x / 4294967296) in
    let g = mask (x / 65536) in
    let h = mask x in
    cc
