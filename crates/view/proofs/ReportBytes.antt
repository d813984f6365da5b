-- A report and its eight bytes give back each other.
use Prim.Native.Nat.{ℕ, zero, suc, ◌+◌, ◌*◌, ◌^◌, ◌<◌, ◌≤◌}
use mathlib.Core.Path.{◌≡◌, sym, ap, ap₂, ◌∙◌}
use mathlib.Core.Bool.{true}
use mathlib.Core.List.{List, [], ◌∷◌, ◌++◌}
use native.Mathlib.Decide.{ℕ_discrete}
use native.Mathlib.Omega.{arith}
use lib.Dec.{eqb}
use lib.ListN.{length, replicate, length-take}
use lib.Pow.{pow_mono}
use borrow.Author.Tests.{eq-eqb, ne_eqb, eqb-true}
use Rattle.octets.specs.Test.{both}
use Rattle.octets.specs.Bytes.{Bytes, num, be, part}
use Rattle.octets.proofs.Test.{both_left, both_right, not-true-false}
use Rattle.octets.proofs.Number.{num-lt, num-be-suc, be-num, be-bytes, num-zero}
use Rattle.octets.proofs.Put.{part-add, part-all, part_bytes, length_part}
use Rattle.view.specs.Size.{report_size}
use Rattle.view.specs.Report.{Counts, no_report, is_none, report_bytes, report_of, report_from, report_number}
use Rattle.view.specs.declared.Report.{Report}

pub report-back : (p : Report) → report_of (report_bytes p) ≡ p
unfolding report_of part
report-back p =
    simp (num-be-suc 1 p.extensions, num-be-suc 1 p.lines, num-be-suc 1 p.waiting, num-be-suc 1 p.wakeups)

-- a part is the bytes of its number
pub be-part : (b : List ℕ) (at len : ℕ) → Bytes b → at + len ≤ length b → be len (num (part b at len)) ≡ part b at len
be-part b at len h l =
    ap (λ (k : ℕ). be k (num (part b at len))) (sym (length_part b at len l)) ∙ be-num (part b at len)
    (part_bytes b at len h)

pub report-bytes-back : (b : List ℕ) → Bytes b → length b ≡ report_size → report_bytes (report_of b) ≡ b
unfolding report_of
report-bytes-back b h l =
    let q : (at : ℕ) → at + 2 ≤ report_size → be 2 (num (part b at 2)) ≡ part b at 2 = λ at m. be-part b at 2 h
    (omega arith) in
    ap₂ (λ (s t : List ℕ). s ++ t) (ap₂ (λ (s t : List ℕ). s ++ t) (ap₂ (λ (s t : List ℕ). s ++ t)
    (q 0 (omega arith)) (q 2 (omega arith))) (q 4 (omega arith))) (q 6 (omega arith))
    ∙ ap (λ (t : List ℕ). t ++ part b 4 2 ++ part b 6 2) (sym (part-add b 0 2 2))
    ∙ ap (λ (t : List ℕ). t ++ part b 6 2) (sym (part-add b 0 4 2)) ∙ sym (part-add b 0 6 2) ∙ part-all b report_size
    (omega arith)

-- eight zeros are no report
pub zero-report : (b : List ℕ) → Bytes b → length b ≡ report_size → num b ≡ 0 → report_of b ≡ no_report
unfolding report_of part
zero-report b h l e = ap report_of (num-zero b h e ∙ ap (λ (k : ℕ). replicate k 0) l)

-- the bytes of counts of sixteen bits are bytes
pub bytes-append : (a b : List ℕ) → Bytes a → Bytes b → Bytes (a ++ b)
bytes-append [] b h k i = k i
bytes-append (x ∷ a) b h k zero = h zero
bytes-append (x ∷ a) b h k (suc i) = bytes-append a b (λ j. h (suc j)) k i

pub report-bytes : (p : Report) → Counts p → Bytes (report_bytes p)
report-bytes p h =
    let a : List ℕ = be 2 p.extensions in
    let b : List ℕ = be 2 p.lines in
    let c : List ℕ = be 2 p.waiting in
    let d : List ℕ = be 2 p.wakeups in
    bytes-append (a ++ b ++ c) d
    (bytes-append (a ++ b) c
    (bytes-append a b (be-bytes 2 p.extensions h.extensions) (be-bytes 2 p.lines h.lines))
    (be-bytes 2 p.waiting h.waiting))
    (be-bytes 2 p.wakeups h.wakeups)

-- and the counts of a report that bytes are have sixteen bits
short : (b : List ℕ) (at : ℕ) → length (part b at 2) ≤ 2
unfolding part
short b at = simp length-take (omega arith)

pair_fits : (b : List ℕ) (at : ℕ) → Bytes b → num (part b at 2) < 2 ^ 16
pair_fits b at h =
    let l : num (part b at 2) < 2 ^ (8 * length (part b at 2)) = num-lt (part b at 2) (part_bytes b at 2 h) in
    let m : length (part b at 2) ≤ 2 = short b at in
    let p : 2 ^ (8 * length (part b at 2)) ≤ 2 ^ 16 = pow_mono {j = 16} (omega arith) in
    omega arith

pub counts_of : (b : List ℕ) → Bytes b → Counts (report_of b)
unfolding report_of
counts_of b h =
    record {
      extensions = pair_fits b 0 h;
      lines = pair_fits b 2 h;
      waiting = pair_fits b 4 h;
      wakeups = pair_fits b 6 h;
    }

-- eight bytes are the report of their number, and the bytes of a report are those of its number
pub from-number : (b : List ℕ) → Bytes b → length b ≡ report_size → report_from (num b) ≡ report_of b
from-number b h l = ap report_of (ap (λ (k : ℕ). be k (num b)) (sym l) ∙ be-num b h)

pub number-bytes : (p : Report) → Counts p → be report_size (report_number p) ≡ report_bytes p
number-bytes p h = be-num (report_bytes p) (report-bytes p h)

-- ---- no report

pub none_is : (p : Report) → is_none p ≡ true → p ≡ no_report
none_is p e =
    let a = eqb p.extensions 0 in
    let b = eqb p.lines 0 in
    let c = eqb p.waiting 0 in
    let d = eqb p.wakeups 0 in
    let r = both_right a (both b (both c d)) e in
    rw (
      eqb-true p.extensions 0 (both_left a (both b (both c d)) e),
      eqb-true p.lines 0 (both_left b (both c d) r),
      eqb-true p.waiting 0 (both_left c d (both_right b (both c d) r)),
      eqb-true p.wakeups 0 (both_right c d (both_right b (both c d) r)),
    )

-- no report is zero bytes
pub none-zero : (s : List ℕ) → Bytes s → length s ≡ report_size → is_none (report_of s) ≡ eqb (num s) 0
none-zero s h l = elim (ℕ_discrete (num s) 0) [
  | yes e ↦ ap is_none (zero-report s h l e) ∙ sym (eq-eqb (num s) 0 e)
  | no m ↦ not-true-false (is_none (report_of s))
      (λ e. m (ap num (sym (report-bytes-back s h l) ∙ ap report_bytes (none_is (report_of s) e))))
      ∙ sym (ne_eqb (num s) 0 m)
]
