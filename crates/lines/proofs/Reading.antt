-- Every legal line is read as what it says.
use Prim.Native.Nat.{ℕ, zero, suc, ◌-◌, ◌≤◌, ◌<◌}
use mathlib.Core.Path.{◌≡◌, refl, sym, ap, ◌∙◌}
use mathlib.Core.Bool.{Bool, true, false}
use mathlib.Core.List.{List, [], ◌∷◌, ◌++◌, append-nil}
use native.Mathlib.Omega.{arith}
use lib.ListN.{length, take, drop, get_or}
use lib.Seq.{take-append_seam, drop-append_seam}
use lib.Dec.{leb, eqb}
use Rattle.std.proofs.lemmas.List.Sums.{AllPass-from_list_all}
use borrow.Author.Tests.{eq-eqb, ne_eqb, le-leb, leb-true}
use Rattle.std.specs.Prelude.{Some}
use Rattle.octets.specs.Test.{pick, both}
use Rattle.octets.proofs.Test.{both_left, both_right}
use Rattle.view.specs.Size.{report_size}
use Rattle.view.specs.Report.{report_of}
use Rattle.digits.specs.Decimal.{is_digit, all_digits, value}
use Rattle.digits.specs.Hex.{is_letter, is_hex, all_hex, hex_bytes, hex_size}
use Rattle.lines.specs.Grammar.{space, is_number, number_of, is_report, report_in, place_of, field_length, word}
use Rattle.lines.specs.Grammar.{after, cut_is, tail_of, event_of, first_of}
use Rattle.lines.specs.Legal.{field, Opens, opens, End, whole, cut, Legal, update, scan, deliver, stop}
use Rattle.outgoing.specs.declared.Extent.{Extent}
use Rattle.lines.specs.declared.Opening.{Opening}
use Rattle.lines.specs.declared.Command.{Command}

-- ---- words have no space

abbrev NoSpace : List ℕ → Type 0
NoSpace w = (i : ℕ) → i < length w → get_or w i 0 ≡ space → ⊥

digit-high : (x : ℕ) → is_digit x ≡ true → 48 ≤ x
digit-high x e = leb-true 48 x (both_left (leb 48 x) (leb x 57) e)

letter-high : (x : ℕ) → is_letter x ≡ true → 97 ≤ x
letter-high x e = leb-true 97 x (both_left (leb 97 x) (leb x 102) e)

hex-high : (x : ℕ) (t : Bool) → is_digit x ≡ t → pick t true (is_letter x) ≡ true → 48 ≤ x
hex-high x true d e = digit-high x d
hex-high x false d e = omega (arith, letter-high x e)

digits-no-space : (w : List ℕ) → all_digits w ≡ true → NoSpace w
unfolding all_digits
digits-no-space w e i l h =
    let d : 48 ≤ get_or w i 0 = digit-high (get_or w i 0) (AllPass-from_list_all is_digit w e i 0 l) in
    omega arith

hex-no-space : (w : List ℕ) → all_hex w ≡ true → NoSpace w
unfolding all_hex
hex-no-space w e i l h =
    let d : 48 ≤ get_or w i 0 =
    hex-high (get_or w i 0) (is_digit (get_or w i 0)) refl (AllPass-from_list_all is_hex w e i 0 l) in
    omega arith

number-no-space : (w : List ℕ) → is_number w ≡ true → NoSpace w
number-no-space w e = digits-no-space w (both_right (both (leb 1 (length w)) (leb (length w) 4)) (all_digits w) e)

report-no-space : (w : List ℕ) → is_report w ≡ true → NoSpace w
report-no-space w e = hex-no-space w (both_right (eqb (length w) (hex_size report_size)) (all_hex w) e)

-- ---- the first field, before the end or another field

abbrev Begins : List ℕ → Type 0
Begins u = get_or u 0 space ≡ space

word-ends : (w u : List ℕ) → NoSpace w → Begins u → place_of space (w ++ u) ≡ length w
word-ends [] [] h b = refl
word-ends [] (x ∷ u) h b = simp (eq-eqb x space b)
word-ends (x ∷ w) u h b =
    let n : eqb x space ≡ false = ne_eqb x space (h 0 (omega arith)) in
    rw (n, word-ends w u (λ i l. h (suc i) (omega arith)) b) (omega arith)

field-ends : (w u : List ℕ) → NoSpace w → Begins u → field_length (field w ++ u) ≡ suc (length w)
unfolding field_length
field-ends w u h b = ap suc (word-ends w u h b)

pub word_next : (w u : List ℕ) → NoSpace w → Begins u → word (field w ++ u) ≡ w
unfolding word
word_next w u h b =
    let e : field_length (field w ++ u) - 1 ≡ length w = rw (field-ends w u h b) (omega arith) in
    ap (λ (k : ℕ). take k (w ++ u)) e ∙ take-append_seam w u

pub after_next : (w u : List ℕ) → NoSpace w → Begins u → after (field w ++ u) ≡ u
unfolding after
after_next w u h b = ap (λ (k : ℕ). drop k (field w ++ u)) (field-ends w u h b) ∙ drop-append_seam w u

-- ---- legal words are read

number_read : (w : List ℕ) → is_number w ≡ true → number_of w ≡ Some (value w)
unfolding number_of
number_read w e = rw e

report-read : (w : List ℕ) → is_report w ≡ true → report_in w ≡ Some (report_of (hex_bytes report_size w))
unfolding report_in
report-read w e = rw e

-- a number's field, with what comes after it
number-next : (w u : List ℕ) → is_number w ≡ true → Begins u → number_of (word (field w ++ u)) ≡ Some (value w)
number-next w u e b = ap number_of (word_next w u (number-no-space w e) b) ∙ number_read w e

report-next : (w u : List ℕ) → is_report w ≡ true → Begins u
    → report_in (word (field w ++ u)) ≡ Some (report_of (hex_bytes report_size w))
report-next w u e b = ap report_in (word_next w u (report-no-space w e) b) ∙ report-read w e

number-after : (w u : List ℕ) → is_number w ≡ true → Begins u → after (field w ++ u) ≡ u
number-after w u e b = after_next w u (number-no-space w e) b

-- a number's field at the end of a line
last-read : (w : List ℕ) → is_number w ≡ true → number_of (word (field w)) ≡ Some (value w)
last-read w e = ap (λ (u : List ℕ). number_of (word u)) (sym (append-nil (field w))) ∙ number-next w [] e refl

last-after : (w : List ℕ) → is_number w ≡ true → after (field w) ≡ []
last-after w e = ap after (sym (append-nil (field w))) ∙ number-after w [] e refl

-- ---- legal ends and lines are read

end-begins : {t : List ℕ} {x : Extent} → End t x → Begins t
end-begins whole = refl
end-begins (cut m e) = refl

cut-no-space : NoSpace cut_is
cut-no-space zero l h = absurd (omega arith)
cut-no-space (suc zero) l h = absurd (omega arith)
cut-no-space (suc (suc zero)) l h = absurd (omega arith)
cut-no-space (suc (suc (suc i))) l h = absurd (omega arith)

end_read : {t : List ℕ} {x : Extent} → End t x → tail_of t ≡ Some x
unfolding tail_of
end_read whole = refl
end_read (cut m e) =
    let t : List ℕ = field cut_is ++ field m in
    let w : word t ≡ cut_is = word_next cut_is (field m) cut-no-space refl in
    let a : after t ≡ field m = after_next cut_is (field m) cut-no-space refl in
    let z : eqb (length t) 0 ≡ false = ne_eqb (length t) 0 (λ q. omega arith) in
    simp (z, w, a, last-read m e, last-after m e)

pub legal-read : {s : List ℕ} {l : Command} → Legal s l → event_of s ≡ Some l
unfolding event_of
legal-read (update c h {t} e f g) =
    let u : List ℕ = field h ++ t in
    let a : after (field c ++ u) ≡ u = number-after c u e refl in
    let b : after u ≡ t = after_next h t (report-no-space h f) (end-begins g) in
    simp (number-next c u e refl, a, report-next h t f (end-begins g), b, end_read g)
legal-read (scan c {t} e g) = simp (number-next c t e (end-begins g), number-after c t e (end-begins g), end_read g)
legal-read (deliver c h {t} e f g) =
    let u : List ℕ = field h ++ t in
    simp (
      number-next c u e refl,
      number-after c u e refl,
      number-next h t f (end-begins g),
      number-after h t f (end-begins g),
      end_read g,
    )
legal-read (stop c e) = simp (last-read c e, last-after c e)

pub opening-read : {s : List ℕ} {o : Opening} → Opens s o → first_of s ≡ Some o
unfolding first_of
opening-read (opens n f a b h t) =
    let u : List ℕ = field f in
    simp (
      word-ends n u (number-no-space n a) refl,
      take-append_seam n u,
      drop-append_seam n u,
      number_read n a,
      last-read f b,
      last-after f b,
      le-leb (value n) 5 h,
      t,
    )
