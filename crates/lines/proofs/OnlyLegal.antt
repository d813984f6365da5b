-- A line that is not bad is legal, and says what is read. So a line longer than any legal one is bad.
use Prim.Native.Nat.{ℕ, suc, ◌-◌, ◌≤◌}
use mathlib.Core.Path.{◌≡◌, refl, sym, ap, ap₂, subst, ◌∙◌}
use mathlib.Core.Bool.{Bool, true, false}
use mathlib.Core.List.{List, [], ◌∷◌, ◌++◌, append-nil}
use native.Mathlib.Omega.{arith}
use lib.ListN.{length, take, drop, length-append, take-append-drop}
use lib.Dec.{leb, eqb}
use borrow.Author.Tests.{eqb-true, leb-true}
use Rattle.std.specs.Prelude.{Option, Some, None}
use Rattle.view.specs.declared.Report.{Report}
use Rattle.octets.specs.Test.{pick, both}
use Rattle.std.specs.Str.{bytes_eq}
use Rattle.std.proofs.lemmas.Slice.Eq.{bytes_eq-Decides}
use Rattle.octets.proofs.Test.{both_left, both_right}
use Rattle.view.specs.Size.{report_size}
use Rattle.view.specs.Report.{report_of}
use Rattle.table.specs.Quorum.{tolerates}
use Rattle.table.proofs.Sets.{tolerates-half}
use Rattle.digits.specs.Decimal.{all_digits, value}
use Rattle.digits.specs.Hex.{all_hex, hex_bytes, hex_size}
use Rattle.lines.specs.Grammar.{space, is_number, number_of, is_report, report_in, place_of, field_length, word}
use Rattle.lines.specs.Grammar.{after, cut_is, cut_by, tail_of, update_by, scan_by, deliver_by, stop_by, event_of}
use Rattle.lines.specs.Grammar.{opening_by, first_by, first_of}
use Rattle.lines.specs.Legal.{field, Opens, opens, End, whole, cut, Legal, update, scan, deliver, stop}
use Rattle.outgoing.specs.declared.Extent.{Extent}
use Rattle.outgoing.specs.declared.Extent.TheVariants.{Whole, Cut}
use Rattle.lines.specs.declared.Opening.{Opening}
use Rattle.lines.specs.declared.Command.{Command}

-- ---- what a word, a field and an end that were read have been

data NumberView (w : List ℕ) : Option ℕ → Type 0 where
  number : is_number w ≡ true → NumberView w (Some (value w))
  none : NumberView w None

number-view : (w : List ℕ) → NumberView w (number_of w)
unfolding number_of
number-view w = cases (is_number w) refl
  where
    cases : (t : Bool) → is_number w ≡ t → NumberView w (pick t (Some (value w)) None)
    cases true e = number e
    cases false e = none

data ReportView (w : List ℕ) : Option Report → Type 0 where
  report : is_report w ≡ true → ReportView w (Some (report_of (hex_bytes report_size w)))
  none : ReportView w None

report-view : (w : List ℕ) → ReportView w (report_in w)
unfolding report_in
report-view w = cases (is_report w) refl
  where
    cases : (t : Bool) → is_report w ≡ t → ReportView w (pick t (Some (report_of (hex_bytes report_size w))) None)
    cases true e = report e
    cases false e = none

number-some : (w : List ℕ) → is_number w ≡ true → 1 ≤ length w
number-some w e =
    leb-true 1 (length w) (both_left (leb 1 (length w)) (leb (length w) 4) (both_left (both (leb 1 (length w)) (leb
    (length w) 4)) (all_digits w) e))

number-most : (w : List ℕ) → is_number w ≡ true → length w ≤ 4
number-most w e =
    leb-true (length w) 4 (both_right (leb 1 (length w)) (leb (length w) 4) (both_left (both (leb 1 (length w)) (leb
    (length w) 4)) (all_digits w) e))

report-length : (w : List ℕ) → is_report w ≡ true → length w ≡ hex_size report_size
report-length w e =
    eqb-true (length w) (hex_size report_size) (both_left (eqb (length w) (hex_size report_size)) (all_hex w) e)

empty : (t : List ℕ) → eqb (length t) 0 ≡ true → t ≡ []
empty [] e = refl
empty (x ∷ t) e = absurd (omega (arith, eqb-true (length (x ∷ t)) 0 e))

-- a field whose word is not empty, and what comes after it
field-split : (t : List ℕ) → 1 ≤ length (word t) → t ≡ field (word t) ++ after t
unfolding word after field_length
field-split [] h = absurd (omega arith)
field-split (x ∷ s) h = cases (eqb x space) refl h
  where
    cases : (b : Bool) → eqb x space ≡ b → 1 ≤ length (take (pick b (suc (place_of space s)) 0 - 1) s)
        → x ∷ s ≡ field (take (pick b (suc (place_of space s)) 0 - 1) s) ++ drop (pick b (suc (place_of space s)) 0)
        (x ∷ s)
    cases true e l =
        let k : ℕ = place_of space s in
        let q : suc k - 1 ≡ k = omega arith in
        rw (q, eqb-true x space e) (ap (λ (r : List ℕ). space ∷ r) (sym (take-append-drop k s)))
    cases false e l = absurd (omega arith)

number-field : (t : List ℕ) → is_number (word t) ≡ true → t ≡ field (word t) ++ after t
number-field t e = field-split t (number-some (word t) e)

-- the same at the end of a line
last-field : (t : List ℕ) → is_number (word t) ≡ true → eqb (length (after t)) 0 ≡ true → t ≡ field (word t)
last-field t e q =
    number-field t e ∙ ap (λ (r : List ℕ). field (word t) ++ r) (empty (after t) q) ∙ append-nil (field (word t))

data EndView (t : List ℕ) : Option Extent → Type 0 where
  end : {x : Extent} → End t x → EndView t (Some x)
  none : EndView t None

cut-end : (t : List ℕ) → word t ≡ cut_is → is_number (word (after t)) ≡ true → eqb (length (after (after t))) 0 ≡ true
    → t ≡ field cut_is ++ field (word (after t))
cut-end t w e q =
    let h : 1 ≤ length (word t) = rw w (omega arith) in
    field-split t h ∙ ap₂ (λ (r s : List ℕ). field r ++ s) w (last-field (after t) e q)

cut-view : (t : List ℕ) (b : Bool) {m : Option ℕ} (e : Bool) → bytes_eq (word t) cut_is ≡ b
    → NumberView (word (after t)) m → eqb (length (after (after t))) 0 ≡ e → EndView t (cut_by b m e)
cut-view t b e p none q = none
cut-view t true true p (number n) q =
    end (subst (λ (s : List ℕ). End s (Cut (value (word (after t)))))
    (sym (cut-end t ((bytes_eq-Decides (word t) cut_is).0 p) n q)) (cut (word (after t)) n))
cut-view t true false p (number n) q = none
cut-view t false e p (number n) q = none

end-view : (t : List ℕ) → EndView t (tail_of t)
unfolding tail_of
end-view t = cases (eqb (length t) 0) refl
  where
    rest : Option Extent
    rest = cut_by (bytes_eq (word t) cut_is) (number_of (word (after t))) (eqb (length (after (after t))) 0)

    cases : (b : Bool) → eqb (length t) 0 ≡ b → EndView t (pick b (Some Whole) rest)
    cases true e = rw (empty t e) (end whole)
    cases false e = cut-view t (bytes_eq (word t) cut_is) (eqb (length (after (after t))) 0) refl (number-view (word
        (after t))) refl

-- ---- events

pub data LegalOrBad (s : List ℕ) : Option Command → Type 0 where
  legal : {l : Command} → Legal s l → LegalOrBad s (Some l)
  bad : LegalOrBad s None

legal-as : {s r : List ℕ} {l : Command} → s ≡ r → Legal r l → LegalOrBad s (Some l)
legal-as {l = l} e h = legal (subst (λ (b : List ℕ). Legal b l) (sym e) h)

update-view : (t : List ℕ) {c : Option ℕ} {p : Option Report} {x : Option Extent} → NumberView (word t) c
    → ReportView (word (after t)) p → EndView (after (after t)) x → LegalOrBad (117 ∷ t) (update_by c p x)
update-view t none p x = bad
update-view t (number c) none x = bad
update-view t (number c) (report p) none = bad
update-view t (number c) (report p) (end x) =
    let h : 1 ≤ length (word (after t)) = omega (arith, report-length (word (after t)) p) in
    legal-as (ap (λ (r : List ℕ). 117 ∷ r) (number-field t c
    ∙ ap (λ (r : List ℕ). field (word t) ++ r) (field-split (after t) h)))
    (update (word t) (word (after t)) c p x)

scan-view : (t : List ℕ) {c : Option ℕ} {x : Option Extent} → NumberView (word t) c → EndView (after t) x
    → LegalOrBad (115 ∷ t) (scan_by c x)
scan-view t none x = bad
scan-view t (number c) none = bad
scan-view t (number c) (end x) = legal-as (ap (λ (r : List ℕ). 115 ∷ r) (number-field t c)) (scan (word t) c x)

deliver-view : (t : List ℕ) {a b : Option ℕ} {x : Option Extent} → NumberView (word t) a → NumberView (word (after t)) b
    → EndView (after (after t)) x → LegalOrBad (100 ∷ t) (deliver_by a b x)
deliver-view t none b x = bad
deliver-view t (number a) none x = bad
deliver-view t (number a) (number b) none = bad
deliver-view t (number a) (number b) (end x) =
    legal-as (ap (λ (r : List ℕ). 100 ∷ r) (number-field t a
    ∙ ap (λ (r : List ℕ). field (word t) ++ r) (number-field (after t) b)))
    (deliver (word t) (word (after t)) a b x)

stop-view : (t : List ℕ) {c : Option ℕ} (e : Bool) → NumberView (word t) c → eqb (length (after t)) 0 ≡ e
    → LegalOrBad (120 ∷ t) (stop_by c e)
stop-view t e none q = bad
stop-view t true (number c) q = legal-as (ap (λ (r : List ℕ). 120 ∷ r) (last-field t c q)) (stop (word t) c)
stop-view t false (number c) q = bad

-- by the letter
lettered : (x k : ℕ) (t : List ℕ) (b : Bool) {l m : Option Command} → eqb x k ≡ b → LegalOrBad (k ∷ t) l
    → LegalOrBad (x ∷ t) m → LegalOrBad (x ∷ t) (pick b l m)
lettered x k t true {l} e p q = subst (λ (y : ℕ). LegalOrBad (y ∷ t) l) (sym (eqb-true x k e)) p
lettered x k t false e p q = q

pub legal-or-bad : (s : List ℕ) → LegalOrBad s (event_of s)
unfolding event_of
legal-or-bad [] = bad
legal-or-bad (x ∷ t) =
    let c : NumberView (word t) (number_of (word t)) = number-view (word t) in
    let last : EndView (after (after t)) (tail_of (after (after t))) = end-view (after (after t)) in
    lettered x 117 t (eqb x 117) refl (update-view t c (report-view (word (after t))) last)
    (lettered x 115 t (eqb x 115) refl (scan-view t c (end-view (after t)))
    (lettered x 100 t (eqb x 100) refl (deliver-view t c (number-view (word (after t))) last)
    (lettered x 120 t (eqb x 120) refl (stop-view t (eqb (length (after t)) 0) c refl)
    (bad))))

-- ---- the first line

pub data OpensOrBad (s : List ℕ) : Option Opening → Type 0 where
  opened : {o : Opening} → Opens s o → OpensOrBad s (Some o)
  bad : OpensOrBad s None

-- the word w, and t after it
opening-view : (w t : List ℕ) {a b : Option ℕ} (e : Bool) → NumberView w a → NumberView (word t) b
    → eqb (length (after t)) 0 ≡ e → OpensOrBad (w ++ t) (opening_by a b e)
opening-view w t e none b q = bad
opening-view w t e (number a) none q = bad
opening-view w t false (number a) (number b) q = bad
opening-view w t true (number a) (number b) q = cases (leb n 5) (tolerates n f) refl refl
  where
    n : ℕ
    n = value w

    f : ℕ
    f = value (word t)

    cases : (x y : Bool) → leb n 5 ≡ x → tolerates n f ≡ y
        → OpensOrBad (w ++ t) (pick (both x y) (Some (record { nodes = n; faults = f })) None)
    cases true true h k =
        opened (subst (λ (r : List ℕ). Opens (w ++ r) (record { nodes = n; faults = f })) (sym (last-field t b q))
        (opens w (word t) a b (leb-true n 5 h) k))
    cases true false h k = bad
    cases false y h k = bad

pub opens-or-bad : (s : List ℕ) → OpensOrBad s (first_of s)
unfolding first_of
opens-or-bad s =
    let w : List ℕ = take (place_of space s) s in
    let t : List ℕ = drop (place_of space s) s in
    subst (λ (r : List ℕ). OpensOrBad r (first_by w t)) (take-append-drop (place_of space s) s)
    (opening-view w t (eqb (length (after t)) 0) (number-view w) (number-view (word t)) refl)

-- a first line that is not bad is legal, and says n from 1 to 5 and an f that n nodes tolerate
pub opens-only : (s : List ℕ) (o : Opening) → first_of s ≡ Some o → Opens s o
opens-only s o e = only (opens-or-bad s) e
  where
    only : {k : Option Opening} → OpensOrBad s k → k ≡ Some o → Opens s o
    only (opened {o = p} h) q = let same : p ≡ o = cc in subst (λ (k : Opening). Opens s k) same h
    only bad q = cc

pub opens-within : {s : List ℕ} {o : Opening} → Opens s o
    → (1 ≤ o.nodes) × (o.nodes ≤ 5) × (tolerates o.nodes o.faults ≡ true)
opens-within (opens n f a b h t) = (omega (arith, tolerates-half (value n) (value f) t), h, t)

-- ---- lengths

end_short : {t : List ℕ} {x : Extent} → End t x → length t ≤ 9
end_short whole = omega arith
end_short (cut m e) = omega (arith, number-most m e)

-- the longest legal line has 32 bytes, without its line feed
pub legal-short : {s : List ℕ} {l : Command} → Legal s l → length s ≤ 32
legal-short (update c h {t} e f g) =
    simp length-append (omega (arith, number-most c e, report-length h f, end_short g))
legal-short (scan c {t} e g) = simp length-append (omega (arith, number-most c e, end_short g))
legal-short (deliver a b {t} e f g) =
    simp length-append (omega (arith, number-most a e, number-most b f, end_short g))
legal-short (stop c e) = omega (arith, number-most c e)

pub long-bad : (s : List ℕ) → 33 ≤ length s → event_of s ≡ None
long-bad s h = only (legal-or-bad s)
  where
    only : {k : Option Command} → LegalOrBad s k → k ≡ None
    only (legal l) = absurd (omega (arith, legal-short l))
    only bad = refl

-- a first line has at most nine bytes
pub opening-short : {s : List ℕ} {o : Opening} → Opens s o → length s ≤ 9
opening-short (opens n f a b h t) = simp length-append (omega (arith, number-most n a, number-most f b))

pub long-no-opening : (s : List ℕ) → 10 ≤ length s → first_of s ≡ None
long-no-opening s h = only (opens-or-bad s)
  where
    only : {k : Option Opening} → OpensOrBad s k → k ≡ None
    only (opened o) = absurd (omega (arith, opening-short o))
    only bad = refl
