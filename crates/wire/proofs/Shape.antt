-- The reader's tests find just the bytes that begin with an allowed message.
use Prim.Native.Nat.{ℕ, zero, suc, ◌+◌, ◌≤◌}
use mathlib.Core.Path.{◌≡◌, refl, sym, ap, ap₂, ◌∙◌, subst}
use mathlib.Core.Bool.{Bool, true, false}
use mathlib.Core.List.{List, [], ◌∷◌, ◌++◌}
use native.Mathlib.Omega.{arith}
use lib.ListN.{length, get_or, drop, length-append, take-append-drop}
use lib.Dec.{leb, T}
use borrow.Author.Tests.{le-leb, leb-true, ne_eqb}
use Rattle.octets.specs.Test.{both}
use Rattle.octets.specs.Bytes.{Bytes, be, part, same}
use Rattle.octets.specs.Word.{word}
use Rattle.octets.proofs.Test.{both_left, both_right, both_true, true-false, same_refl}
use Rattle.octets.proofs.Put.{part-add, length_part, part_bytes}
use Rattle.view.specs.Size.{view_size, report_size}
use Rattle.view.specs.Report.{report_bytes, report_of}
use Rattle.view.proofs.ReportBytes.{report-bytes-back}
use Rattle.wire.specs.Layout.{field, kind, encode, allowed, head_size, number_size, first_head, first_at, second_head}
use Rattle.wire.specs.Layout.{second_at, third_head, third_at, good_head}
use Rattle.wire.specs.Codec.{said_as, said, view_at, begins}
use Rattle.wire.specs.Shape.{head_at, two_heads, value_heads, good_heads, two_shape, shape_as, shape}
use Rattle.wire.specs.declared.Message.{Message}
use Rattle.wire.specs.declared.Message.TheVariants.{Read, ReadAnswer, Write, WriteAnswer, Echo, Value, Good}
use Rattle.wire.proofs.Numbers.{view-length}
use Rattle.wire.proofs.Fields.{field-there, word-there, byte-there, begins-of, begins-front}

-- ---- an allowed message's bytes have its shape, whatever stands after them

long : (m : Message) (v rest : List ℕ) → first_at + number_size ≤ length (encode m v ++ rest)
unfolding encode
long (Read r) v rest = omega arith
long (ReadAnswer r t) v rest = omega arith
long (Write r t) v rest = omega arith
long (WriteAnswer r t) v rest = omega arith
long (Echo t) v rest = omega arith
long (Value t w p) v rest = omega arith
long (Good t) v rest = omega arith

-- at its kind
heads : (n : ℕ) (m : Message) (v rest : List ℕ) → allowed n m v ≡ true
    → both (head_at (encode m v ++ rest) 0 1 1) (shape_as (get_or (encode m v ++ rest) 3 0) n (encode m v ++ rest)) ≡
    true
unfolding encode head_at part shape_as two_heads value_heads good_heads
heads n (Read r) v rest h = refl
heads n (ReadAnswer r t) v rest h = both_true (le-leb (second_at + number_size)
    (length (encode (ReadAnswer r t) v ++ rest))
    (omega arith)) refl
heads n (Write r t) v rest h = both_true (le-leb (second_at + number_size) (length (encode (Write r t) v ++ rest))
    (omega arith)) refl
heads n (WriteAnswer r t) v rest h = both_true (le-leb (second_at + number_size)
    (length (encode (WriteAnswer r t) v ++ rest))
    (omega arith)) refl
heads n (Echo t) v rest h = refl
heads n (Value t w p) v rest h = both_true (le-leb (third_at + report_size) (length (encode (Value t w p) v ++ rest))
    (omega arith)) refl
heads n (Good t) v rest h =
    let e : length v ≡ view_size n = view-length n t v h in
    let f : length (v ++ rest) ≡ length v + length rest = length-append v rest in
    both_true (le-leb (good_head + view_size n) (length (encode (Good t) v ++ rest)) (omega arith))
    (ap (λ (k : ℕ). same (6 ∷ be 2 k) (6 ∷ be 2 (view_size n))) e ∙ same_refl (6 ∷ be 2 (view_size n)))

pub shape-written : (n : ℕ) (m : Message) (v rest : List ℕ) → allowed n m v ≡ true → shape n (encode m v ++ rest)
    ≡ true
unfolding shape
shape-written n m v rest h =
    both_true (le-leb (first_at + number_size) (length (encode m v ++ rest)) (long m v rest)) (heads n m v rest h)

-- ---- bytes of the shape begin with the message that they say

module _ (n : ℕ) (b : List ℕ) (bytes : Bytes b) (l : first_at + number_size ≤ length b) (h : head_at b 0 1 1 ≡ true)
  where
    one : (k mark : ℕ) → get_or b 3 0 ≡ k → head_at b first_head mark number_size ≡ true
        → part b 0 (first_at + number_size)
        ≡ kind k ++ field mark
        (be number_size (word b first_at))
    one k mark e f =
        part-add b 0 first_head (head_size + number_size)
        ∙ ap₂ (λ (s t : List ℕ). s ++ t) (byte-there b 0 1 h (omega arith) ∙ ap (λ (x : ℕ). kind x) e)
        (word-there b first_head mark bytes f (omega arith))

    two : (k : ℕ) → get_or b 3 0 ≡ k → two_shape b ≡ true
        → part b 0 (second_at + number_size) ≡ kind k ++ field 2 (be number_size (word b first_at)) ++ field 3
        (be number_size (word b second_at))
    unfolding two_heads
    two k e s =
        let m : second_at + number_size ≤ length b = leb-true (second_at + number_size) (length b)
        (both_left (leb (second_at + number_size) (length b)) (two_heads b) s) in
        let t : two_heads b ≡ true = both_right (leb (second_at + number_size) (length b)) (two_heads b) s in
        part-add b 0 second_head (head_size + number_size)
        ∙ ap₂ (λ (s t : List ℕ). s ++ t) (one k 2 e (both_left (head_at b first_head 2 number_size)
        (head_at b second_head 3 number_size) t))
        (word-there b second_head 3 bytes (both_right (head_at b first_head 2 number_size)
        (head_at b second_head 3 number_size)
        t) (omega arith))

    value : (k : ℕ) → get_or b 3 0 ≡ k → both (leb (third_at + report_size) (length b)) (value_heads b) ≡ true
        → part b 0 (third_at + report_size)
        ≡ kind k ++ field 3 (be number_size (word b first_at)) ++ field 4 (get_or b second_at 0 ∷ []) ++ field 5
        (report_bytes (report_of (part b third_at report_size)))
    unfolding value_heads
    value k e s =
        let m : third_at + report_size ≤ length b = leb-true (third_at + report_size) (length b)
        (both_left (leb (third_at + report_size) (length b)) (value_heads b) s) in
        let t : value_heads b ≡ true = both_right (leb (third_at + report_size) (length b)) (value_heads b) s in
        let t₁ = both_left (head_at b first_head 3 number_size) (both (head_at b second_head 4 1)
        (head_at b third_head 5 report_size)) t in
        let u = both_right (head_at b first_head 3 number_size) (both (head_at b second_head 4 1)
        (head_at b third_head 5 report_size)) t in
        let t₂ = both_left (head_at b second_head 4 1) (head_at b third_head 5 report_size) u in
        let t₃ = both_right (head_at b second_head 4 1) (head_at b third_head 5 report_size) u in
        part-add b 0 third_head (head_size + report_size)
        ∙ ap₂ (λ (s t : List ℕ). s ++ t)
        (part-add b 0 second_head (head_size + 1) ∙ ap₂ (λ (s t : List ℕ). s ++ t) (one k 3 e t₁)
        (byte-there b second_head 4 t₂ (omega arith)))
        (field-there b third_head 5 report_size t₃ (omega arith) ∙ ap (λ (t : List ℕ). field 5 t)
        (sym (report-bytes-back (part b third_at report_size) (part_bytes b third_at report_size bytes)
        (length_part b third_at report_size (omega arith)))))

    good : (k : ℕ) → get_or b 3 0 ≡ k → both (leb (good_head + view_size n) (length b)) (good_heads n b) ≡ true
        → part b 0 (good_head + view_size n) ≡ kind k ++ field 3 (be number_size (word b first_at)) ++ field 6
        (view_at n b)
    unfolding good_heads
    good k e s =
        let m : good_head + view_size n ≤ length b = leb-true (good_head + view_size n) (length b)
        (both_left (leb (good_head + view_size n) (length b)) (good_heads n b) s) in
        let t : good_heads n b ≡ true = both_right (leb (good_head + view_size n) (length b)) (good_heads n b) s in
        let q : good_head + view_size n ≡ second_head + (head_size + view_size n) = omega arith in
        ap (λ (j : ℕ). part b 0 j) q ∙ part-add b 0 second_head (head_size + view_size n)
        ∙ ap₂ (λ (s t : List ℕ). s ++ t) (one k 3 e (both_left (head_at b first_head 3 number_size)
        (head_at b second_head 6 (view_size n)) t))
        (field-there b second_head 6 (view_size n) (both_right (head_at b first_head 3 number_size)
        (head_at b second_head 6 (view_size n)) t) (omega arith))

    good_length : both (leb (good_head + view_size n) (length b)) (good_heads n b) ≡ true → length (view_at n b) ≡
        view_size n
    good_length s =
        let m : good_head + view_size n ≤ length b = leb-true (good_head + view_size n) (length b)
        (both_left (leb (good_head + view_size n) (length b)) (good_heads n b) s) in
        length_part b good_head (view_size n) m

    no-shape : (k : ℕ) → 8 ≤ k → shape_as k n b ≡ false
    unfolding shape_as
    no-shape k l =
        simp (
          ne_eqb k 1 (λ e. omega arith),
          ne_eqb k 2 (λ e. omega arith),
          ne_eqb k 3 (λ e. omega arith),
          ne_eqb k 4 (λ e. omega arith),
          ne_eqb k 5 (λ e. omega arith),
          ne_eqb k 6 (λ e. omega arith),
          ne_eqb k 7 (λ e. omega arith),
        )

    begins-as : (k : ℕ) → get_or b 3 0 ≡ k → shape_as k n b ≡ true
        → begins b (encode (said_as k b) (view_at n b)) ≡ true
    unfolding shape_as encode
    begins-as zero e s = absurd (subst T (sym s) tt)
    begins-as (suc zero) e s = begins-of b (encode (Read (word b first_at)) (view_at n b)) (first_at + number_size) refl
        (one 1 2 e s)
    begins-as (suc (suc zero)) e s =
        begins-of b (encode (ReadAnswer (word b first_at) (word b second_at)) (view_at n b)) (second_at + number_size)
        refl
        (two 2 e s)
    begins-as (suc (suc (suc zero))) e s =
        begins-of b (encode (Write (word b first_at) (word b second_at)) (view_at n b)) (second_at + number_size)
        refl
        (two 3 e s)
    begins-as (suc (suc (suc (suc zero)))) e s =
        begins-of b (encode (WriteAnswer (word b first_at) (word b second_at)) (view_at n b)) (second_at + number_size)
        refl
        (two 4 e s)
    begins-as (suc (suc (suc (suc (suc zero))))) e s = begins-of b (encode (Echo (word b first_at)) (view_at n b))
        (first_at + number_size) refl
        (one 5 3 e s)
    begins-as (suc (suc (suc (suc (suc (suc zero)))))) e s =
        begins-of b (encode (Value (word b first_at) (get_or b second_at 0) (report_of (part b third_at report_size)))
        (view_at n b)) (third_at + report_size) refl
        (value 6 e s)
    begins-as (suc (suc (suc (suc (suc (suc (suc zero))))))) e s =
        let f : length (view_at n b) ≡ view_size n = good_length s in
        begins-of b (encode (Good (word b first_at)) (view_at n b)) (good_head + view_size n) (omega arith) (good 7 e s)
    begins-as (suc (suc (suc (suc (suc (suc (suc (suc k)))))))) e s =
        true-false (shape_as (suc (suc (suc (suc (suc (suc (suc (suc k)))))))) n b) s
        (no-shape (suc (suc (suc (suc (suc (suc (suc (suc k)))))))) (omega arith))

pub shape-begins : (n : ℕ) (b : List ℕ) → Bytes b → shape n b ≡ true → begins b (encode (said b) (view_at n b)) ≡ true
unfolding shape said
shape-begins n b bytes s =
    let l : first_at + number_size ≤ length b = leb-true (first_at + number_size) (length b)
    (both_left (leb (first_at + number_size) (length b))
    (both (head_at b 0 1 1) (shape_as (get_or b 3 0) n b)) s) in
    let t : both (head_at b 0 1 1) (shape_as (get_or b 3 0) n b) ≡ true =
    both_right (leb (first_at + number_size) (length b)) (both (head_at b 0 1 1) (shape_as (get_or b 3 0) n b)) s in
    begins-as n b bytes l (both_left (head_at b 0 1 1) (shape_as (get_or b 3 0) n b) t) (get_or b 3 0) refl
    (both_right (head_at b 0 1 1) (shape_as (get_or b 3 0) n b) t)

-- ---- so the two tests agree for allowed messages

both-eq : (x y a : Bool) → (a ≡ true → x ≡ true → y ≡ true) → (y ≡ true → x ≡ true) → both x a ≡ both y a
both-eq true true a f g = refl
both-eq false false a f g = refl
both-eq true false true f g = sym (f refl refl)
both-eq true false false f g = refl
both-eq false true a f g = true-false false (g refl) refl

pub shape_is : (n : ℕ) (b : List ℕ) → Bytes b
    → both (begins b (encode (said b) (view_at n b))) (allowed n (said b) (view_at n b))
    ≡ both (shape n b) (allowed n (said b) (view_at n b))
shape_is n b bytes =
    both-eq (begins b e) (shape n b) (allowed n (said b) (view_at n b)) there (shape-begins n b bytes)
  where
    e : List ℕ
    e = encode (said b) (view_at n b)

    there : allowed n (said b) (view_at n b) ≡ true → begins b e ≡ true → shape n b ≡ true
    there a f =
        ap (λ (t : List ℕ). shape n t)
        (sym (ap (λ (t : List ℕ). t ++ drop (length e) b) (sym (begins-front b e f)) ∙ take-append-drop (length e) b))
        ∙ shape-written n (said b) (view_at n b) (drop (length e) b) a
