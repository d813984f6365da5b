-- Fields in bytes: what a head that stands at a place tells of the bytes there.
use Prim.Native.Nat.{ℕ, ◌+◌, ◌≤◌}
use mathlib.Core.Path.{◌≡◌, refl, sym, ap, ap₂, ◌∙◌}
use mathlib.Core.Bool.{Bool, true, false}
use mathlib.Core.List.{List, [], ◌∷◌, ◌++◌}
use native.Mathlib.Nat.{add-zero}
use native.Mathlib.Omega.{arith}
use lib.ListN.{length, get_or, take}
use lib.Seq.{take-append_seam}
use lib.Dec.{eqb}
use Rattle.octets.specs.Test.{both}
use Rattle.octets.specs.Bytes.{Bytes, be, part, same}
use Rattle.octets.specs.Loop.{tab}
use Rattle.octets.specs.Word.{word}
use Rattle.octets.proofs.Test.{same_true, same_refl}
use Rattle.octets.proofs.Put.{part-add, length_part}
use Rattle.octets.proofs.Table.{part-tab}
use Rattle.view.proofs.ReportBytes.{be-part}
use Rattle.wire.specs.Layout.{field}
use Rattle.wire.specs.Codec.{begins}
use Rattle.wire.specs.Shape.{head_at}

and-true : (t : Bool) → both t true ≡ t
and-true true = refl
and-true false = refl

-- the three bytes of a field's head
pub head-is : (b : List ℕ) (at mark size : ℕ) → at + 3 ≤ length b
    → head_at b at mark size
    ≡ both (eqb (get_or b at 0) mark)
    (both (eqb (get_or b (at + 1) 0) (get_or (be 2 size) 0 0)) (eqb (get_or b (at + 2) 0) (get_or (be 2 size) 1 0)))
unfolding head_at tab
head-is b at mark size l =
    ap (λ (t : List ℕ). same t (mark ∷ be 2 size)) (part-tab b at 3 l)
    ∙ ap₂ (λ (k : ℕ) (t : Bool). both (eqb (get_or b k 0) mark)
    (both (eqb (get_or b (at + 1) 0) (get_or (be 2 size) 0 0)) t))
    (add-zero at) (and-true (eqb (get_or b (at + 2) 0) (get_or (be 2 size) 1 0)))

-- a head with the contents after it is the field
pub field-there : (b : List ℕ) (at mark size : ℕ) → head_at b at mark size ≡ true → at + 3 + size ≤ length b
    → part b at (3 + size) ≡ field mark (part b (at + 3) size)
unfolding head_at
field-there b at mark size h l =
    part-add b at 3 size
    ∙ ap (λ (t : List ℕ). t ++ part b (at + 3) size) (same_true (part b at 3) (mark ∷ be 2 size) h)
    ∙ ap (λ (k : ℕ). (mark ∷ be 2 k) ++ part b (at + 3) size) (sym (length_part b (at + 3) size l))

pub word-there : (b : List ℕ) (at mark : ℕ) → Bytes b → head_at b at mark 8 ≡ true → at + 11 ≤ length b
    → part b at 11 ≡ field mark (be 8 (word b (at + 3)))
word-there b at mark h e l =
    field-there b at mark 8 e (omega arith) ∙ ap (λ (t : List ℕ). field mark t)
    (sym (be-part b (at + 3) 8 h (omega arith)))

pub byte-there : (b : List ℕ) (at mark : ℕ) → head_at b at mark 1 ≡ true → at + 4 ≤ length b
    → part b at 4 ≡ field mark (get_or b (at + 3) 0 ∷ [])
unfolding tab
byte-there b at mark e l =
    field-there b at mark 1 e (omega arith)
    ∙ ap (λ (t : List ℕ). field mark t) (part-tab b (at + 3) 1 (omega arith)
    ∙ ap (λ (k : ℕ). get_or b k 0 ∷ []) (add-zero (at + 3)))

-- bytes that begin with e
pub begins-of : (b e : List ℕ) (k : ℕ) → length e ≡ k → part b 0 k ≡ e → begins b e ≡ true
unfolding begins part
begins-of b e k l p =
    ap (λ (t : List ℕ). same t e) (ap (λ (j : ℕ). take j b) l ∙ p) ∙ same_refl e

pub begins-front : (b e : List ℕ) → begins b e ≡ true → take (length e) b ≡ e
unfolding begins
begins-front b e h = same_true (take (length e) b) e h

pub begins-append : (e rest : List ℕ) → begins (e ++ rest) e ≡ true
unfolding begins
begins-append e rest = ap (λ (t : List ℕ). same t e) (take-append_seam e rest) ∙ same_refl e
