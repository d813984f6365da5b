-- The lines of an input and the rest are the input, and what they are of two pieces, and of one byte more.
use Prim.Native.Nat.{ℕ}
use mathlib.Core.Path.{◌≡◌, refl, sym, ap, ◌∙◌}
use mathlib.Core.Bool.{Bool, true, false}
use mathlib.Core.List.{List, [], ◌∷◌, ◌++◌, append-nil, append_assoc}
use lib.Seq.{append_snoc}
use lib.Dec.{eqb}
use borrow.Author.Tests.{eqb-true}
use Rattle.octets.specs.Test.{pick}
use Rattle.input.specs.Input.{feed, lines_from, rest_from, lines_of, rest_of, joined}

-- ---- the lines and the rest are the input

lines-back-from : (l s : List ℕ) → joined (lines_from l s) ++ rest_from l s ≡ l ++ s
unfolding lines_from rest_from
lines-back-from l [] = sym (append-nil l)
lines-back-from l (x ∷ s) =
    cases (eqb x feed) refl (lines-back-from [] s) (lines-back-from (l ++ (x ∷ [])) s)
  where
    cases : (b : Bool) → eqb x feed ≡ b → joined (lines_from [] s) ++ rest_from [] s ≡ s
        → joined (lines_from (l ++ (x ∷ [])) s) ++ rest_from (l ++ (x ∷ [])) s ≡ l ++ (x ∷ []) ++ s
        → joined (pick b (l ∷ lines_from [] s) (lines_from (l ++ (x ∷ [])) s)) ++ pick b (rest_from [] s) (rest_from
        (l ++ (x ∷ [])) s)
        ≡ l ++ x ∷ s
    cases true e p q =
        append_assoc (l ++ (feed ∷ [])) (joined (lines_from [] s)) (rest_from [] s)
        ∙ ap (λ (t : List ℕ). l ++ (feed ∷ []) ++ t) p ∙ append_snoc l feed s
        ∙ ap (λ (y : ℕ). l ++ y ∷ s) (sym (eqb-true x feed e))
    cases false e p q = q ∙ append_snoc l x s

pub lines-back : (s : List ℕ) → joined (lines_of s) ++ rest_of s ≡ s
lines-back s = lines-back-from [] s

-- ---- of two pieces

pub lines-append : (l s t : List ℕ) → lines_from l (s ++ t) ≡ lines_from l s ++ lines_from (rest_from l s) t
unfolding lines_from rest_from
lines-append l [] t = refl
lines-append l (x ∷ s) t = cases (eqb x feed) (lines-append [] s t) (lines-append (l ++ (x ∷ [])) s t)
  where
    k : List ℕ
    k = l ++ (x ∷ [])

    cases : (b : Bool) → lines_from [] (s ++ t) ≡ lines_from [] s ++ lines_from (rest_from [] s) t
        → lines_from k (s ++ t) ≡ lines_from k s ++ lines_from (rest_from k s) t
        → pick b (l ∷ lines_from [] (s ++ t)) (lines_from k (s ++ t))
        ≡ pick b (l ∷ lines_from [] s) (lines_from k s) ++ lines_from (pick b (rest_from [] s) (rest_from k s)) t
    cases true p q = ap (λ (r : List (List ℕ)). l ∷ r) p
    cases false p q = q

pub rest-append : (l s t : List ℕ) → rest_from l (s ++ t) ≡ rest_from (rest_from l s) t
unfolding rest_from
rest-append l [] t = refl
rest-append l (x ∷ s) t = cases (eqb x feed) (rest-append [] s t) (rest-append (l ++ (x ∷ [])) s t)
  where
    k : List ℕ
    k = l ++ (x ∷ [])

    cases : (b : Bool) → rest_from [] (s ++ t) ≡ rest_from (rest_from [] s) t → rest_from k (s ++ t) ≡ rest_from
        (rest_from k s) t
        → pick b (rest_from [] (s ++ t)) (rest_from k (s ++ t)) ≡ rest_from (pick b (rest_from [] s) (rest_from k s)) t
    cases true p q = p
    cases false p q = q

-- ---- of one byte more, after the input t

pub lines-line : (t : List ℕ) → lines_of (t ++ (feed ∷ [])) ≡ lines_of t ++ (rest_of t ∷ [])
unfolding lines_from
lines-line t = lines-append [] t (feed ∷ [])

pub rest-line : (t : List ℕ) → rest_of (t ++ (feed ∷ [])) ≡ []
unfolding rest_from
rest-line t = rest-append [] t (feed ∷ [])

module _ (t : List ℕ) (x : ℕ) (other : eqb x feed ≡ false) where
  pub lines-byte : lines_of (t ++ (x ∷ [])) ≡ lines_of t
  unfolding lines_from
  lines-byte =
      lines-append [] t (x ∷ []) ∙ ap (λ (b : Bool). lines_of t ++ pick b (rest_of t ∷ []) []) other
      ∙ append-nil (lines_of t)

  pub rest-byte : rest_of (t ++ (x ∷ [])) ≡ rest_of t ++ (x ∷ [])
  unfolding rest_from
  rest-byte = rest-append [] t (x ∷ []) ∙ ap (λ (b : Bool). pick b [] (rest_of t ++ (x ∷ []))) other
