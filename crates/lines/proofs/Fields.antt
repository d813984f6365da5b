-- Where words end.
use Prim.Native.Nat.{ℕ, ◌+◌, ◌-◌, ◌≤◌}
use mathlib.Core.Path.{◌≡◌, refl, ap, ◌∙◌}
use mathlib.Core.List.{List, [], ◌∷◌}
use native.Mathlib.Omega.{arith}
use lib.ListN.{length, take, drop, get_or, length-drop}
use lib.Seq.{take_all}
use lib.Dec.{eqb}
use native.Mathlib.Nat.{lt_of_not-le}
use native.Mathlib.Decide.{dec_le}
use Rattle.std.specs.Prelude.{not}
use borrow.Author.Tests.{eq-eqb, ne_eqb, lt-ltb, le-ltb}
use Rattle.std.specs.Option.{unwrap_or}
use Rattle.std.specs.Prelude.{Option}
use Rattle.std.specs.List.{position}
use Rattle.std.proofs.lemmas.List.Sums.{prefix_len-le-length}
use Rattle.lines.specs.Grammar.{space, place_of, field_length}

-- ---- the place of the first x, or the end

pub place-end : (x : ℕ) (s : List ℕ) (p : Option ℕ) (r : ℕ) → p ≡ position (λ y. eqb y x) s → r ≡ unwrap_or p (length s)
    → (r ≡ place_of x s) × (r ≤ length s)
place-end x s p r e f =
    let low : n ≤ length s = prefix_len-le-length (λ y. not (eqb y x)) s in
    let same : r ≡ n = f ∙ ap (λ (q : Option ℕ). unwrap_or q (length s)) e ∙ found (dec_le (length s) n) low in
    (same, omega arith)
  where
    n : ℕ
    n = place_of x s

    found : Dec (length s ≤ n) → n ≤ length s → unwrap_or (position (λ y. eqb y x) s) (length s) ≡ n
    found (yes h) l = rw (le-ltb n (length s) h) (omega arith)
    found (no h) l = rw (lt-ltb n (length s) (lt_of_not-le h))

-- ---- the first field

pub field-none : (t : List ℕ) → length t ≡ 0 → field_length t ≡ 0
unfolding field_length
field-none [] h = refl
field-none (x ∷ t) h = absurd (omega arith)

pub field-space : (t : List ℕ) → (length t ≡ 0 → ⊥) → get_or t 0 0 ≡ space → field_length t ≡ 1 + place_of space
    (drop 1 t)
unfolding field_length
field-space [] h e = absurd (h refl)
field-space (x ∷ t) h e = simp (eq-eqb x space e) (omega arith)

pub field-other : (t : List ℕ) → (get_or t 0 0 ≡ space → ⊥) → field_length t ≡ 0
unfolding field_length
field-other [] h = refl
field-other (x ∷ t) h = simp (ne_eqb x space h)

-- what `&t[k..]` is
pub rest_all : (t : List ℕ) (k : ℕ) → take (length t - k) (drop k t) ≡ drop k t
rest_all t k = let l : length (drop k t) ≤ length t - k = simp length-drop (omega arith) in take_all (length t - k)
    (drop k t) l
