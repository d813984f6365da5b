-- What the columns of a line say: a line is read back.
use Prim.Native.Nat.{ℕ, ◌+◌, ◌-◌, ◌%◌, ◌^◌, ◌<◌, ◌≤◌}
use mathlib.Core.Path.{◌≡◌, refl, sym, ap, ◌∙◌}
use mathlib.Core.Bool.{false}
use mathlib.Core.List.{List, ◌∷◌, ◌++◌}
use mathlib.Core.Option.{none, some}
use native.Mathlib.Omega.{arith}
use lib.ListN.{length, get_or}
use Rattle.octets.specs.Bytes.{part, same}
use Rattle.octets.specs.Loop.{tab}
use Rattle.octets.proofs.Table.{tab-spelled}
use Rattle.octets.proofs.Test.{not-true-false, same_true, same_refl}
use Rattle.view.specs.Report.{Counts}
use Rattle.view.specs.declared.Report.{Report}
use Rattle.digits.specs.Decimal.{value, decimal}
use Rattle.digits.proofs.DecimalBack.{value-spaces, value-decimal}
use Rattle.figures.specs.declared.Totals.{Totals}
use Rattle.figures.proofs.Bounds.{Fit}
use Rattle.page.specs.Page.{label_width, count_width, feed, space, dash, equals, right, page_line, counts_line}
use Rattle.page.specs.Page.{node_line, figures_line}
use Rattle.page.specs.Read.{columns, count_in, shown_in, figures_in}
use Rattle.page.proofs.Columns.{right-decimal}
use Rattle.page.proofs.Lines.{right-length, digits-most}

-- ---- columns

pub record InColumns (l a b c d : List ℕ) : Type 0 where
  pub first : columns l 0 ≡ a
  pub second : columns l 1 ≡ b
  pub third : columns l 2 ≡ c
  pub fourth : columns l 3 ≡ d

placed : (l a b c d : List ℕ) → length l ≡ label_width → length a ≡ count_width → length b ≡ count_width
    → length c ≡ count_width → length d ≡ count_width
    → InColumns (l ++ (space ∷ a) ++ (space ∷ b) ++ (space ∷ c) ++ (space ∷ d) ++ feed) a b c d
unfolding tab part
placed l a b c d e f g h i =
    rw (
      tab-spelled label_width l 0 e,
      tab-spelled count_width a 0 f,
      tab-spelled count_width b 0 g,
      tab-spelled count_width c 0 h,
      tab-spelled count_width d 0 i,
    )
    (record { first = refl; second = refl; third = refl; fourth = refl })

line-columns : (l a b c d : List ℕ) → length l ≤ label_width → length a ≤ count_width → length b ≤ count_width
    → length c ≤ count_width → length d ≤ count_width
    → InColumns (page_line l a b c d) (right count_width a) (right count_width b) (right count_width c)
    (right count_width d)
unfolding page_line
line-columns l a b c d e f g h i =
    placed (right label_width l) (right count_width a) (right count_width b) (right count_width c) (right count_width d)
    (right-length label_width l e) (right-length count_width a f) (right-length count_width b g)
    (right-length count_width c h) (right-length count_width d i)

-- ---- counts

-- a count that fits its columns is said by them
said : (x : ℕ) → x < 10 ^ count_width → value (right count_width (decimal x)) ≡ x
unfolding right
said x h = value-spaces (count_width - length (decimal x)) (decimal x) ∙ value-decimal x (omega arith)

-- its last column is a digit, so it is no dash
no-dash : (x : ℕ) → x < 10 ^ count_width → same (right count_width (decimal x)) (right count_width dash) ≡ false
unfolding right
no-dash x h =
    not-true-false (same (right count_width (decimal x)) (right count_width dash))
    (λ e. let q : 48 + x % 10 ≡ 45 = ap (λ (s : List ℕ). get_or s 6 0)
    (sym (right-decimal 6 x h (omega arith)) ∙ same_true (right count_width (decimal x)) (right count_width dash) e) in
    omega arith)

-- a line of dashes
pub none-back : (k : ℕ) → k < 10 ^ label_width → shown_in (node_line k none) ≡ none
unfolding shown_in
none-back k h =
    let c = line-columns (decimal k) dash dash dash dash (digits-most label_width k h (omega arith)) (omega arith)
    (omega arith) (omega arith) (omega arith) in
    rw (ap (λ (s : List ℕ). same s (right count_width dash)) c.first ∙ same_refl (right count_width dash)) refl

-- four counts in a line
module _ (l : List ℕ) (a b c d : ℕ) (e : length l ≤ label_width) (f : a < 10 ^ count_width) (g : b < 10 ^ count_width)
    (h : c < 10 ^ count_width) (i : d < 10 ^ count_width) where
  in-columns : InColumns (counts_line l a b c d) (right count_width (decimal a)) (right count_width (decimal b))
      (right count_width (decimal c)) (right count_width (decimal d))
  in-columns =
      line-columns l (decimal a) (decimal b) (decimal c) (decimal d) e (digits-most count_width a f (omega arith))
      (digits-most count_width b g (omega arith)) (digits-most count_width c h (omega arith))
      (digits-most count_width d i
      (omega arith))

  first_said : count_in (counts_line l a b c d) 0 ≡ a
  first_said = ap value in-columns.first ∙ said a f

  second-said : count_in (counts_line l a b c d) 1 ≡ b
  second-said = ap value in-columns.second ∙ said b g

  third-said : count_in (counts_line l a b c d) 2 ≡ c
  third-said = ap value in-columns.third ∙ said c h

  fourth-said : count_in (counts_line l a b c d) 3 ≡ d
  fourth-said = ap value in-columns.fourth ∙ said d i

  counts-shown : shown_in (counts_line l a b c d)
      ≡ some (record { extensions = a; lines = b; waiting = c; wakeups = d })
  unfolding shown_in
  counts-shown =
      rw (
        ap (λ (s : List ℕ). same s (right count_width dash)) in-columns.first ∙ no-dash a f,
        first_said,
        second-said,
        third-said,
        fourth-said,
      ) refl

-- ---- lines

pub some_back : (k : ℕ) (p : Report) → k < 10 ^ label_width → Counts p → shown_in (node_line k (some p)) ≡ some p
some_back k p h c =
    counts-shown (decimal k) p.extensions p.lines p.waiting p.wakeups
    (digits-most label_width k h (omega arith)) (omega (arith, c.extensions)) (omega (arith, c.lines))
    (omega (arith, c.waiting)) (omega (arith, c.wakeups))

pub figures-back : (t : Totals) → Fit t → figures_in (figures_line t) ≡ t
unfolding figures_in
figures-back t h =
    let l : length equals ≤ label_width = omega arith in
    let a = t.extensions in
    let b = t.lines in
    let c = t.waiting in
    let d = t.wakeups in
    let e : a < 10 ^ count_width = omega (arith, h.extensions) in
    let f : b < 10 ^ count_width = omega (arith, h.lines) in
    let g : c < 10 ^ count_width = omega (arith, h.waiting) in
    let i : d < 10 ^ count_width = omega (arith, h.wakeups) in
    rw (
      first_said equals a b c d l e f g i,
      second-said equals a b c d l e f g i,
      third-said equals a b c d l e f g i,
      fourth-said equals a b c d l e f g i,
    ) refl
