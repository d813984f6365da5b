-- Lines: what they are made of, and how long they are.
use Prim.Native.Nat.{ℕ, suc, ◌+◌, ◌-◌, ◌*◌, ◌^◌, ◌<◌, ◌≤◌}
use mathlib.Core.Path.{◌≡◌, refl, sym, ap, ◌∙◌}
use mathlib.Core.Bool.{Bool, true, false}
use mathlib.Core.List.{List, [], ◌∷◌, ◌++◌, append_assoc}
use mathlib.Core.Option.{none, some}
use native.Mathlib.Omega.{arith}
use lib.ListN.{length, replicate, length-append, length-replicate, replicate-append-replicate}
use lib.Dec.{eqb}
use Rattle.octets.specs.Bytes.{Bytes, part, put}
use Rattle.octets.specs.Loop.{join}
use Rattle.octets.specs.Test.{pick}
use Rattle.octets.proofs.Put.{part_bytes, put-cover}
use Rattle.octets.proofs.Table.{length-join-below}
use Rattle.view.specs.Size.{nodes, tag_size, report_size, entry_size}
use Rattle.view.specs.Report.{Counts}
use Rattle.view.specs.View.{tag_at, report_at}
use Rattle.view.proofs.ReportBytes.{counts_of}
use Rattle.digits.specs.Decimal.{decimal}
use Rattle.digits.proofs.DecimalBack.{fewest-most}
use Rattle.figures.specs.declared.Totals.{Totals}
use Rattle.figures.proofs.Bounds.{Fit}
use Rattle.page.specs.Page.{label_width, count_width, cell_size, line_size, space, right, cell_text, feed, dash}
use Rattle.page.specs.Page.{equals, cells, page_line, counts_line, node_line, figures_line, shown_at, node_lines}

-- its parts, one after the other
pub line-is : (l a b c d : List ℕ) {n p q r s : List ℕ} → n ≡ right label_width l → p ≡ cell_text a → q ≡ cell_text b
    → r ≡ cell_text c → s ≡ cell_text d → n ++ p ++ q ++ r ++ s ++ feed ≡ page_line l a b c d
unfolding page_line
line-is l a b c d e f g h i = rw (e, f, g, h, i) refl

-- the same of four counts
apart : (n p q r s e : List ℕ) → n ++ (p ++ q ++ r ++ s) ++ e ≡ n ++ p ++ q ++ r ++ s ++ e
apart n p q r s e = simp append_assoc

pub counts-line-is : (l : List ℕ) (a b c d : ℕ) {n : List ℕ} → n ≡ right label_width l
    → n ++ cells (a ∷ b ∷ c ∷ d ∷ []) ++ feed ≡ counts_line l a b c d
unfolding page_line join
counts-line-is l a b c d e =
    let t : ℕ → List ℕ = λ x. cell_text (decimal x) in
    rw e (apart (right label_width l) (t a) (t b) (t c) (t d) feed)

-- ---- lengths

pub right-length : (k : ℕ) (s : List ℕ) → length s ≤ k → length (right k s) ≡ k
unfolding right
right-length k s h = simp (length-append, length-replicate) (omega arith)

line-length : (l a b c d : List ℕ) → length l ≤ label_width → length a ≤ count_width → length b ≤ count_width
    → length c ≤ count_width → length d ≤ count_width → length (page_line l a b c d) ≡ line_size
unfolding page_line
line-length l a b c d e f g h i =
    simp length-append (omega (
      arith,
      right-length label_width l e,
      right-length count_width a f,
      right-length count_width b g,
      right-length count_width c h,
      right-length count_width d i,
    ))

-- a number below a power of ten has as many digits as it says
pub digits-most : (j x : ℕ) → x < 10 ^ j → 1 ≤ j → length (decimal x) ≤ j
digits-most j x l h = fewest-most 20 x j l h

-- a count after its space
pub cell-length : (x : ℕ) → x < 10 ^ count_width → length (cell_text (decimal x)) ≡ cell_size
cell-length x h = ap suc (right-length count_width (decimal x) (digits-most count_width x h (omega arith)))

-- digits over the end of spaces
pub cell-put : (o : List ℕ) (at : ℕ) (s : List ℕ) {y z : List ℕ} → length s ≤ count_width → at + cell_size ≤ length o
    → y ≡ put o at (replicate cell_size space) → z ≡ put y (at + cell_size - length s) s → z ≡ put o at (cell_text s)
unfolding right
cell-put o at s {y} {z} l h p q =
    let j : ℕ = count_width - length s in
    let e : suc j + length s ≡ cell_size = omega arith in
    let k : at + length (replicate (suc j) space) ≡ at + cell_size - length s =
    simp length-replicate (omega arith) in
    put-cover o at (replicate (suc j) space) (replicate (length s) space) s (at + cell_size - length s) (omega arith) k
    (simp length-replicate (omega arith))
    (p ∙ ap (λ (t : List ℕ). put o at t)
    (sym (replicate-append-replicate (suc j) (length s) space ∙ ap (λ (i : ℕ). replicate i space) e))) q

counts-length : (l : List ℕ) (a b c d : ℕ) → length l ≤ label_width → a < 10 ^ count_width → b < 10 ^ count_width
    → c < 10 ^ count_width → d < 10 ^ count_width → length (counts_line l a b c d) ≡ line_size
counts-length l a b c d e f g h i =
    line-length l (decimal a) (decimal b) (decimal c) (decimal d) e (digits-most count_width a f (omega arith))
    (digits-most count_width b g (omega arith)) (digits-most count_width c h (omega arith)) (digits-most count_width d i
    (omega arith))

pub figures-length : (t : Totals) → Fit t → length (figures_line t) ≡ line_size
figures-length t h =
    counts-length equals t.extensions t.lines t.waiting t.wakeups (omega arith)
    (omega (arith, h.extensions)) (omega (arith, h.lines)) (omega (arith, h.waiting)) (omega (arith, h.wakeups))

pub counts-at : (v : List ℕ) (i : ℕ) → Bytes v → Counts (report_at v i)
counts-at v i h =
    counts_of (part v (entry_size * i + tag_size) report_size) (part_bytes v (entry_size * i + tag_size) report_size h)

pub node-length : (v : List ℕ) (i : ℕ) → Bytes v → i < nodes → length (node_line (i + 1) (shown_at v i)) ≡ line_size
node-length v i h l = by-tag (eqb (tag_at v i) 0)
  where
    name : length (decimal (i + 1)) ≤ label_width
    name = digits-most label_width (i + 1) (omega arith) (omega arith)

    by-tag : (t : Bool) → length (node_line (i + 1) (pick t none (some (report_at v i)))) ≡ line_size
    by-tag true = line-length (decimal (i + 1)) dash dash dash dash name (omega arith) (omega arith) (omega arith)
        (omega arith)
    by-tag false =
        let p = report_at v i in
        let c = counts-at v i h in
        counts-length (decimal (i + 1)) p.extensions p.lines p.waiting p.wakeups name
        (omega (arith, c.extensions)) (omega (arith, c.lines)) (omega (arith, c.waiting))
        (omega (arith, c.wakeups))

pub nodes-length : (n : ℕ) (v : List ℕ) → Bytes v → n ≤ nodes → length (node_lines n v) ≡ line_size * n
nodes-length n v h l =
    length-join-below n line_size (λ i. node_line (i + 1) (shown_at v i)) (λ i m. node-length v i h (omega arith))
