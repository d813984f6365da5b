-- `page::put_page` meets its contract.
use borrow.Author.Rules.{rules}
use Prim.Native.Nat.{ℕ, zero, suc, ◌*◌, ◌<◌}
use Rattle.std.proofs.Common.{All}
use mathlib.Core.Path.{refl, sym, ap, ◌∙◌, subst}
use mathlib.Core.List.{List, [], ◌∷◌}
use native.Mathlib.Omega.{arith}
use Rattle.octets.specs.Bytes.{Bytes, put}
use Rattle.octets.proofs.Put.{put_then}
use Rattle.figures.specs.Figures.{totals}
use Rattle.figures.proofs.Bounds.{Fit, totals-fit}
use Rattle.page.specs.Page.{line_size, right, equals, figures_line, node_lines}
use Rattle.page.proofs.Lines.{counts-line-is, nodes-length}
use Rattle.page.proofs.put_page.Goals as goal

all-four : {k w x y z : ℕ} → w < k → x < k → y < k → z < k → All (λ m. m < k) (w ∷ x ∷ y ∷ z ∷ [])
all-four a b c d zero _ l = a
all-four a b c d (suc zero) _ l = b
all-four a b c d (suc (suc zero)) _ l = c
all-four a b c d (suc (suc (suc zero))) _ l = d
all-four a b c d (suc (suc (suc (suc k)))) _ l = absurd (omega arith)

pub put_counts-requires : goal.put_counts-requires
put_counts-requires c =
    let a = c.args in
    let v = a.v.now in
    let b : Bytes v = λ k. (c.type_inv.v k).fits in
    let h : Fit c.put_nodes-t.result = subst Fit (sym c.put_nodes-t.ensures.0) (totals-fit a.n v b c.requires.0) in (
      all-four (omega (arith, h.extensions)) (omega (arith, h.lines)) (omega (arith, h.waiting))
          (omega (arith, h.wakeups)),
      search rules,
    )

pub returns : goal.returns
unfolding right
returns c =
    let a = c.args in
    let o = a.out.now in
    let v = a.v.now in
    let n = a.n in
    let t = c.put_nodes-t.result in
    let b : Bytes v = λ k. (c.type_inv.v k).fits in
    let l = nodes-length n v b c.requires.0 in
    put_then o 0 (node_lines n v) (figures_line (totals n v)) (line_size * n) (omega arith) (omega (arith, l))
    c.put_nodes-t.ensures.1
    (c.put_counts.ensures
    ∙ ap (λ (s : List ℕ). put c.put_nodes-t.new.out (line_size
    * n) s)
    (counts-line-is equals t.extensions t.lines t.waiting t.wakeups refl ∙ ap figures_line c.put_nodes-t.ensures.0))
