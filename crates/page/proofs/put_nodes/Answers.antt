-- `page::put_nodes` meets its contract.
use borrow.Author.Rules.{rules}
use Prim.Native.Nat.{ℕ, ◌+◌, ◌*◌}
use mathlib.Core.Path.{refl, sym, ap, ◌∙◌}
use mathlib.Core.List.{List}
use native.Mathlib.Omega.{arith}
use Rattle.octets.specs.Bytes.{Bytes, put}
use Rattle.octets.proofs.Put.{put-nil, put_then}
use Rattle.octets.proofs.Table.{join-none, join_more}
use Rattle.figures.proofs.Adding.{totals-none, more-roomy, one_more}
use Rattle.page.specs.Page.{line_size, node_line, shown_at, node_lines}
use Rattle.page.proofs.Lines.{nodes-length}
use Rattle.page.proofs.put_nodes.Goals as goal

pub loop-i-init : goal.loop-i-init
loop-i-init c =
    let a = c.args in
    let f : ℕ → List ℕ = λ i. node_line (i + 1) (shown_at a.v.now i) in (
      refl,
      c.no_totals-t.ensures ∙ sym (totals-none a.v.now),
      sym (put-nil a.out.now 0) ∙ ap (λ (s : List ℕ). put a.out.now 0 s) (sym (join-none f)),
    )

pub with_report-t-requires : goal.with_report-t-requires
with_report-t-requires c =
    let a = c.args in
    more-roomy c.loop-i.i a.v.now c.loop-i.invariant.1 (λ k. (c.type_inv.v k).fits) (omega (arith, c.requires.0))

pub loop-i-preserved : goal.loop-i-preserved
loop-i-preserved c =
    let a = c.args in
    let o = a.out.now in
    let v = a.v.now in
    let i = c.loop-i.i in
    let b : Bytes v = λ k. (c.type_inv.v k).fits in
    let f : ℕ → List ℕ = λ j. node_line (j + 1) (shown_at v j) in
    let l = nodes-length i v b (omega (arith, c.requires.0)) in (
      search rules,
      one_more i v c.loop-i.invariant.1 c.with_report-t.ensures c.put_node.ensures.0,
      put_then o 0 (node_lines i v) (f i) (line_size * i) (omega arith) (omega (arith, l)) c.loop-i.invariant.2
          c.put_node.ensures.1
          ∙ ap (λ (s : List ℕ). put o 0 s) (sym (join_more i f)),
    )
