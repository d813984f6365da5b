-- `answers::put_entries` meets its contract: after i turns its loop has what the definition has after i.
use borrow.Author.Rules.{rules}
use Prim.Native.Nat.{ℕ, ◌+◌}
use mathlib.Core.Path.{◌≡◌, refl, sym, ap, ◌∙◌}
use mathlib.Core.List.{List}
use native.Mathlib.Nat.{add-zero}
use native.Mathlib.Omega.{arith}
use lib.ListN.{length, length-append}
use Rattle.octets.specs.Bytes.{put}
use Rattle.octets.specs.Loop.{join}
use Rattle.octets.proofs.Put.{put-nil, put_then}
use Rattle.octets.proofs.Table.{join_more}
use Rattle.answers.proofs.put_entries.Invariants.{rule}
use Rattle.answers.proofs.put_entries.Goals as goal

pub loop-i-init : goal.loop-i-init
unfolding join
loop-i-init c = (
  sym (put-nil c.args.out.now c.args.at),
  sym (add-zero c.args.at),
  search rules,
  refl,
)

pub loop-i-preserved : goal.loop-i-preserved
loop-i-preserved c =
    let a = c.args in
    let o = a.out.now in
    let i = c.loop-i.i in
    let f : ℕ → List ℕ = rule a.v.tags a.v.reports in
    let q = c.put_entry-end.ensures in
    let inv = c.loop-i.invariant in
    let m : length (join (i + 1) f) ≡ length (join i f) + length (f i) = ap length (join_more i f)
    ∙ length-append (join i f) (f i) in (
      put_then o a.at (join i f) (f i) c.loop-i.end (omega arith)
          (sym inv.1) inv.0 q.0
          ∙ ap (λ (s : List ℕ). put o a.at s) (sym (join_more i f)),
      omega (arith, q.1, inv.1, m),
      omega (arith, q.2, inv.2),
      search rules,
    )

pub returns : goal.returns
returns c =
    let a = c.args in
    let e : c.loop-i.i ≡ a.n = omega arith in
    (rw e at c.loop-i.invariant.0, rw e at c.loop-i.invariant.1, omega arith)
