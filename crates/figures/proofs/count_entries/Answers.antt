-- `figures::count_entries` meets its contract.
use borrow.Author.Rules.{rules}
use Prim.Native.Nat.{ℕ, ◌+◌, ◌<◌, ◌^◌}
use mathlib.Core.Path.{◌≡◌, sym, ap, ap₂, ◌∙◌}
use mathlib.Core.Bool.{Bool}
use native.Mathlib.Omega.{arith}
use Rattle.octets.specs.Answer.{Answer, returned, refused}
use Rattle.octets.specs.Test.{pick}
use Rattle.octets.proofs.Loop.{all_to-none, all_to-more, all_to-false}
use Rattle.view.specs.Size.{limit}
use Rattle.view.specs.View.{view_ok, entry_ok_at}
use Rattle.view.specs.declared.Report.{Report}
use Rattle.figures.specs.declared.Totals.{Totals}
use Rattle.figures.specs.Figures.{counted_report, totals, waiting_sum}
use Rattle.figures.proofs.Adding.{totals-none, waiting_sum-none, waiting_sum-more, more-roomy, one_more}
use Rattle.figures.proofs.Bounds.{counted_report-is, waiting_sum-fits}
use Rattle.figures.proofs.count_entries.Goals as goal

pub loop-i-init : goal.loop-i-init
unfolding view_ok
loop-i-init c =
    let v = c.args.v.now in (
      all_to-none (entry_ok_at limit v),
      c.no_totals-totals.ensures ∙ sym (totals-none v),
      sym (waiting_sum-none v),
    )

pub overflow_add-waiting_sum : goal.overflow_add-waiting_sum
overflow_add-waiting_sum c =
    let w : c.report_at-p.result.waiting < 2 ^ 16 = search rules in
    let f = waiting_sum-fits c.loop-i.i c.args.v.now
    (λ k. (c.type_inv.v k).fits)
    (omega arith) in
    omega (arith, w, f, c.loop-i.invariant.2)

pub with_report-totals-requires : goal.with_report-totals-requires
with_report-totals-requires c =
    more-roomy c.loop-i.i c.args.v.now c.loop-i.invariant.1
    (λ k. (c.type_inv.v k).fits)
    (omega arith)

pub loop-i-preserved : goal.loop-i-preserved
unfolding view_ok
loop-i-preserved c =
    let l = c.loop-i in
    let v = c.args.v.now in
    let i = l.i in
    let below = c.loop-i-test.true in
    let ok = all_to-more i (entry_ok_at limit v) l.invariant.0 (sym c.is_entry.ensures ∙ c.if-not-is_entry.false) in
    let p : c.report_at-p.result ≡ counted_report v i = c.report_at-p.ensures
    ∙ counted_report-is (i + 1) v ok (λ k. (c.type_inv.v k).fits)
    (omega (arith, c.requires.1, below)) i (omega arith) in (
      ok,
      one_more i v l.invariant.1 c.with_report-totals.ensures p,
      ap₂ (λ (s w : ℕ). s + w) l.invariant.2 (c.from-waiting_sum.ensures ∙ ap (λ (q : Report). q.waiting) p)
          ∙ sym (waiting_sum-more i v),
    )

-- a choice by a test that is known
decided : {t u : Bool} (a b : Answer Totals) → u ≡ t → pick t a b ≡ pick u a b
decided a b e = ap (λ (t : Bool). pick t a b) (sym e)

pub returns-then-not-is_entry : goal.returns-then-not-is_entry
unfolding view_ok
returns-then-not-is_entry c =
    let n = c.args.n in
    let v = c.args.v.now in (
      decided (returned (totals n v)) (refused 7)
          (all_to-false n (entry_ok_at limit v) c.loop-i.i c.loop-i-test.true
          (sym c.is_entry.ensures ∙ c.if-not-is_entry.true)),
      tt,
    )

pub returns : goal.returns
returns c =
    let n = c.args.n in
    let v = c.args.v.now in
    let l = c.loop-i in
    let e : l.i ≡ n = omega arith in (
      ap returned (l.invariant.1 ∙ ap (λ (k : ℕ). totals k v) e)
          ∙ decided (returned (totals n v)) (refused 7) (ap (λ (k : ℕ). view_ok k limit v) (sym e) ∙ l.invariant.0),
      l.invariant.2 ∙ ap (λ (k : ℕ). waiting_sum k v) e,
    )
