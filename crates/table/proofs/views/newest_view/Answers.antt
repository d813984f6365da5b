-- `table::views::newest_view` meets its contract. Assumes nothing.
use Rattle.std.proofs.Common.{arith, ℕ, ◌+◌, ◌-◌, ◌≡◌, refl, ◌∙◌, List, rules, length, ◌<◌, ap₂}
use borrow.Author.Tests.{le-leb, lt-leb}
use Rattle.view.specs.Report.{no_report}
use Rattle.view.specs.declared.Report.{Report}
use Rattle.view.specs.Size.{nodes}
use Rattle.table.specs.Table.{newest, newest_tag, newest_report}
use Rattle.table.proofs.Laws.{filled_set, filled_kept, filled_none, filled-all, length-mapped}
use Rattle.table.proofs.views.newest_view.Goals.{then-last-w, else-last-w}
use Rattle.table.proofs.views.newest_view.Goals as goal

pub loop-w-init : goal.loop-w-init
loop-w-init c = record { tags = filled_none _ _; reports = filled_none _ _ }

pub loop-w-preserved : goal.loop-w-preserved
loop-w-preserved c =
    let a = c.args in
    let w = c.loop-w.w in
    let i = c.loop-w.invariant in
    let back : w + 1 - 1 ≡ w = omega arith in
    let tag = newest_tag a.t a.last a.held in
    let report = newest_report a.t a.last a.held in
    let long : w < length a.held.reports = search (rules, length-mapped) in
    elim c.if-last-w.branch [
      | then-last-w p ↦ let e = le-leb _ _ p.if-last-w.true in
          rw (p.v-is, i.tags, i.reports) (record {
            tags = filled_set w tag a.held.tags _ (search rules) (rw (back, e) refl);
            reports = filled_set w report a.held.reports _ long (rw (back, e) refl);
          })
      | else-last-w p ↦ let e = lt-leb _ _ p.if-last-w.false in
          rw (p.v-is, i.tags, i.reports) (record {
            tags = filled_kept w tag a.held.tags 0 (search rules) (rw (back, e) refl);
            reports = filled_kept w report a.held.reports no_report long (rw (back, e) refl);
          })
    ]

pub returns : goal.returns
unfolding newest
returns c =
    let a = c.args in
    let i = c.loop-w.invariant in
    let e : c.loop-w.w ≡ nodes = omega arith in
    ap₂ (λ (ts : List ℕ) (rs : List Report). record { tags = ts; reports = rs })
    ((rw e at i.tags) ∙ filled-all nodes _ a.held.tags (search rules))
    ((rw e at i.reports) ∙ filled-all nodes _ a.held.reports (search (rules, length-mapped)))
