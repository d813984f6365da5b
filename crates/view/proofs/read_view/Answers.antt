-- `view::read_view` meets its contract.
use Prim.Native.Nat.{ℕ, ◌+◌, ◌*◌}
use mathlib.Core.Path.{◌≡◌, ap, ap₂, ◌∙◌}
use mathlib.Core.List.{List, ◌++◌}
use native.Mathlib.Omega.{arith}
use lib.ListN.{set, drop, replicate}
use Rattle.octets.specs.Loop.{tab}
use Rattle.octets.proofs.Table.{tab-set, drop-replicate}
use Rattle.octets.proofs.Lent.{lent}
use Rattle.view.specs.Size.{nodes, tag_size, report_size, entry_size}
use Rattle.view.specs.Report.{no_report, report_of}
use Rattle.view.specs.View.{view_of, tag_at, report_at}
use Rattle.view.specs.declared.Report.{Report}
use Rattle.view.specs.declared.View.{View}
use Rattle.view.proofs.read_view.Goals as goal

pub loop-i-init : goal.loop-i-init
unfolding tab
loop-i-init c = (ap (λ (v : View). v.tags) c.absent-v.ensures, ap (λ (v : View). v.reports) c.absent-v.ensures)

pub loop-i-preserved : goal.loop-i-preserved
loop-i-preserved c =
    let a = c.args in
    let i = c.loop-i.i in
    let b = a.b.now in
    let e : entry_size * i + tag_size + report_size ≡ entry_size * i + entry_size = omega arith in (
      ap₂ (λ (t : List ℕ) (x : ℕ). set t i x) c.loop-i.invariant.0
          c.get_word.ensures
          ∙ tab-set i (tag_at b) (replicate nodes 0) (omega arith),
      ap₂ (λ (t : List Report) (p : Report). set t i p) c.loop-i.invariant.1
          (c.read_report.ensures ∙ ap report_of (lent b (entry_size * i + tag_size) report_size e))
          ∙ tab-set i (report_at b)
          (replicate nodes no_report) (omega arith),
    )

view_with : List ℕ → List Report → View
view_with t p = record { tags = t; reports = p }

pub returns : goal.returns
unfolding view_of view_with
returns c =
    let n = c.args.n in
    let b = c.args.b.now in
    let e : c.loop-i.i ≡ n = omega arith in
    ap₂ (λ (t : List ℕ) (p : List Report). view_with t p)
    (c.loop-i.invariant.0 ∙ ap (λ (k : ℕ). tab k (tag_at b) ++ drop k (replicate nodes 0)) e
    ∙ ap (λ (t : List ℕ). tab n (tag_at b) ++ t) (drop-replicate n nodes 0))
    (c.loop-i.invariant.1 ∙ ap (λ (k : ℕ). tab k (report_at b) ++ drop k (replicate nodes no_report)) e
    ∙ ap (λ (t : List Report). tab n (report_at b) ++ t) (drop-replicate n nodes no_report))
