-- `view::first_of` meets its contract.
use Rattle.std.proofs.Common.{◌≡◌, ◌∙◌, ℕ, List, ◌++◌, set, get_or, drop, replicate, ap, ap₂, arith}
use Rattle.octets.specs.Loop.{tab}
use Rattle.octets.proofs.Table.{tab-set, drop-replicate}
use Rattle.view.specs.Size.{nodes}
use Rattle.view.specs.Report.{no_report}
use Rattle.view.specs.View.{first_of}
use Rattle.view.specs.declared.Report.{Report}
use Rattle.view.specs.declared.View.{View}
use Rattle.view.proofs.first_of.Goals as goal

pub loop-i-init : goal.loop-i-init
unfolding tab
loop-i-init c =
    (ap (λ (v : View). v.tags) c.absent-first.ensures, ap (λ (v : View). v.reports) c.absent-first.ensures)

pub loop-i-preserved : goal.loop-i-preserved
loop-i-preserved c =
    let v = c.args.v in
    let i = c.loop-i.i in (
      ap (λ (t : List ℕ). set t i (get_or v.tags i 0)) c.loop-i.invariant.0
          ∙ tab-set i (λ k. get_or v.tags k 0) (replicate nodes 0) (omega arith),
      ap (λ (t : List Report). set t i (get_or v.reports i no_report)) c.loop-i.invariant.1
          ∙ tab-set i (λ k. get_or v.reports k no_report) (replicate nodes no_report) (omega arith),
    )

view_with : List ℕ → List Report → View
view_with t p = record { tags = t; reports = p }

pub returns : goal.returns
unfolding first_of view_with
returns c =
    let n = c.args.n in
    let v = c.args.v in
    let f : ℕ → ℕ = λ k. get_or v.tags k 0 in
    let g : ℕ → Report = λ k. get_or v.reports k no_report in
    let e : c.loop-i.i ≡ n = omega arith in
    ap₂ (λ (t : List ℕ) (p : List Report). view_with t p)
    (c.loop-i.invariant.0 ∙ ap (λ (k : ℕ). tab k f ++ drop k (replicate nodes 0)) e
    ∙ ap (λ (t : List ℕ). tab n f ++ t) (drop-replicate n nodes 0))
    (c.loop-i.invariant.1 ∙ ap (λ (k : ℕ). tab k g ++ drop k (replicate nodes no_report)) e
    ∙ ap (λ (t : List Report). tab n g ++ t) (drop-replicate n nodes no_report))
