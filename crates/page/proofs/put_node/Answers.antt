-- `page::put_node` meets its contract.
use Prim.Native.Nat.{ℕ, ◌+◌, ◌*◌}
use mathlib.Core.Path.{◌≡◌, refl, sym, ap, ◌∙◌}
use mathlib.Core.Bool.{Bool, true, false}
use mathlib.Core.List.{List}
use mathlib.Core.Option.{none, some}
use native.Mathlib.Omega.{arith}
use lib.Dec.{eqb}
use borrow.Author.Tests.{eq-eqb, ne_eqb}
use Rattle.octets.specs.Bytes.{put}
use Rattle.octets.specs.Test.{pick}
use Rattle.octets.proofs.Lent.{lent}
use Rattle.view.specs.Size.{tag_size, report_size, entry_size}
use Rattle.view.specs.Report.{no_report, report_of}
use Rattle.view.specs.View.{tag_at, report_at}
use Rattle.view.specs.declared.Report.{Report}
use Rattle.digits.specs.Decimal.{decimal}
use Rattle.page.specs.Page.{line_size, dash, counts_line, node_line}
use Rattle.page.proofs.Lines.{line-is, counts-line-is}
use Rattle.page.proofs.put_node.Goals as goal

-- the line of node i + 1 and the report that counts, by whether its tag is 0
shown : (v : List ℕ) (i : ℕ) → Bool → List ℕ
shown v i t = node_line (i + 1) (pick t none (some (report_at v i)))

counted : (v : List ℕ) (i : ℕ) → Bool → Report
counted v i t = pick t no_report (report_at v i)

pub returns-then-get_word-eq0 : goal.returns-then-get_word-eq0
unfolding shown counted
returns-then-get_word-eq0 c =
    let a = c.args in
    let i = a.i in
    let v = a.v.now in
    let z : eqb (tag_at v i) 0 ≡ true = eq-eqb _ _ (sym c.get_word.ensures ∙ c.if-get_word-eq0.true) in (
      c.none.ensures ∙ ap (counted v i) (sym z),
      c.put_none.ensures
          ∙ ap (λ (s : List ℕ). put a.out.now (line_size * i) s)
          (line-is (decimal (i + 1)) dash dash dash dash c.label-name.ensures refl refl refl refl
          ∙ ap (shown v i) (sym z)),
    )

-- the line of counts that are those of a report
same-counts : (l : List ℕ) {a b c d w x y z : ℕ} → a ≡ w → b ≡ x → c ≡ y → d ≡ z
    → counts_line l a b c d ≡ counts_line l w x y z
same-counts l e f g h = rw (e, f, g, h) refl

pub returns : goal.returns
unfolding shown counted
returns c =
    let a = c.args in
    let i = a.i in
    let v = a.v.now in
    let z : eqb (tag_at v i) 0 ≡ false = ne_eqb _ _ (λ e. c.if-get_word-eq0.false (c.get_word.ensures ∙ e)) in
    let q : entry_size * i + tag_size + report_size ≡ entry_size * i + entry_size = omega arith in
    let e : c.read_report-p.result ≡ report_at v
    i =
    c.read_report-p.ensures ∙ ap report_of (lent
    v (entry_size * i + tag_size) report_size q) in (
      e ∙ ap (counted v i) (sym z),
      c.put_counts.ensures
          ∙ ap (λ (s : List ℕ). put a.out.now (line_size * i) s)
          (counts-line-is (decimal (i + 1)) _ _ _ _ c.label-name.ensures
          ∙ same-counts (decimal (i + 1)) (c.from.ensures ∙ ap (λ (r : Report). r.extensions) e)
          (c.from-2.ensures ∙ ap (λ (r : Report). r.lines) e) (c.from-3.ensures ∙ ap (λ (r : Report). r.waiting) e)
          (c.from-4.ensures ∙ ap (λ (r : Report). r.wakeups) e) ∙ ap (shown v i) (sym z)),
    )
