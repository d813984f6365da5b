-- `react_bytes::tables::newest_at` meets its contract.
use borrow.Author.Rules.{rules}
use mathlib.Core.Path.{◌≡◌, sym, ap, ◌∙◌}
use mathlib.Core.Bool.{true, false}
use Prim.Native.Nat.{ℕ}
use lib.Dec.{leb}
use borrow.Author.Tests.{le-leb, lt-leb}
use Rattle.table.specs.Table.{tag_of}
use Rattle.region.specs.Record.{view_in, last_in}
use Rattle.react_bytes.proofs.Sections.{newest-read}
use Rattle.react_bytes.proofs.tables.newest_at.Goals as goal

pub returns-then-tag_in-t : goal.returns-then-tag_in-t
returns-then-tag_in-t c =
    let a = c.args in
    let r = a.r.now in
    let known = c.shared_slice_known-1.given in
    let e : leb (tag_of (view_in r last_in) a.w) a.t ≡ true =
    ap (λ (x : ℕ). leb x a.t) (sym c.tag_in.ensures) ∙ le-leb _ _ c.if-tag_in-t.true in (
      search rules,
      newest-read r a.t a.w (λ i. (known i).fits) c.requires.0 c.requires.1 c.requires.2 true e,
    )

pub returns-else-tag_in-t : goal.returns-else-tag_in-t
returns-else-tag_in-t c =
    let a = c.args in
    let r = a.r.now in
    let known = c.shared_slice_known-1.given in
    let e : leb (tag_of (view_in r last_in) a.w) a.t ≡ false =
    ap (λ (x : ℕ). leb x a.t) (sym c.tag_in.ensures) ∙ lt-leb _ _ c.if-tag_in-t.false in (
      search rules,
      newest-read r a.t a.w (λ i. (known i).fits) c.requires.0 c.requires.1 c.requires.2 false e,
    )
