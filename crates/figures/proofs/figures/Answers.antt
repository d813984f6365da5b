-- `figures::figures` meets its contract.
use Rattle.std.proofs.Common.{◌≡◌, ◌*◌, refl, sym, ◌∙◌, length, arith}
use borrow.Author.Tests.{eqb-true}
use Rattle.view.specs.Size.{entry_size}
use Rattle.figures.specs.Figures.{figures_of}
use Rattle.figures.proofs.Bounds.{a-size, not-size}
use Rattle.figures.proofs.figures.Goals as goal

pub returns-then-not-is_long : goal.returns-then-not-is_long
unfolding figures_of
returns-then-not-is_long c = rw (sym c.is_long.ensures ∙ c.if-not-is_long.true) (refl, tt)

pub returns-then-n-lt1 : goal.returns-then-n-lt1
unfolding figures_of
returns-then-n-lt1 c =
    rw (sym c.is_long.ensures ∙ c.if-not-is_long.false, not-size c.args.n c.then-n-lt1.either) (refl, tt)

pub count_entries-requires : goal.count_entries-requires
count_entries-requires c =
    let a = c.args in
    let e : length a.v.now ≡ entry_size * a.n = eqb-true (length a.v.now) (entry_size * a.n)
    (sym c.is_long.ensures ∙ c.if-not-is_long.false) in (
      c.if-n-gt-NODES.false,
      omega arith,
    )

pub returns : goal.returns
unfolding figures_of
returns c =
    rw (
      sym c.is_long.ensures ∙ c.if-not-is_long.false,
      a-size c.args.n c.if-n-lt1.false c.if-n-gt-NODES.false,
    ) c.count_entries.ensures
