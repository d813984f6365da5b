-- `table::views::heard_within` meets its contract. Assumes nothing.
use Rattle.std.proofs.Common.{sym, ◌≡◌, ◌+◌, ◌-◌, arith}
use Rattle.table.specs.Table.{heard_within, cells}
use Rattle.table.proofs.Laws.{all_none, all-next}
use Rattle.table.proofs.views.heard_within.Goals as goal

pub loop-tag-init : goal.loop-tag-init
loop-tag-init c = sym (all_none _)

pub loop-tag-preserved : goal.loop-tag-preserved
loop-tag-preserved c =
    let i = c.loop-tag.tag-index in
    let back : i + 1 - 1 ≡ i = omega arith in
    all-next i _ _ _ c.loop-tag.invariant (rw back)

pub returns : goal.returns
unfolding heard_within
returns c = let e : c.loop-tag.tag-index ≡ cells = omega arith in rw e at c.loop-tag.invariant
