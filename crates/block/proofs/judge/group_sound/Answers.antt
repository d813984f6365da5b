-- `block::judge::group_sound` meets its contract: the invariant: the first j cells of the group were judged.
use Rattle.std.proofs.Common.{◌≡◌, ℕ, ◌+◌, sym, arith}
use Rattle.octets.proofs.Loop.{all_to-none}
use Rattle.table.specs.Table.{cells}
use Rattle.region.specs.Record.{heard_place}
use Rattle.block.specs.Judge.{group, cell_within}
use Rattle.block.proofs.Judged.{cell-within, group-next}
use Rattle.block.proofs.judge.group_sound.Goals as goal

pub loop-j-init : goal.loop-j-init
loop-j-init c = sym (all_to-none _)

pub loop-j-preserved : goal.loop-j-preserved
loop-j-preserved c =
    let a = c.args in
    let j = c.loop-j.j in
    group-next j (λ (i : ℕ). cell_within a.r.now (a.k + i)) _ _ c.loop-j.invariant
    (cell-within a.r.now cells heard_place (a.k + j) (λ i. (c.type_inv.r i).fits) (omega arith) (omega arith))

pub returns : goal.returns
returns c = let e : c.loop-j.j ≡ group = omega arith in rw e at c.loop-j.invariant
