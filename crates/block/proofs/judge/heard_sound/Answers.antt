-- `block::judge::heard_sound` meets its contract: the invariant: the first i groups were judged.
use Rattle.std.proofs.Common.{◌≡◌, ◌*◌, sym, ◌∙◌, arith}
use Rattle.table.specs.Table.{heard_within, cells}
use Rattle.table.proofs.Laws.{all_none}
use Rattle.block.specs.Judge.{group}
use Rattle.block.proofs.Judged.{groups-more, group-fails}
use Rattle.block.proofs.judge.heard_sound.Goals as goal

pub loop-i-init : goal.loop-i-init
loop-i-init c = all_none _

pub loop-i-preserved : goal.loop-i-preserved
loop-i-preserved c =
    groups-more c.args.r.now c.loop-i.i c.loop-i.invariant (sym c.group_sound.ensures ∙ c.if-not-group_sound.false)

pub returns-then-not-group_sound : goal.returns-then-not-group_sound
unfolding heard_within
returns-then-not-group_sound c =
    sym (group-fails c.args.r.now c.loop-i.i (omega arith) (sym c.group_sound.ensures ∙ c.if-not-group_sound.true))

pub returns : goal.returns
unfolding heard_within
returns c = let e : group * c.loop-i.i ≡ cells = omega arith in rw e at (sym c.loop-i.invariant)
