-- `block::channels_sound` meets its contract: the invariant: the channels from the first a nodes were judged.
use Rattle.std.proofs.Common.{sym}
use Rattle.table.proofs.Laws.{all_none, all-next}
use Rattle.block.proofs.channels_sound.Goals as goal

pub loop-a-init : goal.loop-a-init
loop-a-init c = sym (all_none _)

pub loop-a-preserved : goal.loop-a-preserved
loop-a-preserved c = all-next c.loop-a.a _ _ _ c.loop-a.invariant (simp c.waiting_in.ensures.0)
