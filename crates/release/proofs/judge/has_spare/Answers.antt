-- `release::judge::has_spare` meets its contract: the invariant: the channels to the first k nodes were judged.
use Rattle.std.proofs.Common.{◌≡◌, sym, arith}
use Rattle.table.proofs.Laws.{all_none, all-next}
use Rattle.outgoing.specs.Room.{spare}
use Rattle.release.proofs.judge.has_spare.Goals as goal

pub loop-k-init : goal.loop-k-init
loop-k-init c = sym (all_none _)

pub loop-k-preserved : goal.loop-k-preserved
loop-k-preserved c = all-next c.loop-k.k _ _ _ c.loop-k.invariant (simp c.waiting_at.ensures.0)

pub returns : goal.returns
unfolding spare
returns c = let e : c.loop-k.k ≡ c.args.n = omega arith in rw e at c.loop-k.invariant
