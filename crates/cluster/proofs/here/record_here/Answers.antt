-- `cluster::here::record_here` meets its contract.
use Rattle.std.proofs.Common.{rules}
use Rattle.cluster.proofs.InPlace.{record-lent}
use Rattle.cluster.proofs.here.record_here.Goals as goal

pub returns : goal.returns
returns c = let e = record-lent c.args.b.now c.args.c c.record_at-at.ensures in (search rules, e)
