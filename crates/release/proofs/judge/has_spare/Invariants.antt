-- `release::judge::has_spare` meets its contract: the invariant: the channels to the first k nodes were judged.
use Rattle.std.proofs.Common.{◌≡◌, ◌+◌, leb}
use Rattle.table.specs.Loop.{all}
use Rattle.region.specs.Channel.{capacity, count_of}
use Rattle.layout.specs.Layout.{channel}
use Rattle.outgoing.specs.Outgoing.{sent_most}
use Rattle.release.proofs.judge.has_spare.Given as goal

abbrev pub invariant-loop-k : goal.invariant-loop-k
invariant-loop-k l = l.ok ≡ all l.k (λ j. leb (count_of (channel l.b l.c j) + sent_most) capacity)
