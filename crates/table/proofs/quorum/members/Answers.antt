-- `table::quorum::members` meets its contract. Assumes nothing.
use Rattle.std.proofs.Common.{◌<◌, arith}
use Rattle.std.proofs.lemmas.Nat.{and_mask}
use Rattle.table.proofs.Sets.{shifted, members_in-ones}
use Rattle.table.proofs.quorum.members.Goals as goal

pub returns : goal.returns
returns c =
    let a = c.args in
    let small : a.n < 64 = omega arith in
    rw (shifted a.n small, and_mask a.m a.n) (members_in-ones a.n a.m)
