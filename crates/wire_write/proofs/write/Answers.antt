-- `wire_write::write` meets its contract.
use Rattle.wire.proofs.Short.{not_good, beside}
use Rattle.wire_write.proofs.write.Goals as goal

pub returns-in-Good : goal.returns-in-Good
returns-in-Good c = rw c.in-Good.is c.write_good.ensures

pub returns-in_default : goal.returns-in_default
returns-in_default c =
    let a = c.args in
    beside a.n a.m a.view.now a.out.now (not_good a.m c.in_default.not-Good)
    c.write_short.ensures
