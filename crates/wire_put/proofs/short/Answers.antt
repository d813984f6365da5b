-- `wire_put::short` meets its contract.
use Rattle.std.proofs.Common.{[], ◌≤◌, refl, arith}
use Rattle.octets.proofs.Test.{true-false}
use Rattle.view.specs.Size.{nodes}
use Rattle.wire.proofs.Numbers.{writer-most, view-some}
use Rattle.wire_put.proofs.short.Goals as goal

pub overflow_cast-writer : goal.overflow_cast-writer
overflow_cast-writer c =
    let w : c.in-Value.writer ≤ nodes = writer-most nodes c.in-Value.tag c.in-Value.writer c.in-Value.report []
    (rw c.in-Value.is at c.requires.0) in
    omega arith

pub returns-in-Good : goal.returns-in-Good
returns-in-Good c =
    true-false _ (rw c.in-Good.is at c.requires.0) (view-some nodes c.in-Good.tag refl)
