-- `page::label` meets its contract.
use mathlib.Core.Path.{sym}
use native.Mathlib.Omega.{arith}
use Rattle.page.proofs.Columns.{right-decimal}
use Rattle.page.proofs.label.Goals as goal

pub returns : goal.returns
returns c = rw c.column-tens.ensures (sym (right-decimal 1 c.args.k c.requires (omega arith)))
