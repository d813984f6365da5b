-- `page::put_count` meets its contract.
use borrow.Author.Rules.{rules}
use Prim.Native.Nat.{◌≤◌}
use native.Mathlib.Omega.{arith}
use lib.ListN.{length}
use Rattle.digits.specs.Decimal.{decimal}
use Rattle.page.specs.Page.{count_width}
use Rattle.page.proofs.Lines.{digits-most, cell-put}
use Rattle.page.proofs.put_count.Goals as goal

pub put_digits-requires : goal.put_digits-requires
put_digits-requires c =
    let l : length (decimal c.args.x) ≤ count_width =
    digits-most count_width c.args.x c.requires.0 (omega arith) in
    (omega arith, search rules)

pub returns : goal.returns
returns c =
    let a = c.args in
    cell-put a.out.now a.at (decimal a.x) (digits-most count_width a.x c.requires.0 (omega arith)) c.requires.1
    c.put_bytes.ensures c.put_digits.ensures
