-- `page::put_digits` meets its contract.
use borrow.Author.Rules.{rules}
use mathlib.Core.Path.{refl}
use native.Mathlib.Omega.{arith}
use lib.ListN.{length-set}
use Rattle.page.proofs.Digits.{written_none, written-room, written-more, written_last}
use Rattle.page.proofs.put_digits.Goals as goal

pub loop-y-init : goal.loop-y-init
loop-y-init c =
    let a = c.args in
    (written_none a.out.now a.end a.x (search rules), refl, omega arith)

pub overflow_sub-k : goal.overflow_sub-k
overflow_sub-k c =
    let a = c.args in
    omega (
      arith,
      written-room a.out.now a.end a.x c.loop-y.out c.loop-y.k c.loop-y.y c.loop-y.invariant.0 c.requires.0
          c.requires.1,
    )

pub bounds-out-k : goal.bounds-out-k
bounds-out-k c =
    let a = c.args in
    omega (
      arith,
      written-room a.out.now a.end a.x c.loop-y.out c.loop-y.k c.loop-y.y c.loop-y.invariant.0 c.requires.0
          c.requires.1,
      c.loop-y.invariant.1,
      c.loop-y.invariant.2,
      c.requires.1,
    )

pub loop-y-preserved : goal.loop-y-preserved
loop-y-preserved c =
    let a = c.args in (
      written-more a.out.now a.end a.x c.loop-y.out c.loop-y.k c.loop-y.y c.loop-y.invariant.0 c.requires.0 c.requires.1
          c.loop-y-test.true,
      simp length-set c.loop-y.invariant.1,
      omega (arith, c.loop-y.invariant.2),
    )

pub overflow_sub-out : goal.overflow_sub-out
overflow_sub-out c =
    let a = c.args in
    omega (
      arith,
      written-room a.out.now a.end a.x c.loop-y.out c.loop-y.k c.loop-y.y c.loop-y.invariant.0 c.requires.0
          c.requires.1,
    )

pub bounds-out-k-2 : goal.bounds-out-k-2
bounds-out-k-2 c =
    let a = c.args in
    omega (
      arith,
      written-room a.out.now a.end a.x c.loop-y.out c.loop-y.k c.loop-y.y c.loop-y.invariant.0 c.requires.0
          c.requires.1,
      c.loop-y.invariant.1,
      c.loop-y.invariant.2,
      c.requires.1,
    )

pub shape_of-out : goal.shape_of-out
shape_of-out c = simp length-set c.loop-y.invariant.1

pub returns : goal.returns
returns c =
    let a = c.args in
    written_last a.out.now a.end a.x c.loop-y.out c.loop-y.k c.loop-y.y c.loop-y.invariant.0 c.requires.0 c.requires.1
    (omega arith)
