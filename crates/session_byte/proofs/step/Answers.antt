-- `session_byte::step` meets its contract.
use mathlib.Core.Path.{refl, sym}
use native.Mathlib.Nat.{add-zero}
use borrow.Author.Tests.{eq-eqb, ne_eqb}
use Rattle.octets.proofs.Put.{put-nil}
use Rattle.input.specs.Input.{feed}
use Rattle.session_byte.specs.Byte.{stepped}
use Rattle.session_byte.proofs.step.Goals as goal

pub returns-then-x-eq10 : goal.returns-then-x-eq10
unfolding stepped
returns-then-x-eq10 c =
    let p = c.pass-stage.ensures in
    rw (
      eq-eqb c.args.x feed
          c.if-x-eq10.true,
      sym c.none.ensures,
      sym p.0,
    ) (refl, p.1, p.2, p.3)

pub returns-else-x-eq10 : goal.returns-else-x-eq10
unfolding stepped
returns-else-x-eq10 c =
    let x = c.args in
    rw (ne_eqb x.x feed c.if-x-eq10.false, sym c.push.ensures)
    (refl, refl, sym (put-nil x.out.now x.at), sym (add-zero x.at))
