-- `session_byte::pass` meets its contract.
use mathlib.Core.Path.{refl, sym, ap}
use native.Mathlib.Nat.{add-zero}
use Rattle.octets.proofs.Put.{put-nil}
use Rattle.session_byte.specs.Memory.{line_effect}
use Rattle.session_progress.specs.declared.Stage.TheVariants.{Events}
use Rattle.session_byte.proofs.pass.Goals as goal

pub returns-in-First : goal.returns-in-First
unfolding line_effect
returns-in-First c = rw (
  c.in-First.is,
  sym
      c.first.ensures,
)
    c.first_line.ensures

pub returns-in-Events : goal.returns-in-Events
unfolding line_effect
returns-in-Events c =
    let r = c.run_in.ensures in
    rw (c.in-Events.is, sym c.event.ensures)
    (ap (λ k. Events c.in-Events.nodes k) c.next.ensures, r.0, r.1, r.2)

pub returns-in-Over : goal.returns-in-Over
unfolding line_effect
returns-in-Over c =
    let x = c.args in
    rw c.in-Over.is (refl, refl, sym (put-nil x.out.now x.at), sym (add-zero x.at))
