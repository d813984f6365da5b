-- `emit::emit_parts` meets its contract. Assumes nothing.
use mathlib.Core.Path.{◌∙◌}
use Rattle.step.specs.Step.{listed}
use Rattle.emit.proofs.Runs.{room_as, room-first, room-second, room-third, three-long, three-put}
use Rattle.emit.proofs.emit_parts.Goals as goal

pub emit_first-first-requires : goal.emit_first-first-requires
emit_first-first-requires c =
    let a = c.args in (
      c.requires.0,
      room-first a.n a.v.now (listed a.handler) (listed a.reading) (listed a.comparing) _ c.requires.1,
    )

pub emit_sent-second-requires : goal.emit_sent-second-requires
emit_sent-second-requires c =
    let a = c.args in
    room_as a.n a.v.now (listed a.reading) _ c.emit_first-first.auto.out
    (room-second a.n a.v.now (listed a.handler) (listed a.reading) (listed a.comparing) _ c.requires.1 _
    c.emit_first-first.ensures.0)

pub emit_sent-requires : goal.emit_sent-requires
emit_sent-requires c =
    let a = c.args in
    room_as a.n a.v.now (listed a.comparing) _ (c.emit_sent-second.auto.out ∙ c.emit_first-first.auto.out)
    (room-third a.n a.v.now (listed a.handler) (listed a.reading) (listed a.comparing) _
    c.requires.1 _ c.emit_first-first.ensures.0 _ c.emit_sent-second.ensures.0)

pub returns : goal.returns
returns c =
    let a = c.args in
    let p = c.requires.1 in
    let first = c.emit_first-first.ensures in
    let second = c.emit_sent-second.ensures in
    let third = c.emit_sent.ensures in (
      three-long a.n a.v.now (listed a.handler) (listed a.reading) (listed a.comparing) _ p _ first.0
          _ second.0 _ third.0,
      three-put a.n a.v.now (listed a.handler) (listed a.reading) (listed a.comparing) _ p _ first.0
          _ second.0 a.out.now _ _ _ first.1 second.1 third.1,
    )
