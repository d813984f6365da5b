-- `outgoing::entries::slot_of` meets its contract.
use mathlib.Core.Path.{sym, ◌∙◌}
use Rattle.outgoing.proofs.Slot.{slot-put}
use Rattle.outgoing.proofs.entries.slot_of.Goals as goal

pub returns : goal.returns
returns c =
    let x = c.args in
    let p = c.requires in
    c.write_slot.ensures ∙ sym (slot-put x.n x.m x.v p.0 p.1)
