-- `step_bytes::rounds::lend_in` meets its contract.
use mathlib.Core.Path.{◌∙◌}
use Rattle.region.specs.Record.{record_of, kept_in}
use Rattle.step_bytes.proofs.Turned.{places_of}
use Rattle.step_bytes.proofs.rounds.lend_in.Goals as goal

pub returns : goal.returns
unfolding record_of
returns c =
    let view = c.load_view-view.ensures ∙ places_of c.args.r.now kept_in c.requires.1 in
    let bytes = c.close_in.ensures in
    (simp (c.rested.ensures, c.ending_of.ensures, view), bytes)
