-- `step_bytes::rounds::next_in` meets its contract.
use Rattle.region.specs.Record.{record_of}
use Rattle.step_bytes.proofs.rounds.next_in.Goals as goal

pub returns : goal.returns
unfolding record_of
returns c = simp (c.next_tag.ensures, c.get_word.ensures)
