-- `step_bytes::is_full_in` meets its contract.
use Rattle.region.specs.Record.{record_of}
use Rattle.step_bytes.proofs.is_full_in.Goals as goal

pub returns : goal.returns
unfolding record_of
returns c = simp (c.saturating_sub.ensures, c.get_word.ensures)
