-- `react_bytes::stale_in` meets its contract.
use Rattle.region.specs.Record.{record_of}
use Rattle.react_bytes.proofs.stale_in.Goals as goal

pub returns : goal.returns
unfolding record_of
returns c = simp (
  c.is_stale_tag.ensures,
  c.heard_in.ensures,
  c.tag_in.ensures,
  c.get_word.ensures,
)
