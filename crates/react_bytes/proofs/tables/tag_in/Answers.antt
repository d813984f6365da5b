-- `react_bytes::tables::tag_in` meets its contract.
use mathlib.Core.Path.{◌∙◌}
use Rattle.react_bytes.proofs.Sections.{tag_read}
use Rattle.react_bytes.proofs.tables.tag_in.Goals as goal

pub returns : goal.returns
returns c = let a = c.args in c.get_word.ensures
    ∙ tag_read a.r.now a.i a.w c.requires.2 c.requires.3
