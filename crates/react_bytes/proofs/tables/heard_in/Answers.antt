-- `react_bytes::tables::heard_in` meets its contract.
use mathlib.Core.Path.{◌∙◌}
use Rattle.react_bytes.proofs.Sections.{heard-read}
use Rattle.react_bytes.proofs.tables.heard_in.Goals as goal

pub returns : goal.returns
returns c =
    let a = c.args in
    c.get_word.ensures ∙ heard-read a.r.now a.s a.w c.requires.1 c.requires.2
    c.requires.3 c.requires.4
