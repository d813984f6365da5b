-- `node_bytes::is_usable_in` meets its contract.
use mathlib.Core.Path.{sym, ◌∙◌}
use Rattle.node_bytes.proofs.Admitted.{not_within, own-sound}
use Rattle.node_bytes.proofs.is_usable_in.Goals as goal

pub record_sound-requires : goal.record_sound-requires
record_sound-requires c =
    (c.requires, sym c.sizes_within.ensures ∙ c.if-sizes_within.true)

pub returns-then-sizes_within : goal.returns-then-sizes_within
returns-then-sizes_within c =
    c.record_sound.ensures
    ∙ own-sound c.args.r.now c.get_word-n.ensures c.get_word-f.ensures
    c.get_word-own.ensures

pub returns-else-sizes_within : goal.returns-else-sizes_within
returns-else-sizes_within c =
    c.if-sizes_within.false
    ∙ not_within c.args.r.now c.get_word-n.ensures c.get_word-f.ensures
    c.get_word-own.ensures
    (sym c.sizes_within.ensures ∙ c.if-sizes_within.false)
