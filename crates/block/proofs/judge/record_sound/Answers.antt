-- `block::judge::record_sound` meets its contract.
use Rattle.std.proofs.Common.{◌≡◌, ◌∙◌, rules}
use Rattle.octets.specs.Test.{both}
use Rattle.region.specs.Record.{codes_known}
use Rattle.block.specs.Judge.{stated}
use Rattle.block.proofs.Judged.{judged, judged_as}
use Rattle.block.proofs.judge.record_sound.Goals as goal

pub returns-then-numbers_within : goal.returns-then-numbers_within
returns-then-numbers_within c =
    let a = c.args in
    let e : c.tables_sound.result
    ≡ both (stated a.n a.f a.c a.r.now) (both (codes_known a.r.now) (judged_as a.n a.r.now)) = search rules in
    e ∙ judged a.n a.f a.c a.r.now c.requires.1

pub returns-else-numbers_within : goal.returns-else-numbers_within
returns-else-numbers_within c =
    let a = c.args in
    let e : c.if-codes_known.value
    ≡ both (stated a.n a.f a.c a.r.now) (both (codes_known a.r.now) (judged_as a.n a.r.now)) = search rules in
    e ∙ judged a.n a.f a.c a.r.now c.requires.1
