-- `block::judge::heard_sound` meets its contract: the invariant: the first i groups were judged.
use Rattle.std.proofs.Common.{◌≡◌, ◌*◌, ℕ, true, leb}
use Rattle.octets.specs.Word.{words}
use Rattle.view.specs.Size.{limit}
use Rattle.table.specs.Loop.{all}
use Rattle.table.specs.Table.{at, cells}
use Rattle.region.specs.Record.{heard_place}
use Rattle.block.specs.Judge.{group}
use Rattle.block.proofs.judge.heard_sound.Given as goal

abbrev pub invariant-loop-i : goal.invariant-loop-i
invariant-loop-i l = all (group * l.i) (λ (k : ℕ). leb (at (words cells l.r heard_place) k) limit) ≡ true
