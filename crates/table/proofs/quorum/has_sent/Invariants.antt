-- `table::quorum::has_sent` meets its contract: the invariant: the first w writers were judged. Assumes nothing.
use Rattle.std.proofs.Common.{◌≡◌, leb, ℕ}
use Rattle.table.specs.Loop.{all}
use Rattle.table.specs.Table.{at, heard_of}
use Rattle.table.proofs.quorum.has_sent.Given as goal

abbrev pub invariant-loop-w : goal.invariant-loop-w
invariant-loop-w l = l.ok ≡ all l.w (λ (i : ℕ). leb (at l.held i) (heard_of l.heard l.s i))
