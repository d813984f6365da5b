-- `frame_bytes::judge` meets its contract.
use mathlib.Core.Path.{◌≡◌}
use mathlib.Core.Bool.{false}
use lib.ListN.{length}
use Rattle.view.specs.Size.{nodes}
use Rattle.wire.specs.Codec.{front}
use Rattle.refusal.specs.Refusal.{answer}
use Rattle.record.specs.declared.Node.{Node}
use Rattle.region.specs.Record.{record_of}
use Rattle.region.proofs.Back.{SizedNode}
use Rattle.frame_bytes.specs.Judged.{verdict_after}
use Rattle.frame_bytes.proofs.Marked.{Matches}
use Rattle.frame_bytes.proofs.judge.Given as goal

-- the numbers match some record on which the rest of the frame is judged as the whole was at first
abbrev pub invariant-loop-t : goal.invariant-loop-t
invariant-loop-t l =
    (c : Node) × SizedNode c × Matches l.n l.s l.heard l.last l.top c
    × (verdict_after l.stale l.n l.s c l.t ≡ verdict_after false l.n l.s (record_of l.r) l.b) × (length l.heard ≡ nodes)
    × (length l.last ≡ nodes) × (answer l.f ≡ front l.n l.t)

abbrev pub decreases-loop-t : goal.decreases-loop-t
decreases-loop-t l = length l.t
