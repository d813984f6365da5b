-- `frame_bytes::take_all` meets its contract.
use mathlib.Core.Path.{◌≡◌}
use lib.ListN.{length}
use Rattle.wire.specs.Codec.{front}
use Rattle.refusal.specs.Refusal.{answer}
use Rattle.step.specs.Told.{Told}
use Rattle.calls_bytes.specs.Frame.{one_by_one}
use Rattle.calls_bytes.specs.Shown.{event_view}
use Rattle.frame_bytes.proofs.Taking.{so, Along}
use Rattle.frame_bytes.proofs.take_all.Given as goal

abbrev pub invariant-loop-t : goal.invariant-loop-t
invariant-loop-t l =
    (tell : Told) × Along l.n l.s l.t (so tell l.ending l.r l.at l.out) l.ending (one_by_one l.initial.r l.s l.b
    l.initial.out) × (l.view ≡ event_view tell
    l.initial.view)
    × (length l.out ≡ length l.initial.out) × (answer l.f ≡ front l.n l.t)

abbrev pub decreases-loop-t : goal.decreases-loop-t
decreases-loop-t l = length l.t
