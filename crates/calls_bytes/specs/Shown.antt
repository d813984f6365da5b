-- The view of a scan that has ended, in lent bytes. Assumes nothing.
use Rattle.std.specs.Prelude.{ℕ, List}
use Rattle.octets.specs.Bytes.{put}
use Rattle.view.specs.Size.{nodes}
use Rattle.view.specs.View.{view_bytes}
use Rattle.step.specs.Told.{Told, refusal, nothing, done, scan, spent}

-- The lent view after a call or an event: an entry for each of sixteen nodes where a scan ended, and else as it was.
abbrev pub event_view : Told → List ℕ → List ℕ
event_view (refusal k) out = out
event_view nothing out = out
event_view done out = out
event_view (scan v) out = put out 0 (view_bytes nodes v)
event_view (spent k) out = out
