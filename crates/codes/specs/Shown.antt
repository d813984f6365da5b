-- What is claimed of the lent view where a delivery, or a message or a frame at one node, ends a scan, on any bytes:
-- past the entries of the n nodes that they state it is zeros, up to its sixteenth place.
use Rattle.std.specs.Prelude.{ℕ, ◌-◌, ◌*◌, ◌≡◌, List, length, drop, replicate}
use Rattle.octets.specs.Answer.{returned}
use Rattle.view.specs.Size.{nodes, entry_size}
use Rattle.step.specs.declared.Rule.{Rule}
use Rattle.step.specs.declared.Ending.TheVariants.{Scan}
use Rattle.region.specs.Record.{record_of}
use Rattle.layout.specs.Layout.{stated}
use Rattle.outgoing.specs.declared.Extent.{Extent}
use Rattle.events.specs.Event.{deliver}
use Rattle.events.specs.Outcome.{told_of}
use Rattle.calls_bytes.specs.Entry.{message}
use Rattle.calls_bytes.specs.Frame.{frame}
use Rattle.calls_bytes.specs.Shown.{event_view}

abbrev pub ZeroPast : Type 0
ZeroPast = (a c : ℕ) (x : Extent) (b view : List ℕ) (r : Rule) → length view ≡ entry_size * nodes
    → (deliver a c x b).answer ≡ returned (Scan r)
    → drop (entry_size * stated b) (event_view (told_of (deliver a c x b)) view)
    ≡ replicate (entry_size * (nodes - stated b)) 0

abbrev pub NodeZeroPast : Type 0
NodeZeroPast = (r : List ℕ) (s : ℕ) (b out view : List ℕ) (x : Rule) → length view ≡ entry_size * nodes
    → (message r s b out).ending ≡ returned (Scan x)
    → drop (entry_size * (record_of r).n) (event_view (message r s b out).answer view)
    ≡ replicate (entry_size * (nodes - (record_of r).n)) 0

abbrev pub FrameZeroPast : Type 0
FrameZeroPast = (r : List ℕ) (s : ℕ) (b out view : List ℕ) (x : Rule) → length view ≡ entry_size * nodes
    → (frame r s b out).ending ≡ returned (Scan x)
    → drop (entry_size * (record_of r).n) (event_view (frame r s b out).answer view)
    ≡ replicate (entry_size * (nodes - (record_of r).n)) 0
