-- Document 01's words for the tag of an update, of the code's own trace: in every run on lent bytes they fit one number
-- at most, which is the tag, and the tags of a node rise.
use Rattle.std.specs.Prelude.{ℕ, ◌+◌, ◌<◌, ◌≡◌, List, length}
use Rattle.view.specs.Size.{nodes}
use Rattle.layout.specs.Layout.{cluster_size}
use Rattle.history.specs.Order.{OneTo}
use Rattle.history.specs.Tags.{TagsAsWorded}
use Rattle.mirror.specs.Run.{Event, trace_of}

abbrev pub TagsOfCode : Type 0
TagsOfCode = (n f : ℕ) → OneTo nodes n → f + f < n → (b : List ℕ) → length b ≡ cluster_size n → (es : List Event)
    → TagsAsWorded (trace_of n f b es)
