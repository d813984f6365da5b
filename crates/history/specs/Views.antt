-- What else a reader may want to know of the views in a trace.
use Rattle.std.specs.Prelude.{ℕ, ◌≤◌, ◌<◌, ◌≡◌, ◌⊎◌, []}
use Rattle.logs.specs.Log.{◌∈◌}
use Rattle.history.specs.Message.{absent, View, good}
use Rattle.history.specs.Event.{none, done, shown, spent}
use Rattle.history.specs.Trace.{Trace, updating, begun, Fate, unfinished, ended, fate, tag_at, scan_view, entry_at}
use Rattle.history.specs.Trace.{let_out_to}
use Rattle.history.specs.Order.{OneTo, Finished, IsScan, EndedBefore}

-- The first view has of no node a larger tag than the second.
abbrev pub Below : ℕ → View → View → Type 0
Below n v x = (w : ℕ) → OneTo n w → (entry_at v w).tag ≤ (entry_at x w).tag

-- Of each two views one is below the other.
abbrev pub Comparable : ℕ → View → View → Type 0
Comparable n v x = Below n v x ⊎ Below n x v

-- The views of any two good rounds are comparable.
abbrev pub RoundsComparable : ℕ → Trace → Type 0
RoundsComparable n tr = (a b c d t u : ℕ) (v x : View) → good t v ∈ let_out_to tr a b → good u x ∈ let_out_to tr c d
    → Comparable n v x

-- Where no update was begun, every scan shows no report of any node.
abbrev pub ShowsAbsence : ℕ → Trace → Type 0
ShowsAbsence n tr = ((u c p : ℕ) → ¬ (begun tr u ≡ updating c p)) → (s : ℕ) → IsScan (begun tr s) → Finished (fate tr s)
    → (w : ℕ) → OneTo n w → entry_at (scan_view (fate tr s)) w ≡ absent

-- The operation ended with a view, an update or a scan, and the view; the empty one for all else.
abbrev pub HasView : Fate → Type 0
HasView unfinished = ⊥
HasView (ended k none) = ⊥
HasView (ended k (done r v)) = Unit {0}
HasView (ended k (shown r v)) = Unit {0}
HasView (ended k spent) = ⊥

abbrev pub end_view : Fate → View
end_view unfinished = []
end_view (ended k none) = []
end_view (ended k (done r v)) = v
end_view (ended k (shown r v)) = v
end_view (ended k spent) = []

-- The view of an operation has every update that ended before it began.
abbrev pub HasEarlier : Trace → Type 0
HasEarlier tr = (u c p t : ℕ) → begun tr u ≡ updating c p → 0 < tag_at tr u c → EndedBefore (fate tr u) t
    → HasView (fate tr t) → tag_at tr u c ≤ (entry_at (end_view (fate tr t)) c).tag
