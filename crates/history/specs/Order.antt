-- Demand 3 of document 01, as two claims about a trace: there is one single order of its operations, and where no
-- message waits for a standing node, no operation is open.
use Rattle.std.specs.Prelude.{ℕ, ◌<◌, ◌≤◌, ◌≡◌, ◌↔◌, false, List, [], ◌∷◌, length}
use Rattle.std.proofs.Math.Decide.{ℕ_discrete}
use Rattle.logs.specs.Log.{◌∈◌}
use Rattle.order.specs.Sequence.{Once, before}
use Rattle.history.specs.Message.{Entry, absent}
use Rattle.history.specs.Event.{none, done, shown, spent}
use Rattle.history.specs.Trace.{Trace, Begun, nothing, updating, scanning, begun, Fate, unfinished, ended, fate}
use Rattle.history.specs.Trace.{tag_at, writes_by, scan_view, entry_at, stopped, waits}

-- w is the number of a node.
abbrev pub OneTo : ℕ → ℕ → Type 0
OneTo n w = (1 ≤ w) × (w ≤ n)

abbrev pub Finished : Fate → Type 0
Finished unfinished = ⊥
Finished (ended k e) = Unit {0}

abbrev pub IsScan : Begun → Type 0
IsScan nothing = ⊥
IsScan (updating c p) = ⊥
IsScan (scanning c) = Unit {0}

-- The operation at index s is a finished scan whose view has tag t and report p at node c: it shows the update of node
-- c with that tag and report. An update without a tag is shown by none.
pub record Shows (tr : Trace) (s c t p : ℕ) : Type 0 where
  pub scan : IsScan (begun tr s)
  pub finished : Finished (fate tr s)
  pub tagged : 0 < t
  pub entry : entry_at (scan_view (fate tr s)) c ≡ record { tag = t; report = p }

-- An operation that has finished ended as its kind does: an update is done, with a view that its client is not given,
-- or it is spent; a scan shows its view. A view has an entry for each of the n nodes.
abbrev pub EndsInKind : ℕ → Begun → Fate → Type 0
EndsInKind n nothing x = Unit {0}
EndsInKind n (updating c p) unfinished = Unit {0}
EndsInKind n (updating c p) (ended k none) = ⊥
EndsInKind n (updating c p) (ended k (done r v)) = length v ≡ n
EndsInKind n (updating c p) (ended k (shown r v)) = ⊥
EndsInKind n (updating c p) (ended k spent) = Unit {0}
EndsInKind n (scanning c) unfinished = Unit {0}
EndsInKind n (scanning c) (ended k none) = ⊥
EndsInKind n (scanning c) (ended k (done r v)) = ⊥
EndsInKind n (scanning c) (ended k (shown r v)) = length v ≡ n
EndsInKind n (scanning c) (ended k spent) = ⊥

-- What has a place in the order: a finished scan, an update that is done, and an unfinished update that some finished
-- scan shows. A spent update has none.
abbrev pub PlacedBy : Trace → ℕ → Begun → Fate → Type 0
PlacedBy tr t nothing x = ⊥
PlacedBy tr t (scanning c) x = Finished x
PlacedBy tr t (updating c p) unfinished = (s : ℕ) × Shows tr s c (tag_at tr t c) p
PlacedBy tr t (updating c p) (ended k none) = ⊥
PlacedBy tr t (updating c p) (ended k (done r v)) = Unit {0}
PlacedBy tr t (updating c p) (ended k (shown r v)) = ⊥
PlacedBy tr t (updating c p) (ended k spent) = ⊥

abbrev pub Placed : Trace → ℕ → Type 0
Placed tr t = PlacedBy tr t (begun tr t) (fate tr t)

-- What node w has written last when the operations of a line have been done one after the other.
unfoldable pub written : Trace → ℕ → List ℕ → Entry → Entry
written tr w [] old = old
written tr w (t ∷ l) old = written tr w l (writes_by tr t w (begun tr t) old)

-- The operation ended before index t.
abbrev pub EndedBefore : Fate → ℕ → Type 0
EndedBefore unfinished t = ⊥
EndedBefore (ended k e) t = k < t

-- One single order: each operation that has finished ended as its kind does,
pub record SingleOrder (n : ℕ) (tr : Trace) : Type 0 where
  pub kinds : (t : ℕ) → EndsInKind n (begun tr t) (fate tr t)
  -- and there is a line of operations such that
  pub line : List ℕ
  -- each stands once,
  pub once : Once line
  -- just those that have a place stand in it,
  pub members : (t : ℕ) → (t ∈ line) ↔ Placed tr t
  -- each update in it has a tag,
  pub tagged : (t c p : ℕ) → t ∈ line → begun tr t ≡ updating c p → 0 < tag_at tr t c
  -- each scan shows of every node the last update before it, and no report where there is none,
  pub legal : (s : ℕ) → s ∈ line → IsScan (begun tr s) → (w : ℕ) → OneTo n w
      → entry_at (scan_view (fate tr s)) w ≡ written tr w (before ℕ_discrete s line) absent
  -- and what ended before another began stands before it.
  pub timely : (a b : ℕ) → a ∈ line → b ∈ line → EndedBefore (fate tr a) b → a ∈ before ℕ_discrete b line

-- The operation at index t is not open: it has finished, or its node has stopped.
abbrev pub ClosedBy : Trace → ℕ → Begun → Type 0
ClosedBy tr t nothing = Unit {0}
ClosedBy tr t (updating c p) = stopped tr c ≡ false → Finished (fate tr t)
ClosedBy tr t (scanning c) = stopped tr c ≡ false → Finished (fate tr t)

-- No message waits for a standing node.
abbrev pub NothingWaits : ℕ → Trace → Type 0
NothingWaits n tr = (a b : ℕ) → OneTo n a → OneTo n b → stopped tr b ≡ false → waits tr a b ≡ []

-- Where no message waits for a standing node, no operation is open.
abbrev pub Quiet : ℕ → Trace → Type 0
Quiet n tr = NothingWaits n tr → (t : ℕ) → ClosedBy tr t (begun tr t)
