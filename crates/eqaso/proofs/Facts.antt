-- What has to be true of the operations in a book for one single order to exist, and what a step of the algorithm owes
-- at each of the three moments at which the book changes.
use Prim.Native.Nat.{ℕ, ◌≤◌, ◌<◌}
use mathlib.Core.Path.{◌≡◌}
use mathlib.Core.Logic.{◌⊎◌}
use lib.ListN.{length}
use Rattle.history.specs.Message.{Entry, absent, View}
use Rattle.history.specs.Event.{none, done, shown, spent}
use Rattle.history.specs.Trace.{Begun, nothing, updating, scanning, Fate, unfinished, ended, entry_at}
use Rattle.history.specs.Order.{OneTo, EndedBefore}
use Rattle.history.specs.Views.{HasView, end_view, Below, Comparable}
use Rattle.eqaso.proofs.Book.{Book, At}

-- What a view has of node w: nothing, or the tag and report of an update of w.
abbrev pub Place : Book → ℕ → Entry → Type 0
Place B w e = (e ≡ absent)
    ⊎ ((u : ℕ) × (p : ℕ) × (B.begun u ≡ updating w p) × (0 < B.tag u) × (e ≡ record { tag = B.tag u; report = p }))

-- If the view has the update x, it has every update that ended before x began.
abbrev pub Closed : Book → View → Type 0
Closed B v = (u x c d p q : ℕ) → B.begun u ≡ updating c p → B.begun x ≡ updating d q → EndedBefore (B.fate u) x
    → 0 < B.tag x → B.tag x ≤ (entry_at v d).tag → B.tag u ≤ (entry_at v c).tag

-- What began, how it ended and its tag go together. An operation is of a node from 1 to n. Only an update has a tag:
-- one that is done has a tag, and its view has it; one that is spent has none. A scan ends by showing its view.
abbrev pub Fit : ℕ → Begun → Fate → ℕ → Type 0
Fit n nothing x s = (x ≡ unfinished) × (s ≡ 0)
Fit n (scanning c) unfinished s = OneTo n c × (s ≡ 0)
Fit n (scanning c) (ended k none) s = ⊥
Fit n (scanning c) (ended k (done r v)) s = ⊥
Fit n (scanning c) (ended k (shown r v)) s = OneTo n c × (s ≡ 0)
Fit n (scanning c) (ended k spent) s = ⊥
Fit n (updating c p) unfinished s = OneTo n c
Fit n (updating c p) (ended k none) s = ⊥
Fit n (updating c p) (ended k (done r v)) s = OneTo n c × (0 < s) × (s ≤ (entry_at v c).tag)
Fit n (updating c p) (ended k (shown r v)) s = ⊥
Fit n (updating c p) (ended k spent) s = OneTo n c × (s ≡ 0)

-- An operation ends after its begin, and before the index at which the book stands.
abbrev pub Between : ℕ → ℕ → Fate → Type 0
Between t now unfinished = Unit {0}
Between t now (ended k e) = (t < k) × (k < now)

pub record Facts (n now : ℕ) (B : Book) : Type 0 where
  pub fit : (t : ℕ) → Fit n (B.begun t) (B.fate t) (B.tag t)
  pub blank : (t : ℕ) → now ≤ t → B.begun t ≡ nothing
  pub between : (t : ℕ) → Between t now (B.fate t)
  -- The operations of one node follow each other.
  pub apart : (a b c : ℕ) → At (B.begun a) c → At (B.begun b) c → a < b → EndedBefore (B.fate a) b
  -- A view has an entry for each node, and of each two views one is below the other.
  pub sized : (a : ℕ) → HasView (B.fate a) → length (end_view (B.fate a)) ≡ n
  pub chain : (a b : ℕ) → HasView (B.fate a) → HasView (B.fate b)
      → Comparable n (end_view (B.fate a)) (end_view (B.fate b))
  pub places : (a : ℕ) → HasView (B.fate a) → (w : ℕ) → OneTo n w → Place B w (entry_at (end_view (B.fate a)) w)
  pub closed : (a : ℕ) → HasView (B.fate a) → Closed B (end_view (B.fate a))
  -- What ended before another began has the smaller view, and the smaller tag.
  pub grows : (a b : ℕ) → EndedBefore (B.fate a) b → HasView (B.fate a) → HasView (B.fate b)
      → Below n (end_view (B.fate a)) (end_view (B.fate b))
  pub rises : (u x c d p q : ℕ) → B.begun u ≡ updating c p → B.begun x ≡ updating d q → EndedBefore (B.fate u) x
      → 0 < B.tag x → B.tag u < B.tag x
  -- A view that was there when an update began has not got that update.
  pub unseen : (a u c p : ℕ) → B.begun u ≡ updating c p → EndedBefore (B.fate a) u → HasView (B.fate a)
      → 0 < B.tag u → (entry_at (end_view (B.fate a)) c).tag < B.tag u

-- Owed when the update at t gets tag s: s is above the tags of the updates that ended before it began.
pub record TagDue (B : Book) (t s : ℕ) : Type 0 where
  pub positive : 0 < s
  pub above : (u d p : ℕ) → B.begun u ≡ updating d p → EndedBefore (B.fate u) t → B.tag u < s

-- Owed when the operation at t ends with view v.
pub record ViewDue (n : ℕ) (B : Book) (t : ℕ) (v : View) : Type 0 where
  pub sized : length v ≡ n
  pub chain : (a : ℕ) → HasView (B.fate a) → Comparable n (end_view (B.fate a)) v
  pub grows : (a : ℕ) → EndedBefore (B.fate a) t → HasView (B.fate a) → Below n (end_view (B.fate a)) v
  pub places : (w : ℕ) → OneTo n w → Place B w (entry_at v w)
  pub closed : Closed B v

-- Owed besides by an update: its view has it.
pub record OwnDue (B : Book) (t c : ℕ) (v : View) : Type 0 where
  pub tagged : 0 < B.tag t
  pub held : B.tag t ≤ (entry_at v c).tag
