-- The words in which specs/Theorems says what is claimed of a step.
-- Assumes nothing.
use Rattle.std.specs.Prelude.{◌≡◌, Bool, true, false, ◌⊎◌, List, [], ◌∷◌, ℕ, ◌+◌, ◌<◌, max, leb, length}
use Rattle.view.specs.declared.View.{View}
use Rattle.view.specs.Size.{nodes}
use Rattle.wire.specs.Layout.{one_size, two_size, value_size, good_size, message_size}
use Rattle.wire.specs.declared.Message.{Message}
use Rattle.wire.specs.declared.Message.TheVariants.{Echo}
use Rattle.table.specs.Quorum.{members_in, is_quorum}
use Rattle.record.specs.declared.Node.{Node}
use Rattle.record.specs.declared.Wait.{Wait}
use Rattle.record.specs.declared.Wait.TheVariants.{Idle, Reading, Writing, Comparing, Borrowing}
use Rattle.step.specs.Allowed.{lawful}
use Rattle.step.specs.Move.{agreement}

-- the tables that a value is stored in have the length that their type says
pub record Long (c : Node) : Type 0 where
  pub last : (length c.last.tags ≡ nodes) × (length c.last.reports ≡ nodes)
  pub atmax : (length c.atmax.tags ≡ nodes) × (length c.atmax.reports ≡ nodes)
  pub atround : (length c.atround.tags ≡ nodes) × (length c.atround.reports ≡ nodes)

-- every message of a list is of the layout for n nodes, the good ones with the view v
abbrev pub AllLawful : ℕ → View → List Message → Type 0
AllLawful n v [] = Unit {0}
AllLawful n v (m ∷ ms) = (lawful n m v ≡ true) × AllLawful n v ms

-- how many bytes the messages of a list have together
abbrev pub sizes : ℕ → List Message → ℕ
sizes n [] = 0
sizes n (m ∷ ms) = message_size n m + sizes n ms

-- The most bytes that each part of a step sends: a handler an echo and a write answer, or a value; after a quorum of
-- read answers a value and a write; after agreement a good message and a write. Of the last two one is empty.
abbrev pub handler_most : ℕ
handler_most = max (one_size + two_size) value_size

abbrev pub reading_most : ℕ
reading_most = value_size + two_size

abbrev pub comparing_most : ℕ → ℕ
comparing_most n = good_size n + two_size

-- the most bytes of a whole step: 341
abbrev pub step_most : ℕ
step_most = handler_most + max reading_most (comparing_most nodes)

-- the open operation must wait: there is no quorum of what it waits for, or no good message to borrow from
abbrev pub MustWait : ℕ → Node → Wait → Type 0
MustWait f c Idle = Unit {0}
MustWait f c (Reading o a m) = is_quorum c.n f (members_in c.n a) ≡ false
MustWait f c (Writing k i r a) = is_quorum c.n f (members_in c.n a) ≡ false
MustWait f c (Comparing k i r) = agreement f c ≡ false
MustWait f c (Borrowing k r) = leb r c.kept ≡ false

-- whether read answers are awaited, or write answers
abbrev pub is_reading : Wait → Bool
is_reading Idle = false
is_reading (Reading o a m) = true
is_reading (Writing k i r a) = false
is_reading (Comparing k i r) = false
is_reading (Borrowing k r) = false

abbrev pub is_writing : Wait → Bool
is_writing Idle = false
is_writing (Reading o a m) = false
is_writing (Writing k i r a) = true
is_writing (Comparing k i r) = false
is_writing (Borrowing k r) = false

-- maxtag stays, or it grows and an echo of it is the first message
abbrev pub Echoed : ℕ → ℕ → List Message → Type 0
Echoed old new ms = (new ≡ old) ⊎ ((old < new) × ((rest : List Message) × (ms ≡ Echo new ∷ rest)))
