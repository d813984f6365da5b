-- What is claimed of a step, each claim under a name; proofs/Theorems proves them. f, how many nodes may stop, is any
-- number, and any below n where it says so.
-- Assumes nothing.
use Rattle.std.specs.Prelude.{◌≡◌, true, false, ◌⊎◌, [], ◌∷◌, ℕ, ◌+◌, ◌≤◌, ◌<◌, max, length}
use Rattle.view.specs.Size.{nodes}
use Rattle.view.specs.View.{AbsentPast}
use Rattle.view.specs.declared.Report.{Report}
use Rattle.view.specs.declared.View.{View}
use Rattle.wire.specs.declared.Message.{Message}
use Rattle.wire.specs.declared.Message.TheVariants.{Read, ReadAnswer, WriteAnswer, Value}
use Rattle.table.specs.Quorum.{member, with, members_in}
use Rattle.record.specs.Record.{with_wait}
use Rattle.record.specs.Usable.{is_open, full, usable}
use Rattle.record.specs.declared.Node.{Node}
use Rattle.record.specs.declared.Operation.{Operation}
use Rattle.record.specs.declared.Kind.{Kind}
use Rattle.record.specs.declared.Wait.TheVariants.{Reading, Writing}
use Rattle.step.specs.declared.Sent.TheVariants.{Nothing}
use Rattle.step.specs.declared.Ending.TheVariants.{None}
use Rattle.step.specs.Allowed.{lawful}
use Rattle.step.specs.Claims.{Long, AllLawful, sizes, step_most, MustWait, Echoed, is_reading, is_writing}
use Rattle.step.specs.Step.{messages, started}
use Rattle.step.specs.React.{react}
use Rattle.step.specs.Move.{message_step, begin_step}

-- ---- a message of a sender from 1 to n, of the layout, at a usable record

abbrev pub AtUsable : ((f : ℕ) (c : Node) (s : ℕ) (m : Message) (v : View) → Type 0) → Type 0
AtUsable P =
    (f : ℕ) (c : Node) (s : ℕ) (m : Message) (v : View) → usable c ≡ true → lawful c.n m v ≡ true → Long c → 1 ≤ s
    → s ≤ c.n → P f c s m v

-- The record after the step is usable.
abbrev pub MessageUsable : Type 0
MessageUsable = AtUsable (λ f c s m v. usable (message_step f c s m v).node ≡ true)

-- Every message sent is of the layout.
abbrev pub MessageLawful : Type 0
MessageLawful =
    AtUsable (λ f c s m v.
    AllLawful c.n (message_step f c s m v).outbox.view (messages (message_step f c s m v).outbox))

-- At most four messages are sent, and of so many bytes that the output buffer holds them.
abbrev pub MessageFits : Type 0
MessageFits =
    AtUsable (λ f c s m v.
    f < c.n → (length (messages (message_step f c s m v).outbox) ≤ 4)
    × (sizes c.n (messages (message_step f c s m v).outbox) ≤ step_most))

-- ---- a message at any record

-- The record stays one of n nodes.
abbrev pub MessageKeepsN : Type 0
MessageKeepsN = (f : ℕ) (c : Node) (s : ℕ) (m : Message) (v : View) → (message_step f c s m v).node.n ≡ c.n

-- The view beside an ending has nothing past the record's n, whatever the record holds there.
abbrev pub MessageAbsent : Type 0
MessageAbsent = (f : ℕ) (c : Node) (s : ℕ) (m : Message) (v : View) → c.n ≤ nodes
    → AbsentPast c.n (message_step f c s m v).view

-- After a step the open operation must wait.
abbrev pub MessageWaits : Type 0
MessageWaits = (f : ℕ) (c : Node) (s : ℕ) (m : Message) (v : View) → f < c.n
    → MustWait f (message_step f c s m v).node (message_step f c s m v).node.wait

-- A value never changes maxtag.
abbrev pub ValueKeepsMaxtag : Type 0
ValueKeepsMaxtag = (f : ℕ) (c : Node) (s t w : ℕ) (p : Report) (v : View)
    → (message_step f c s (Value t w p) v).node.maxtag ≡ c.maxtag

-- Amendment 1: whenever maxtag grows, an echo of it is the first message sent.
abbrev pub GrowthEchoed : Type 0
GrowthEchoed = (f : ℕ) (c : Node) (s : ℕ) (m : Message) (v : View)
    → Echoed c.maxtag (message_step f c s m v).node.maxtag (messages (message_step f c s m v).outbox)

-- ---- amendment 2: which answers count

-- One that is not awaited, or has another number than the current one, changes nothing and sends nothing.
abbrev pub ReadUnawaited : Type 0
ReadUnawaited = (c : Node) (s q t : ℕ) (v : View) → (is_reading c.wait ≡ false) ⊎ (q ≡ c.request → ⊥)
    → react c s (ReadAnswer q t) v ≡ started c s Nothing

abbrev pub WriteUnawaited : Type 0
WriteUnawaited = (c : Node) (s q t : ℕ) (v : View) → (is_writing c.wait ≡ false) ⊎ (q ≡ c.request → ⊥)
    → react c s (WriteAnswer q t) v ≡ started c s Nothing

-- A write answer with another tag than the written one does not count.
abbrev pub WriteOtherTag : Type 0
WriteOtherTag = (c : Node) (s q t : ℕ) (v : View) (k : Kind) (i r a : ℕ) → c.wait ≡ Writing k i r a → (t ≡ r → ⊥)
    → react c s (WriteAnswer q t) v ≡ started c s Nothing

-- A sender that was counted is not counted again, and its answer's tag is not looked at.
abbrev pub ReadAgain : Type 0
ReadAgain = (c : Node) (s q t : ℕ) (v : View) (o : Operation) (a m : ℕ) → c.wait ≡ Reading o a m → member a s ≡ true
    → react c s (ReadAnswer q t) v ≡ started c s Nothing

abbrev pub WriteAgain : Type 0
WriteAgain = (c : Node) (s q t : ℕ) (v : View) (k : Kind) (i r a : ℕ) → c.wait ≡ Writing k i r a → member a s ≡ true
    → react c s (WriteAnswer q t) v ≡ started c s Nothing

-- Any other counts for one.
abbrev pub ReadCounts : Type 0
ReadCounts = (c : Node) (s q t : ℕ) (v : View) (o : Operation) (a m : ℕ) → c.wait ≡ Reading o a m → q ≡ c.request
    → member a s ≡ false → 1 ≤ s → s ≤ c.n
    → (react c s (ReadAnswer q t) v ≡ started (with_wait c (Reading o (with a s) (max m t))) s Nothing)
    × (members_in c.n (with a s) ≡ members_in c.n a + 1)

abbrev pub WriteCounts : Type 0
WriteCounts = (c : Node) (s q t : ℕ) (v : View) (k : Kind) (i r a : ℕ) → c.wait ≡ Writing k i r a → q ≡ c.request
    → t ≡ r → member a s ≡ false → 1 ≤ s → s ≤ c.n
    → (react c s (WriteAnswer q t) v ≡ started (with_wait c (Writing k i r (with a s))) s Nothing)
    × (members_in c.n (with a s) ≡ members_in c.n a + 1)

-- ---- the begin of an operation, at a usable record with none open and request numbers enough

abbrev pub AtIdle : ((f : ℕ) (c : Node) (o : Operation) → Type 0) → Type 0
AtIdle P =
    (f : ℕ) (c : Node) (o : Operation) → usable c ≡ true → is_open c.wait ≡ false → full c ≡ false → P f c o

abbrev pub BeginUsable : Type 0
BeginUsable = AtIdle (λ f c o. usable (begin_step f c o).node ≡ true)

abbrev pub BeginLawful : Type 0
BeginLawful =
    AtIdle (λ f c o. AllLawful c.n (begin_step f c o).outbox.view (messages (begin_step f c o).outbox))

abbrev pub BeginFits : Type 0
BeginFits = AtIdle (λ f c o. f < c.n → sizes c.n (messages (begin_step f c o).outbox) ≤ step_most)

-- An operation never ends in its begin step, which sends one read request, with the next number.
abbrev pub BeginAsks : Type 0
BeginAsks =
    AtIdle (λ f c o. f < c.n
    → ((begin_step f c o).ending ≡ None) × (messages (begin_step f c o).outbox ≡ Read (c.request + 1) ∷ []))

abbrev pub BeginWaits : Type 0
BeginWaits = AtIdle (λ f c o. f < c.n → MustWait f (begin_step f c o).node (begin_step f c o).node.wait)

abbrev pub BeginAbsent : Type 0
BeginAbsent = (f : ℕ) (c : Node) (o : Operation) → c.n ≤ nodes → AbsentPast c.n (begin_step f c o).view

abbrev pub BeginKeepsN : Type 0
BeginKeepsN = (f : ℕ) (c : Node) (o : Operation) → (begin_step f c o).node.n ≡ c.n
