-- The point on channels: the sixteenth message on a trunk is taken, the seventeenth is 11.
use Rattle.std.specs.Prelude.{ℕ, ◌+◌, ◌-◌, ◌≤◌, ◌<◌, ◌≡◌, true, false, List, eqb}
use Rattle.octets.specs.Answer.{returned}
use Rattle.octets.specs.Test.{pick, both}
use Rattle.view.specs.View.{view_of}
use Rattle.wire.specs.Codec.{front, view_at}
use Rattle.wire.specs.declared.Message.{Message}
use Rattle.wire.specs.declared.Message.TheVariants.{Read, Write}
use Rattle.table.specs.Loop.{count}
use Rattle.record.specs.Usable.{is_open, full}
use Rattle.record.specs.declared.Operation.{Operation}
use Rattle.step.specs.Move.{message_step, begin_step}
use Rattle.step.specs.Stale.{stale_message}
use Rattle.step.specs.declared.Ending.{Ending}
use Rattle.step.specs.declared.Ending.TheVariants.{None}
use Rattle.region.specs.Channel.{count_of, first}
use Rattle.outgoing.specs.Entries.{Entry, entries, go_to}
use Rattle.layout.specs.Layout.{stated, stopped, node, channel, fits, sound, faults_in}
use Rattle.events.specs.Event.{Result, refuse}
use Rattle.outgoing.specs.Outgoing.{shortened, is_cut}
use Rattle.outgoing.specs.declared.Extent.{Extent}
use Rattle.outgoing.specs.declared.Extent.TheVariants.{Whole}
use Rattle.history.specs.Order.{OneTo}
use Rattle.mirror.specs.Run as R
use Rattle.points.specs.Calls.{Calls, event}

-- ---- where no refusal before 11 applies

-- One node more may stop, if the event is cut.
abbrev pub MayCut : List ℕ → Extent → Type 0
MayCut b x = is_cut x ≡ true → count (stated b) (stopped b) < faults_in b

-- An operation begins at node c.
pub record MayBegin (b : List ℕ) (c : ℕ) (x : Extent) : Type 0 where
  pub fit : fits b ≡ true
  pub usable : sound b ≡ true
  pub at : OneTo (stated b) c
  pub stands : stopped b c ≡ false
  pub idle : is_open (node b c).wait ≡ false
  pub left : full (node b c) ≡ false
  pub cut : MayCut b x

-- The message m, which has waited longest on the channel from a to c, is delivered.
pub record MayDeliver (b : List ℕ) (a c : ℕ) (x : Extent) (m : Message) : Type 0 where
  pub fit : fits b ≡ true
  pub usable : sound b ≡ true
  pub sender : OneTo (stated b) a
  pub receiver : OneTo (stated b) c
  pub stands : stopped b c ≡ false
  pub some : 0 < count_of (channel b a c)
  pub size : ℕ
  pub says : front (stated b) (first (channel b a c)) ≡ returned (m, size)
  pub new : stale_message (node b c) a m ≡ false
  pub cut : MayCut b x

-- ---- how 11 is judged: on the channels as the event would leave them

-- The entries that the event lets out: the step's list, or its first part.
abbrev pub begun : List ℕ → ℕ → Operation → Extent → List Entry
begun b c o x = shortened x (entries (stated b) c (begin_step (faults_in b) (node b c) o).outbox)

abbrev pub handled : List ℕ → (a c : ℕ) → Extent → Message → List Entry
handled b a c x m = shortened x (entries (stated b) a (message_step (faults_in b) (node b c) a m
    (view_of (stated b) (view_at (stated b) (first (channel b a c))))).outbox)

-- What waits from c to k: all of it for a begin; without the delivered message, if it was one of c to itself.
abbrev pub waits : List ℕ → (c k : ℕ) → ℕ
waits b c k = count_of (channel b c k)

abbrev pub still_waits : List ℕ → (a c k : ℕ) → ℕ
still_waits b a c k = waits b c k - pick (both (eqb a c) (eqb k c)) 1 0

-- Node k stands after the event of c: it stood before, and is not a node that is cut.
pub record StandsAfter (b : List ℕ) (c : ℕ) (x : Extent) (k : ℕ) : Type 0 where
  pub at : OneTo (stated b) k
  pub stood : stopped b k ≡ false
  pub uncut : is_cut x ≡ true → k ≡ c → ⊥

-- No channel from c to a node that stands after the event would hold more than sixteen. Of the others none changes but
-- by losing messages.
abbrev pub Room : List ℕ → ℕ → Extent → (waits : ℕ → ℕ) → List Entry → Type 0
Room b c x waits l = (k : ℕ) → StandsAfter b c x k → waits k + go_to k l ≤ 16

abbrev pub Accepted : Result → Type 0
Accepted r = (e : Ending) × (r.answer ≡ returned e)

-- Event e of node c on bytes b: accepted just if there is room, else 11 and every byte as before. Then the channels
-- hold what waited and what was let out, and none more than sixteen. `only` follows from `full`.
pub record Judged (calls : Calls) (e : R.Event) (b : List ℕ) (c : ℕ) (x : Extent) (waits : ℕ → ℕ) (l : List Entry)
    : Type 0 where
  pub accepted : Room b c x waits l → Accepted (event calls e b)
  pub only : Accepted (event calls e b) → Room b c x waits l
  pub full : (Room b c x waits l → ⊥) → event calls e b ≡ refuse 11 b
  pub holds : Accepted (event calls e b) → (k : ℕ) → StandsAfter b c x k
      → count_of (channel (event calls e b).bytes c k) ≡ waits k + go_to k l
  pub most : Accepted (event calls e b) → (a k : ℕ) → OneTo (stated b) a → OneTo (stated b) k
      → count_of (channel (event calls e b).bytes a k) ≤ 16

-- ---- the cases

-- A cluster of n nodes, f of which may stop, in which k messages m wait from node 1 to node d.
pub record Filled (n f d k : ℕ) (m : Message) (b : List ℕ) : Type 0 where
  pub begins : MayBegin b 1 Whole
  pub delivers : MayDeliver b 1 d Whole m
  pub states : stated b ≡ n
  pub faults : faults_in b ≡ f
  pub stands : (c : ℕ) → OneTo n c → stopped b c ≡ false
  pub holds : count_of (channel b 1 d) ≡ k
  pub no_more : (c : ℕ) → OneTo n c → count_of (channel b 1 c) ≤ k
  pub maxtag : (node b 1).maxtag ≡ 0

pub record Channels (calls : Calls) : Type 0 where
  pub begin : (b : List ℕ) (c : ℕ) (o : Operation) (x : Extent) → MayBegin b c x
      → Judged calls (R.begin c o x) b c x (waits b c) (begun b c o x)
  pub deliver : (b : List ℕ) (a c : ℕ) (x : Extent) (m : Message) → MayDeliver b a c x m
      → Judged calls (R.deliver a c x) b c x (still_waits b a c) (handled b a c x m)
  -- Cases of these two laws. `seventeenth` and `overflow` follow from them, and rule out no call that they do not. Of
  -- `sixteenth` and `own-place` the count follows; that nothing ends there is said here alone.
  -- A begin lets one message out to each node: the sixteenth is taken, the seventeenth is not.
  pub sixteenth : (b : List ℕ) (c d : ℕ) (o : Operation) → MayBegin b c Whole → OneTo (stated b) d
      → stopped b d ≡ false → count_of (channel b c d) ≡ 15
      → ((k : ℕ) → OneTo (stated b) k → stopped b k ≡ false → count_of (channel b c k) ≤ 15)
      → ((calls.begin c o Whole b).answer ≡ returned None)
      × (count_of (channel (calls.begin c o Whole b).bytes c d) ≡ 16)
  pub seventeenth : (b : List ℕ) (c d : ℕ) (o : Operation) → MayBegin b c Whole → OneTo (stated b) d
      → stopped b d ≡ false → count_of (channel b c d) ≡ 16 → calls.begin c o Whole b ≡ refuse 11 b
  -- A delivery frees its own place: of sixteen messages of a node to itself one is delivered, and its answer is taken.
  pub own-place : (b : List ℕ) (c q : ℕ) → MayDeliver b c c Whole (Read q) → is_open (node b c).wait ≡ false
      → count_of (channel b c c) ≡ 16
      → ((calls.deliver c c Whole b).answer ≡ returned None)
      × (count_of (channel (calls.deliver c c Whole b).bytes c c) ≡ 16)
  -- It frees no more: a write with a tag above maxtag is echoed and answered, and of sixteen such none is delivered.
  pub overflow : (b : List ℕ) → Filled 1 0 1 16 (Write 1 1) b → calls.deliver 1 1 Whole b ≡ refuse 11 b
  -- There are such clusters.
  pub fifteen-reads : (b : List ℕ) × Filled 1 0 1 15 (Read 1) b
  pub sixteen-reads : (b : List ℕ) × Filled 1 0 1 16 (Read 1) b
  pub sixteen-writes : (b : List ℕ) × Filled 1 0 1 16 (Write 1 1) b
