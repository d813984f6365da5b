-- Document 02, request [5]: what a cluster forwards is, byte for byte, the value message received. The bytes received
-- are the front of the slot in which the message waited. This stands beside the table of points, and is said of the
-- code's definitions.
use Rattle.std.specs.Prelude.{ℕ, ◌+◌, ◌-◌, ◌≤◌, ◌<◌, ◌≡◌, Bool, true, false, List, [], ◌∷◌, ◌++◌, take, replicate, eqb}
use Rattle.octets.specs.Answer.{returned}
use Rattle.octets.specs.Test.{pick}
use Rattle.view.specs.Size.{nodes}
use Rattle.view.specs.View.{view_of}
use Rattle.view.specs.declared.Report.{Report}
use Rattle.wire.specs.Codec.{front, view_at}
use Rattle.wire.specs.Layout.{allowed}
use Rattle.wire.specs.declared.Message.{Message}
use Rattle.wire.specs.declared.Message.TheVariants.{Value}
use Rattle.step.specs.Move.{message_step}
use Rattle.step.specs.React.{is_new}
use Rattle.step.specs.Step.{listed}
use Rattle.step.specs.declared.Outbox.{Outbox}
use Rattle.region.specs.Channel.{slot_size, first, waiting}
use Rattle.block.specs.Block.{take_off}
use Rattle.outgoing.specs.Entries.{Entry, entries_of, slot}
use Rattle.outgoing.specs.Outgoing.{shortened, is_cut}
use Rattle.outgoing.specs.declared.Extent.{Extent}
use Rattle.outgoing.specs.declared.Extent.TheVariants.{Whole, Cut}
use Rattle.layout.specs.Layout.{stated, stopped, node, channel, on_block, faults_in}
use Rattle.events.specs.Event.{deliver}
use Rattle.history.specs.Order.{OneTo}
use Rattle.points.specs.Channels.{StandsAfter, Accepted}

-- The slots that wait on the channel from a to c, the oldest first.
abbrev pub slots_on : List ℕ → (a c : ℕ) → List (List ℕ)
slots_on b a c = waiting (λ s. s) (channel b a c)

-- The slots of those entries that go to node d, in order.
unfoldable pub slots_to : (n d : ℕ) → List Entry → List (List ℕ)
slots_to n d [] = []
slots_to n d (e ∷ l) = pick (eqb e.to d) (slot n e.message e.view ∷ slots_to n d l) (slots_to n d l)

-- Where a message to all n comes first: its entry to node d is among those that the event lets out; and what the event
-- lets out after all n entries.
abbrev pub Reaches : Extent → ℕ → Type 0
Reaches Whole d = Unit {0}
Reaches (Cut m) d = d ≤ m

abbrev pub past : ℕ → Extent → Extent
past n Whole = Whole
past n (Cut m) = Cut (m - n)

-- What the open operation sends in the step of node c that handles message m from a: all but the handler's part.
abbrev pub moved_on : (n a : ℕ) → Outbox → List Entry
moved_on n a o = entries_of n a o.view (listed o.reading ++ listed o.comparing)

abbrev pub operation_sent : List ℕ → (a c : ℕ) → Message → List Entry
operation_sent b a c m = moved_on (stated b) a (message_step (faults_in b) (node b c) a m
    (view_of (stated b) (view_at (stated b) (first (channel b a c))))).outbox

-- The delivery from a to c is accepted, and the message delivered is m: the first k bytes of its slot.
pub record Handed (b : List ℕ) (a c : ℕ) (x : Extent) (m : Message) (k : ℕ) : Type 0 where
  pub accepted : Accepted (deliver a c x b)
  pub says : front (stated b) (first (channel b a c)) ≡ returned (m, k)

-- A cluster of n nodes, f of which may stop and none has, in which the value that waits longest from a to c can be
-- delivered. It is new for c or not.
pub record ValueWaits (n f a c : ℕ) (x : Extent) (t w : ℕ) (p : Report) (new : Bool) : Type 0 where
  pub bytes : List ℕ
  pub size : ℕ
  pub states : stated bytes ≡ n
  pub faults : faults_in bytes ≡ f
  pub stand : (d : ℕ) → OneTo n d → stopped bytes d ≡ false
  pub handed : Handed bytes a c x (Value t w p) size
  pub is-new : is_new (node bytes c) w t ≡ new

pub record Forwards : Type 0 where
  -- A new value: of each node d that the event reaches, and that stands after it, the channel from c holds what waited
  -- (without the message delivered), then the bytes received with zeros up to the end of the slot, then what the open
  -- operation sent.
  pub forwarded : (b : List ℕ) (a c : ℕ) (x : Extent) (t w : ℕ) (p : Report) (k : ℕ)
      → Handed b a c x (Value t w p) k → is_new (node b c) w t ≡ true
      → (d : ℕ) → OneTo (stated b) d → Reaches x d → stopped (deliver a c x b).bytes d ≡ false
      → slots_on (deliver a c x b).bytes c d
      ≡ slots_on (on_block c (take_off a) b) c d
      ++ (take k (first (channel b a c)) ++ replicate (slot_size - k) 0)
      ∷ slots_to (stated b) d (shortened (past (stated b) x) (operation_sent b a c (Value t w p)))
  -- Any other value is not forwarded: all that the event lets out is what the open operation sent.
  pub not_new : (b : List ℕ) (a c : ℕ) (x : Extent) (t w : ℕ) (p : Report) (k : ℕ)
      → Handed b a c x (Value t w p) k → is_new (node b c) w t ≡ false
      → (deliver a c x b).sent ≡ shortened x (operation_sent b a c (Value t w p))
  -- Of every message: the channels to those that stand hold what waited, and the slots of what the event let out.
  pub holds : (b : List ℕ) (a c : ℕ) (x : Extent) (m : Message) (k : ℕ) → Handed b a c x m k
      → (d : ℕ) → OneTo (stated b) d → stopped (deliver a c x b).bytes d ≡ false
      → slots_on (deliver a c x b).bytes c d
      ≡ slots_on (on_block c (take_off a) b) c d ++ slots_to (stated b) d (deliver a c x b).sent
  -- Those that stood stand, but for the node that is cut.
  pub stands : (b : List ℕ) (a c : ℕ) (x : Extent) (m : Message) (k : ℕ) → Handed b a c x m k
      → (d : ℕ) → StandsAfter b c x d → stopped (deliver a c x b).bytes d ≡ false
  -- There are such clusters: of every n and f, with any value that the layout allows, new or not, from any node to any,
  -- delivered whole, and cut where a node may stop.
  pub met : (n f a c : ℕ) (x : Extent) (t w : ℕ) (p : Report) (new : Bool) → OneTo nodes n → f + f < n → OneTo n a
      → OneTo n c → (is_cut x ≡ true → 0 < f) → allowed n (Value t w p) [] ≡ true
      → ValueWaits n f a c x t w p new
