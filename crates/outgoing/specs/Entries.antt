-- What a step lets out: one entry for each message and receiver, in order, and the slot of bytes that each one takes.
use Rattle.std.specs.Prelude.{ℕ, ◌+◌, Bool, true, false, List, [], ◌∷◌, ◌++◌, replicate, eqb}
use Rattle.octets.specs.Test.{pick}
use Rattle.table.specs.Loop.{numbered}
use Rattle.view.specs.View.{view_bytes}
use Rattle.view.specs.declared.View.{View}
use Rattle.wire.specs.Layout.{encode}
use Rattle.wire.specs.Codec.{answer, after}
use Rattle.wire.specs.declared.Message.{Message}
use Rattle.wire.specs.declared.Message.TheVariants.{Read, ReadAnswer, Write, WriteAnswer, Echo, Value, Good}
use Rattle.step.specs.Step.{messages}
use Rattle.step.specs.declared.Outbox.{Outbox}
use Rattle.region.specs.Channel.{slot_size}

-- A message let out to one node, with the view that a good message carries.
pub record Entry : Type 0 where
  pub to : ℕ
  pub message : Message
  pub view : View

abbrev pub entry : View → Message → ℕ → Entry
entry v m b = record { to = b; message = m; view = v }

abbrev pub is_answer : Message → Bool
is_answer (ReadAnswer q t) = true
is_answer (WriteAnswer q t) = true
is_answer (Read q) = false
is_answer (Write q t) = false
is_answer (Echo t) = false
is_answer (Value t w p) = false
is_answer (Good t) = false

-- The entries of messages: an answer goes to node a, whose message was handled, any other to 1 to n in turn.
unfoldable pub addressed : (n a : ℕ) → View → Message → List Entry
addressed n a v m = pick (is_answer m) (entry v m a ∷ []) (numbered n (entry v m))

unfoldable pub entries_of : (n a : ℕ) → View → List Message → List Entry
entries_of n a v [] = []
entries_of n a v (m ∷ ms) = addressed n a v m ++ entries_of n a v ms

abbrev pub entries : (n a : ℕ) → Outbox → List Entry
entries n a o = entries_of n a o.view (messages o)

-- How many of the entries go to node b.
unfoldable pub go_to : ℕ → List Entry → ℕ
go_to b [] = 0
go_to b (e ∷ l) = pick (eqb e.to b) (go_to b l + 1) (go_to b l)

-- The slot of a message: its bytes at the front, and zeros after them. A message that the layout does not allow is not
-- written: its slot is zeros only.
unfoldable pub slot : ℕ → Message → View → List ℕ
slot n m v =
    after (answer n m (view_bytes n v) slot_size) (encode m (view_bytes n v)) (replicate slot_size 0)
