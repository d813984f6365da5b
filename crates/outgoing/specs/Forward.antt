-- Cited by inner contracts only: where a handler forwards a value, the slot of the cluster that it came in. Assumes
-- nothing.
use Rattle.std.specs.Prelude.{ℕ, ◌≡◌, true, List}
use Rattle.view.specs.declared.View.{View}
use Rattle.wire.specs.Layout.{value_size}
use Rattle.step.specs.Forward.{is_forward}
use Rattle.step.specs.declared.Sent.{Sent}
use Rattle.step.specs.declared.Sent.TheVariants.{Nothing, One, Two}
use Rattle.layout.specs.Slot.{slot_place, slot_from}
use Rattle.outgoing.specs.Entries.{slot}

-- s is the slot of the one message that is sent
abbrev pub SlotIs : ℕ → View → Sent → (s : List ℕ) → Type 0
SlotIs n v Nothing s = Unit {0}
SlotIs n v (One m) s = slot n m v ≡ s
SlotIs n v (Two m k) s = Unit {0}

-- Where a value is sent, `from` is a slot of the channel from a to c, and its bytes stand there.
abbrev pub ReceivedAt : (n a c : ℕ) → View → Sent → (b : List ℕ) → (from : ℕ) → Type 0
ReceivedAt n a c v s b from =
    is_forward s ≡ true → ((i : ℕ) × (from ≡ slot_place a c i)) × SlotIs n v s (slot_from b from value_size)
