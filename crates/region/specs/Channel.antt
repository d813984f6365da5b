-- One channel in bytes (document 01's trunk): how many messages wait, the slot of the oldest, and the slots, which are
-- used in turn. Slot numbers count modulo their number, so no byte of a channel but the count can have a wrong value.
use Rattle.std.specs.Prelude.{ℕ, ◌+◌, ◌-◌, ◌*◌, ◌%◌, List, get_or, set, ltb}
use Rattle.octets.specs.Test.{pick}
use Rattle.octets.specs.Bytes.{part, put}
use Rattle.octets.specs.Loop.{tab}
use Rattle.wire.specs.Layout.{longest}

-- The most messages that a channel holds, and the bytes of a slot: the longest message has room in it.
abbrev pub capacity : ℕ
capacity = 16

abbrev pub slot_size : ℕ
slot_size = longest

-- Where the count stands, the number of the oldest slot, and slot i; and the bytes of a channel.
abbrev pub count_place : ℕ
count_place = 0

abbrev pub oldest_place : ℕ
oldest_place = count_place + 1

abbrev pub slots_place : ℕ
slots_place = oldest_place + 1

abbrev pub slot_at : ℕ → ℕ
slot_at i = slots_place + slot_size * (i % capacity)

abbrev pub channel_size : ℕ
channel_size = slots_place + slot_size * capacity

abbrev pub count_of : List ℕ → ℕ
count_of t = get_or t count_place 0

abbrev pub oldest : List ℕ → ℕ
oldest t = get_or t oldest_place 0

-- The slot of the message that has waited longest.
abbrev pub first : List ℕ → List ℕ
first t = part t (slot_at (oldest t)) slot_size

-- The channel with one message more at its end; as it was where it is full.
unfoldable pub push : List ℕ → List ℕ → List ℕ
push m t = pick (ltb (count_of t) capacity)
    (set (put t (slot_at (oldest t + count_of t)) m) count_place (count_of t + 1))
    t

-- The channel without the message that has waited longest; as it was where it is empty.
unfoldable pub pop : List ℕ → List ℕ
pop t = pick (ltb 0 (count_of t))
    (set (set t count_place (count_of t - 1)) oldest_place ((oldest t + 1) % capacity))
    t

-- The channel with nothing in it.
unfoldable pub clear : List ℕ → List ℕ
clear t = set t count_place 0

-- What waits, oldest first, where g reads a message from its slot.
unfoldable pub waiting : {A : Type 0} → (List ℕ → A) → List ℕ → List A
waiting g t = tab (count_of t) (λ i. g (part t (slot_at (oldest t + i)) slot_size))
