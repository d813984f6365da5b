-- One node's block in a cluster's bytes: a byte that says whether it has stopped, its record, and its incoming
-- channels, the one from node a at index a - 1.
use Rattle.std.specs.Prelude.{ℕ, ◌+◌, ◌-◌, ◌*◌, Bool, List, get_or, set, ltb, leb, eqb}
use Rattle.octets.specs.Test.{pick, both}
use Rattle.octets.specs.Bytes.{part, put}
use Rattle.octets.specs.Loop.{up_to}
use Rattle.view.specs.Size.{nodes}
use Rattle.table.specs.Loop.{all}
use Rattle.record.specs.Usable.{usable}
use Rattle.record.specs.declared.Node.{Node}
use Rattle.region.specs.Channel.{channel_size, capacity, count_of, push, pop, clear}
use Rattle.region.specs.Record.{record_size, record_of, record_bytes, codes_known}

-- Where its parts stand, and its bytes.
abbrev pub stop_place : ℕ
stop_place = 0

abbrev pub record_place : ℕ
record_place = stop_place + 1

abbrev pub channels_place : ℕ
channels_place = record_place + record_size

abbrev pub channel_place : ℕ → ℕ
channel_place a = channels_place + channel_size * (a - 1)

abbrev pub block_size : ℕ
block_size = channels_place + channel_size * nodes

-- The node has stopped; any byte but 0 says so.
abbrev pub has_stopped : List ℕ → Bool
has_stopped k = ltb 0 (get_or k stop_place 0)

unfoldable pub record_in : List ℕ → List ℕ
record_in k = part k record_place record_size

unfoldable pub channel_in : List ℕ → ℕ → List ℕ
channel_in k a = part k (channel_place a) channel_size

abbrev pub node_in : List ℕ → Node
node_in k = record_of (record_in k)

-- How many messages wait on the channel from node a.
abbrev pub waiting_in : List ℕ → ℕ → ℕ
waiting_in k a = count_of (channel_in k a)

-- Bytes with a run of them changed by f.
abbrev pub change : ℕ → ℕ → (List ℕ → List ℕ) → List ℕ → List ℕ
change at len f b = put b at (f (part b at len))

abbrev pub on_channel : ℕ → (List ℕ → List ℕ) → List ℕ → List ℕ
on_channel a f k = change (channel_place a) channel_size f k

-- The changes of a block: another record; one message from node a less; one more, unless the node has stopped; and the
-- stop, which empties the channels from 1 to n.
unfoldable pub keep_record : Node → List ℕ → List ℕ
keep_record c k = change record_place record_size (λ r. put r 0 (record_bytes c)) k

unfoldable pub take_off : ℕ → List ℕ → List ℕ
take_off a k = on_channel a pop k

unfoldable pub receive : ℕ → List ℕ → List ℕ → List ℕ
receive a m k = pick (has_stopped k) k (on_channel a (push m) k)

unfoldable pub halt : ℕ → List ℕ → List ℕ
halt n k = up_to n (λ i. on_channel (i + 1) clear) (set k stop_place 1)

-- What refusal 2 asks of the block of node c of n, f of which may stop: a usable record of that n, f and number, and no
-- channel with more messages than it can hold.
abbrev pub record_sound : (n f c : ℕ) → List ℕ → Bool
record_sound n f c r = both (both (codes_known r) (usable (record_of r)))
    (both (both (eqb (record_of r).n n) (eqb (record_of r).f f)) (eqb (record_of r).own c))

abbrev pub channels_sound : ℕ → List ℕ → Bool
channels_sound n k = all n (λ a. leb (waiting_in k a) capacity)

unfoldable pub block_sound : (n f c : ℕ) → List ℕ → Bool
block_sound n f c k = both (record_sound n f c (record_in k)) (channels_sound n k)
