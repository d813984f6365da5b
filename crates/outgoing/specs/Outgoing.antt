-- What an event lets out of the cluster's bytes when it steps node c, and refusals 10 and 11.
use Rattle.std.specs.Prelude.{ℕ, ◌+◌, ◌*◌, Bool, true, false, List, take, ltb, leb}
use Rattle.octets.specs.Test.{pick}
use Rattle.octets.specs.Loop.{each}
use Rattle.view.specs.Size.{nodes}
use Rattle.table.specs.Loop.{either, all, count}
use Rattle.record.specs.declared.Node.{Node}
use Rattle.step.specs.declared.Outbox.{Outbox}
use Rattle.region.specs.Channel.{capacity, count_of}
use Rattle.block.specs.Block.{keep_record, receive, halt}
use Rattle.layout.specs.Layout.{stopped, channel, on_block, faults_in}
use Rattle.outgoing.specs.Entries.{Entry, entries, go_to, slot}
use Rattle.outgoing.specs.declared.Extent.{Extent}
use Rattle.outgoing.specs.declared.Extent.TheVariants.{Whole, Cut}

-- How much of a step's list an event lets out, and whether the node then stops.
abbrev pub shortened : Extent → List Entry → List Entry
shortened Whole l = l
shortened (Cut m) l = take m l

-- No step sends one node more messages than this: it has three parts of at most two. So a number of entries that holds
-- all that are let out.
abbrev pub sent_most : ℕ
sent_most = 6

abbrev pub most : Extent → ℕ
most Whole = sent_most * nodes
most (Cut m) = m

abbrev pub is_cut : Extent → Bool
is_cut Whole = false
is_cut (Cut m) = true

-- 10: one node more may stop.
abbrev pub may_stop : ℕ → List ℕ → Bool
may_stop n b = ltb (count n (stopped b)) (faults_in b)

abbrev pub may_cut : ℕ → Extent → List ℕ → Bool
may_cut n x b = pick (is_cut x) (may_stop n b) true

-- The bytes after node c took a step: its record d is written, and in a cut it stops.
abbrev pub halt_if : Bool → (n c : ℕ) → List ℕ → List ℕ
halt_if cut n c b = pick cut (on_block c (halt n) b) b

abbrev pub stepped : (n c : ℕ) → Extent → Node → List ℕ → List ℕ
stepped n c x d b = halt_if (is_cut x) n c (on_block c (keep_record d) b)

-- The bytes when c has let out one entry, and some in turn. A node that has stopped receives nothing.
abbrev pub send : (n c : ℕ) → Entry → List ℕ → List ℕ
send n c e b = on_block e.to (receive c (slot n e.message e.view)) b

unfoldable pub let_out : (n c : ℕ) → List Entry → List ℕ → List ℕ
let_out n c l b = each (send n c) l b

-- 11: every channel from c to a node that has not stopped can hold what is let out to it.
abbrev pub room_at : ℕ → List Entry → List ℕ → ℕ → Bool
room_at c l b k = either (stopped b k) (leb (count_of (channel b c k) + go_to k l) capacity)

unfoldable pub roomy : (n c : ℕ) → List Entry → List ℕ → Bool
roomy n c l b = all n (room_at c l b)

-- Node c takes a step and lets out what it sends. It stops first in a cut: what it sends to itself is gone with its
-- channels. 11 is judged on the channels as the event would leave them.
abbrev pub has_room : (n a c : ℕ) → Extent → Node → Outbox → (found : List ℕ) → Bool
has_room n a c x d o found = roomy n c (shortened x (entries n a o)) (stepped n c x d found)

abbrev pub released : (n a c : ℕ) → Extent → Node → Outbox → (found : List ℕ) → List ℕ
released n a c x d o found = let_out n c (shortened x (entries n a o)) (stepped n c x d found)
