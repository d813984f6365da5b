-- The events of a cluster (document 01: a house): for each of them the bytes after it, its answer, and the entries let
-- out, in order. The refusals stand in document 01's order, and the first that applies is given.
use Rattle.std.specs.Prelude.{ℕ, ◌+◌, Bool, not, List, [], length, set, replicate, ltb, eqb}
use Rattle.octets.specs.Answer.{Answer, returned, refused}
use Rattle.octets.specs.Test.{pick, both}
use Rattle.octets.specs.Loop.{up_to}
use Rattle.view.specs.View.{no_view, view_of}
use Rattle.view.specs.declared.View.{View}
use Rattle.wire.specs.Codec.{front, view_at}
use Rattle.wire.specs.declared.Message.{Message}
use Rattle.table.specs.Quorum.{can_be}
use Rattle.record.specs.Record.{blank}
use Rattle.record.specs.Usable.{is_open, full}
use Rattle.record.specs.declared.Operation.{Operation}
use Rattle.step.specs.Move.{message_step, begin_step}
use Rattle.step.specs.Stale.{stale_message}
use Rattle.step.specs.declared.Step.{Step}
use Rattle.step.specs.declared.Ending.{Ending}
use Rattle.step.specs.declared.Ending.TheVariants.{None}
use Rattle.region.specs.Channel.{count_of, first}
use Rattle.block.specs.Block.{keep_record, take_off}
use Rattle.layout.specs.Layout.{cluster_size, stated_place, faults_place, stated, faults_in, stopped, node, channel}
use Rattle.layout.specs.Layout.{on_block, fits, sound, is_node}
use Rattle.outgoing.specs.Entries.{Entry, entries}
use Rattle.outgoing.specs.Outgoing.{shortened, is_cut, may_cut, has_room, released}
use Rattle.outgoing.specs.declared.Extent.{Extent}

-- What an event does. The view is that of the operation that it ends.
pub record Result : Type 0 where
  pub bytes : List ℕ
  pub answer : Answer Ending
  pub view : View
  pub sent : List Entry

abbrev pub refuse : ℕ → List ℕ → Result
refuse k b = record { bytes = b; answer = refused k; view = no_view; sent = [] }

-- A refusal stands on its condition: without what it demands the answer is its number, else it is what comes after.
abbrev pub demand : Bool → ℕ → List ℕ → Result → Result
demand t k b next = pick t next (refuse k b)

-- The same of the number alone.
abbrev pub unless : Bool → ℕ → ℕ → ℕ
unless t k next = pick t next k

-- What refuses every event but fresh before its own conditions: the first of 12, 2, 3 for both numbers and 4 for c, and
-- 0 where none applies. An event of one node gives it twice.
unfoldable pub admission : (a c : ℕ) → List ℕ → ℕ
admission a c b =
    unless (fits b) 12
    (unless (sound b) 2
    (unless (both (is_node (stated b) a) (is_node (stated b) c)) 3
    (unless (not (stopped b c)) 4 0)))

abbrev pub admitted : (a c : ℕ) → List ℕ → Result → Result
admitted a c b next = demand (eqb (admission a c b) 0) (admission a c b) b next

-- Node c takes step s, an answer going to node a. `found` is the cluster as the step found it, for a delivery without
-- the message.
abbrev pub commit : (n a c : ℕ) → Extent → Step → (found : List ℕ) → Result
commit n a c x s found =
    record {
      bytes = released n a c x s.node s.outbox found;
      answer = returned (pick (is_cut x) None s.ending);
      view = pick (is_cut x) no_view s.view;
      sent = shortened x (entries n a s.outbox);
    }

-- 11 is judged on the channels as the event would leave them.
unfoldable pub settle : (n a c : ℕ) → Extent → Step → (found b : List ℕ) → Result
settle n a c x s found b =
    demand (has_room n a c x s.node s.outbox found) 11 b (commit n a c x s found)

-- The begin of an operation at node c.
abbrev pub open_in : (n c : ℕ) → Operation → Extent → List ℕ → Result
open_in n c o x b =
    demand (not (is_open (node b c).wait)) 5 b
    (demand (not (full (node b c))) 6 b
    (demand (may_cut n x b) 10 b
    (settle n c c x (begin_step (faults_in b) (node b c) o) b b)))

unfoldable pub begin : (c : ℕ) → Operation → Extent → List ℕ → Result
begin c o x b = admitted c c b (open_in (stated b) c o x b)

-- Node c handles message m from a; `s` is the slot that holds it.
abbrev pub hand_over : (n a c : ℕ) → Extent → List ℕ → (s : List ℕ) → Message → Result
hand_over n a c x b s m =
    demand (not (stale_message (node b c) a m)) 9 b
    (demand (may_cut n x b) 10 b
    (settle n a c x (message_step (faults_in b) (node b c) a m (view_of n (view_at n s))) (on_block c (take_off a) b)
    b))

abbrev pub deliver_message : (n a c : ℕ) → Extent → List ℕ → (s : List ℕ) → Answer (Message × ℕ) → Result
deliver_message n a c x b s (refused k) = refuse 7 b
deliver_message n a c x b s (returned p) = hand_over n a c x b s p.0

-- The delivery of what has waited longest on the channel from a to c.
abbrev pub deliver_in : (n a c : ℕ) → Extent → List ℕ → Result
deliver_in n a c x b =
    demand (ltb 0 (count_of (channel b a c))) 8 b
    (deliver_message n a c x b (first (channel b a c)) (front n (first (channel b a c))))

unfoldable pub deliver : (a c : ℕ) → Extent → List ℕ → Result
deliver a c x b = admitted a c b (deliver_in (stated b) a c x b)

-- A fresh cluster of n nodes in lent bytes, f of which may stop: nobody has stopped, nothing waits, and every record is
-- fresh.
unfoldable pub fresh_bytes : (n f length : ℕ) → List ℕ
fresh_bytes n f length =
    up_to n (λ i. on_block (i + 1) (keep_record (blank n f (i + 1))))
    (set (set (replicate length 0) stated_place n) faults_place f)

unfoldable pub fresh : (n f : ℕ) → List ℕ → Result
fresh n f b =
    demand (can_be n f) 1 b
    (demand (eqb (length b) (cluster_size n)) 12 b
    (record { bytes = fresh_bytes n f (length b); answer = returned None; view = no_view; sent = [] }))
