-- What can be seen of a cluster from outside: for each event of a list its answer and the messages let out. All of
-- document 01's terms for demand 3 are read off this, with no look into a node. An operation is named by the index of
-- its accepted begin. Past its end a trace goes on with refused events, so that every number is an index.
use Rattle.std.specs.Prelude.{ℕ, suc, ◌+◌, ◌-◌, max, Bool, false, cond, ◌||◌, List, [], ◌∷◌, ◌++◌, take, drop, get_or}
use Rattle.std.proofs.Math.Decide.{ℕ_discrete, dec_lt}
use Rattle.std.proofs.Math.Logic.{ite}
use Rattle.std.proofs.Math.Bool.{decide}
use Rattle.history.specs.Message.{Entry, absent, View, Message, read, read_answer, write, write_answer, echo, value}
use Rattle.history.specs.Message.{good}
use Rattle.history.specs.Event.{update, scan, Ending, none, done, shown, spent, whole, cut, Event, begin, deliver}
use Rattle.history.specs.Event.{stop, Response, refused, accepted, Sent, sent_to}

-- One event of a list as seen from outside.
pub record Seen : Type 0 where
  pub event : Event
  pub answer : Response
  pub sent : List Sent

abbrev pub Trace : Type 0
Trace = List Seen

abbrev pub nothing_seen : Seen
nothing_seen = record { event = stop 0; answer = refused 3; sent = [] }

abbrev pub at : Trace → ℕ → Seen
at tr t = get_or tr t nothing_seen

-- The node that handles an event: for a delivery its receiver.
abbrev pub handler : Event → ℕ
handler (begin c op x) = c
handler (deliver a b x) = b
handler (stop c) = c

-- What begins with an event: nothing, an update of a node with its report, or a scan of a node.
pub data Begun : Type 0 where
  nothing : Begun
  updating : (node report : ℕ) → Begun
  scanning : (node : ℕ) → Begun

abbrev pub begun_by : Event → Response → Begun
begun_by e (refused k) = nothing
begun_by (begin c (update p) x) (accepted e) = updating c p
begun_by (begin c scan x) (accepted e) = scanning c
begun_by (deliver a b x) (accepted e) = nothing
begun_by (stop c) (accepted e) = nothing

abbrev pub begun : Trace → ℕ → Begun
begun tr t = begun_by (at tr t).event (at tr t).answer

-- The ending that an event gives at node c.
abbrev pub ending_of : Response → Ending
ending_of (refused k) = none
ending_of (accepted e) = e

abbrev pub ending_at : ℕ → Seen → Ending
ending_at c o = cond (decide (ℕ_discrete (handler o.event) c)) (ending_of o.answer) none

-- What becomes of an operation: it ends at an index, with an ending, or it is unfinished.
pub data Fate : Type 0 where
  unfinished : Fate
  ended : (index : ℕ) → Ending → Fate

abbrev pub fate_by : ℕ → Ending → Fate → Fate
fate_by k none later = later
fate_by k (done r v) later = ended k (done r v)
fate_by k (shown r v) later = ended k (shown r v)
fate_by k spent later = ended k spent

-- The first ending at node c in a part of a trace that starts at index k.
unfoldable pub first_ending : ℕ → ℕ → Trace → Fate
first_ending c k [] = unfinished
first_ending c k (o ∷ os) = fate_by k (ending_at c o) (first_ending c (suc k) os)

-- The fate of the operation that began at index t at node c. One operation is open at a node at a time, so the first
-- ending there is its own.
abbrev pub fate_at : Trace → ℕ → ℕ → Fate
fate_at tr t c = first_ending c t (drop t tr)

abbrev pub fate_of : Trace → ℕ → Begun → Fate
fate_of tr t nothing = unfinished
fate_of tr t (updating c p) = fate_at tr t c
fate_of tr t (scanning c) = fate_at tr t c

abbrev pub fate : Trace → ℕ → Fate
fate tr t = fate_of tr t (begun tr t)

-- The part of a trace from the begin of an operation to its ending, both included, or to the end of the trace.
abbrev pub up_to_end : ℕ → Fate → Trace → Trace
up_to_end t unfinished tr = drop t tr
up_to_end t (ended k e) tr = drop t (take (suc k) tr)

-- The tags of the values that node c lets out with itself as writer.
abbrev pub tag_by : ℕ → Message → List ℕ
tag_by c (value v) = cond (decide (ℕ_discrete v.writer c)) (v.tag ∷ []) []
tag_by c (read q) = []
tag_by c (read_answer to q t) = []
tag_by c (write q t) = []
tag_by c (write_answer to q t) = []
tag_by c (echo t) = []
tag_by c (good t v) = []

unfoldable pub tags_sent : ℕ → List Sent → List ℕ
tags_sent c [] = []
tags_sent c (s ∷ l) = tag_by c s.message ++ tags_sent c l

unfoldable pub own_tags : ℕ → Trace → List ℕ
own_tags c [] = []
own_tags c (o ∷ os) = cond (decide (ℕ_discrete (handler o.event) c)) (tags_sent c o.sent) [] ++ own_tags c os

unfoldable pub largest : List ℕ → ℕ
largest [] = 0
largest (t ∷ l) = max t (largest l)

-- The first number of a list above b, or 0.
unfoldable pub first_above : ℕ → List ℕ → ℕ
first_above b [] = 0
first_above b (t ∷ l) = ite (dec_lt b t) t (first_above b l)

-- The tag of the update of node c that began at index t: the one among its own tags let out from its begin to its
-- ending that is above all of them let out before; 0 where it has none.
abbrev pub tag_at : Trace → ℕ → ℕ → ℕ
tag_at tr t c = first_above (largest (own_tags c (take t tr))) (own_tags c (up_to_end t (fate_at tr t c) tr))

-- What the operation at index t writes, and at which node: an update its tag and the report that it began with.
abbrev pub writes_by : Trace → ℕ → ℕ → Begun → Entry → Entry
writes_by tr t w nothing old = old
writes_by tr t w (scanning c) old = old
writes_by tr t w (updating c p) old = cond (decide (ℕ_discrete c w)) (record { tag = tag_at tr t c; report = p }) old

-- The view that a scan ended with; the empty one for all else.
abbrev pub scan_view : Fate → View
scan_view unfinished = []
scan_view (ended k none) = []
scan_view (ended k (done r v)) = []
scan_view (ended k (shown r v)) = v
scan_view (ended k spent) = []

-- What a view has of node w, from 1 to n.
abbrev pub entry_at : View → ℕ → Entry
entry_at v w = get_or v (w - 1) absent

-- A node stands until an accepted stop of it, or an accepted cut event that it handles.
abbrev pub stops_in : Event → ℕ → Bool
stops_in (begin a op whole) c = false
stops_in (begin a op (cut m)) c = decide (ℕ_discrete a c)
stops_in (deliver a b whole) c = false
stops_in (deliver a b (cut m)) c = decide (ℕ_discrete b c)
stops_in (stop a) c = decide (ℕ_discrete a c)

abbrev pub stops_by : Event → Response → ℕ → Bool
stops_by e (refused k) c = false
stops_by e (accepted x) c = stops_in e c

unfoldable pub stopped : Trace → ℕ → Bool
stopped [] c = false
stopped (o ∷ os) c = stops_by o.event o.answer c || stopped os c

-- The messages let out from node a to node b, in order.
unfoldable pub let_out_to : Trace → ℕ → ℕ → List Message
let_out_to [] a b = []
let_out_to (o ∷ os) a b = cond (decide (ℕ_discrete (handler o.event) a)) (sent_to b o.sent) [] ++ let_out_to os a b

-- How many messages were handed over from node a to node b.
abbrev pub handed_in : Event → Response → ℕ → ℕ → ℕ
handed_in e (refused k) a b = 0
handed_in (begin c op x) (accepted e) a b = 0
handed_in (stop c) (accepted e) a b = 0
handed_in (deliver c d x) (accepted e) a b = cond (decide (ℕ_discrete c a)) (cond (decide (ℕ_discrete d b)) 1 0) 0

unfoldable pub handed_over : Trace → ℕ → ℕ → ℕ
handed_over [] a b = 0
handed_over (o ∷ os) a b = handed_in o.event o.answer a b + handed_over os a b

-- The messages from node a that wait for node b.
abbrev pub waits : Trace → ℕ → ℕ → List Message
waits tr a b = drop (handed_over tr a b) (let_out_to tr a b)
