-- A cluster: n nodes and a first-in first-out channel from each to each, itself included. Document 01 calls it a house,
-- with cabinets and trunks. An event is accepted or refused, and a refused one leaves all as it was. Refusals 2, 7, 9
-- and 12 are of bytes and records: a cluster of sets does not know them.
use Rattle.std.specs.Prelude.{ℕ, zero, suc, ◌-◌, ◌≡◌, Bool, true, false, cond, not, ◌&&◌, List, [], ◌∷◌, ◌++◌, length}
use Rattle.std.specs.Prelude.{take}
use Rattle.std.proofs.Math.Decide.{ℕ_discrete, dec_le, dec_lt}
use Rattle.std.proofs.Math.Logic.{ite}
use Rattle.std.proofs.Math.Bool.{decide, Bool-discrete}
use Rattle.logs.specs.Count.{count}
use Rattle.logs.specs.Update.{upd, upd2}
use Rattle.history.specs.Message.{Message}
use Rattle.history.specs.Event.{Operation, Extent, whole, cut, Event, begin, deliver, stop, Ending, none, Response}
use Rattle.history.specs.Event.{refused, accepted, Sent, sent_to}
use Rattle.history.specs.Trace.{Seen, Trace}
use Rattle.algorithm.specs.Address.{Address, one, all, address}
use Rattle.algorithm.specs.Algorithm.{limit, table, Wait, idle, reading, writing, comparing, borrowing, Node, fresh}
use Rattle.algorithm.specs.Algorithm.{Step, still, begin_step, message_step}

pub record Cluster : Type 0 where
  pub nodes : ℕ → Node
  pub stopped : ℕ → Bool
  -- What waits on the channel from one node to another, oldest first.
  pub channel : ℕ → ℕ → List Message

abbrev pub start : Cluster
start = record { nodes = λ c. fresh; stopped = λ c. false; channel = λ a b. [] }

-- What an event does: the cluster after it, its answer, and the messages let out, in order.
pub record Result : Type 0 where
  pub cluster : Cluster
  pub answer : Response
  pub sent : List Sent

abbrev pub refuse : ℕ → Cluster → Result
refuse k σ = record { cluster = σ; answer = refused k; sent = [] }

-- A refusal stands on its condition: without what it demands the answer is its number, else it is what comes after.
abbrev pub demand : {P : Type 0} → Dec P → ℕ → Cluster → Result → Result
demand d k σ next = ite d next (refuse k σ)

-- The entries of a message: all are 1 to n in turn.
abbrev pub entries_to : ℕ → Message → Address → List Sent
entries_to n m (one b) = record { to = b; message = m } ∷ []
entries_to n m all = table (λ b. record { to = b; message = m }) n

abbrev pub addressed : ℕ → Message → List Sent
addressed n m = entries_to n m (address m)

-- The entries of a list of messages, in order.
unfoldable pub entries : ℕ → List Message → List Sent
entries n [] = []
entries n (m ∷ ms) = addressed n m ++ entries n ms

abbrev pub shortened : Extent → List Sent → List Sent
shortened whole l = l
shortened (cut m) l = take m l

-- Who has stopped after an event that node c handles.
abbrev pub halted : Extent → ℕ → (ℕ → Bool) → ℕ → Bool
halted whole c stopped = stopped
halted (cut m) c stopped = upd stopped c true

-- A cut event does not give its ending.
abbrev pub given : Extent → Ending → Ending
given whole e = e
given (cut m) e = none

-- The channels after node c has let l out: each entry at the end of its channel, and nothing to a stopped node.
abbrev pub channels : (ℕ → Bool) → ℕ → List Sent → (ℕ → ℕ → List Message) → ℕ → ℕ → List Message
channels stopped c l channel a b =
    cond (stopped b) [] (cond (decide (ℕ_discrete a c)) (channel a b ++ sent_to b l) (channel a b))

-- Node c takes step s and lets l out. The channels are given as the event found them, for a delivery without the
-- message.
abbrev pub commit : ℕ → Extent → Step → List Sent → (ℕ → ℕ → List Message) → Cluster → Result
commit c x s l channel σ = record {
  cluster = record {
    nodes = upd σ.nodes c s.node;
    stopped = halted x c σ.stopped;
    channel = channels (halted x c σ.stopped) c l channel;
  };
  answer = accepted (given x s.ending);
  sent = l;
}

-- How many messages a channel has room for is a parameter, like n and f: `room` tests the length of a channel. The
-- channels of document 01 hold at most a number; links may take any number.
abbrev pub at_most : ℕ → ℕ → Bool
at_most most k = decide (dec_le k most)

abbrev pub unlimited : ℕ → Bool
unlimited k = true

-- Each channel from c to 1 to n has room for what it holds.
unfoldable pub roomy : (room : ℕ → Bool) → ℕ → ℕ → (ℕ → ℕ → List Message) → Bool
roomy room c zero channel = true
roomy room c (suc n) channel = room (length (channel c (suc n))) && roomy room c n channel

-- Refusal 11, judged on the channels as the event would leave them.
abbrev pub unless_full : ℕ → (room : ℕ → Bool) → ℕ → Cluster → Result → Result
unless_full n room c σ r = demand (Bool-discrete (roomy room c n r.cluster.channel) true) 11 σ r

abbrev pub settle : ℕ → (room : ℕ → Bool) → ℕ → Extent → Step → (ℕ → ℕ → List Message) → Cluster → Result
settle n room c x s channel σ = unless_full n room c σ (commit c x s (shortened x (entries n s.sent)) channel σ)

-- What the other refusals demand.

-- 3: a node's number is 1 to n.
abbrev pub is_node : ℕ → ℕ → Bool
is_node n c = decide (dec_lt 0 c) && decide (dec_le c n)

-- 4: the node has not stopped.
abbrev pub stands : Cluster → ℕ → Bool
stands σ c = not (σ.stopped c)

-- 5: no operation is open.
abbrev pub is_idle : Wait → Bool
is_idle idle = true
is_idle (reading op s u) = false
is_idle (writing op r t s) = false
is_idle (comparing op r t) = false
is_idle (borrowing op t) = false

-- 10: one more node may stop.
abbrev pub may_stop : ℕ → ℕ → Cluster → Bool
may_stop n f σ = decide (dec_lt (count σ.stopped n) f)

abbrev pub may_cut : ℕ → ℕ → Extent → Cluster → Bool
may_cut n f whole σ = true
may_cut n f (cut m) σ = may_stop n f σ

abbrev pub holds : (b : Bool) → Dec (b ≡ true)
holds b = Bool-discrete b true

-- The three kinds of event.

abbrev pub begin_event : (n f : ℕ) (room : ℕ → Bool) (c : ℕ) → Operation → Extent → Cluster → Result
begin_event n f room c op x σ =
    demand (holds (is_node n c)) 3 σ
    (demand (holds (stands σ c)) 4 σ
    (demand (holds (is_idle (σ.nodes c).wait)) 5 σ
    (demand (dec_le 5 (limit - (σ.nodes c).request)) 6 σ
    (demand (holds (may_cut n f x σ)) 10 σ
    (settle n room c x (begin_step n f c op (σ.nodes c)) σ.channel σ)))))

-- The delivery of what has waited longest on its channel.
abbrev pub deliver_first : (n f : ℕ) (room : ℕ → Bool) (a b : ℕ) → Extent → Cluster → List Message → Result
deliver_first n f room a b x σ [] = refuse 8 σ
deliver_first n f room a b x σ (m ∷ rest) =
    demand (holds (may_cut n f x σ)) 10 σ
    (settle n room b x (message_step n f b a m (σ.nodes b)) (upd2 σ.channel a b rest) σ)

abbrev pub deliver_event : (n f : ℕ) (room : ℕ → Bool) (a b : ℕ) → Extent → Cluster → Result
deliver_event n f room a b x σ =
    demand (holds (is_node n a && is_node n b)) 3 σ
    (demand (holds (stands σ b)) 4 σ
    (deliver_first n f room a b x σ (σ.channel a b)))

abbrev pub stop_event : (n f c : ℕ) → Cluster → Result
stop_event n f c σ =
    demand (holds (is_node n c)) 3 σ
    (demand (holds (stands σ c)) 4 σ
    (demand (holds (may_stop n f σ)) 10 σ
    (commit c (cut 0) (still (σ.nodes c)) [] σ.channel σ)))

unfoldable pub event : (n f : ℕ) (room : ℕ → Bool) → Event → Cluster → Result
event n f room (begin c op x) σ = begin_event n f room c op x σ
event n f room (deliver a b x) σ = deliver_event n f room a b x σ
event n f room (stop c) σ = stop_event n f c σ

-- The cluster after a list of events.
unfoldable pub after : (n f : ℕ) (room : ℕ → Bool) → Cluster → List Event → Cluster
after n f room σ [] = σ
after n f room σ (e ∷ es) = after n f room (event n f room e σ).cluster es

-- An event as it is seen from outside.
abbrev pub seen : Event → Result → Seen
seen e r = record { event = e; answer = r.answer; sent = r.sent }

-- The trace of a list of events, each of which gets the cluster as the one before it left it.
unfoldable pub trace_from : (n f : ℕ) (room : ℕ → Bool) → Cluster → List Event → Trace
trace_from n f room σ [] = []
trace_from n f room σ (e ∷ es) = seen e (event n f room e σ) ∷ trace_from n f room (event n f room e σ).cluster es

abbrev pub trace : (n f : ℕ) (room : ℕ → Bool) → List Event → Trace
trace n f room es = trace_from n f room start es
