-- Demand 2 of the code. Fresh with an f for which 2f < n is accepted for lent bytes b of the length for n, and then,
-- for any list of events, refused ones among them, the run on bytes is the run of the algorithm over sets. It is a
-- claim about any house, so that wrong ones can be named: for each clause proofs/RuledOut has one that it rules out.
use Rattle.std.specs.Prelude.{ℕ, ◌≡◌, true, false, List, [], map}
use Rattle.octets.specs.Answer.{Answer, returned}
use Rattle.view.specs.View.{AbsentPast}
use Rattle.step.specs.declared.Ending.{Ending}
use Rattle.step.specs.declared.Ending.TheVariants.{None}
use Rattle.region.specs.Channel.{waiting}
use Rattle.layout.specs.Layout.{stated, faults_in, channel, stopped, node}
use Rattle.events.specs.Event.{Result, fresh}
use Rattle.history.specs.Trace as T
use Rattle.history.specs.Trace.{Trace, waits}
use Rattle.history.specs.Order.{OneTo}
use Rattle.eqaso.specs.Cluster as K
use Rattle.eqaso.specs.Cluster.{trace}
use Rattle.refine.specs.Follows.{Follows}
use Rattle.mirror.specs.Mirrors.{channel_room}
use Rattle.mirror.specs.Encodes.{EachEncodes}
use Rattle.mirror.specs.Run.{Event, event, after, meaning, trace_of, ComesUp}

-- The bytes after the events, and the slots of the channel from node a to node c, oldest first.
abbrev pub bytes_after : (n f : ℕ) → List ℕ → List Event → List ℕ
bytes_after n f b es = after (fresh n f b).bytes es

abbrev pub slots : List ℕ → ℕ → ℕ → List (List ℕ)
slots b a c = waiting (λ s. s) (channel b a c)

-- What is seen of a house, a cluster in bytes: what fresh answers and, after any list of events, the bytes, what one
-- event more does, and the trace of the list.
pub record House : Type 0 where
  pub opened : Answer Ending
  pub bytes : List Event → List ℕ
  pub next : List Event → Event → Result
  pub seen : List Event → Trace

-- The house of the code.
abbrev pub house_of : (n f : ℕ) → List ℕ → House
house_of n f b = record {
  opened = (fresh n f b).answer;
  bytes = bytes_after n f b;
  next = λ es e. event e (bytes_after n f b es);
  seen = trace_of n f b;
}

pub record Demand2Of (n f : ℕ) (h : House) : Type 0 where
  pub taken : h.opened ≡ returned None
  -- Event by event the same answer, with the ending and its view, and the same list of entries let out.
  pub same : (es : List Event) → h.seen es ≡ trace n f channel_room (map meaning es)
  -- Refusals 1, 2, 7, 9 and 12 do not come up.
  pub refusals : (es : List Event) (e : Event) → ComesUp (h.next es e).answer
  -- A view that is given out has nothing past n.
  pub absent-past : (es : List Event) (e : Event) → AbsentPast n (h.next es e).view
  -- The bytes state n and f.
  pub states : (es : List Event) → (stated (h.bytes es) ≡ n) × (faults_in (h.bytes es) ≡ f)
  -- The bytes say of each node whether it has stopped, as the trace does.
  pub stops : (es : List Event) (c : ℕ) → OneTo n c → stopped (h.bytes es) c ≡ T.stopped (h.seen es) c
  -- What a channel to a standing node holds is, in order, the encoding of what was let out to it and not yet handed
  -- over.
  pub holds : (es : List Event) (a c : ℕ) → OneTo n a → OneTo n c → T.stopped (h.seen es) c ≡ false
      → EachEncodes n c (slots (h.bytes es) a c) (waits (h.seen es) a c)
  -- A channel to a stopped node holds nothing.
  pub empty : (es : List Event) (a c : ℕ) → OneTo n a → OneTo n c → T.stopped (h.seen es) c ≡ true
      → slots (h.bytes es) a c ≡ []
  -- The record of each node, stopped ones included, remembers of the sets of the algorithm what document 01 has it
  -- remember: of each writer the last report, the newest up to maxtag and, while a round is open, the newest up to its
  -- tag; the tags heard; the good view that is kept; the wait with its numbers; and its n, f and own number.
  pub remembers : (es : List Event) (c : ℕ) → OneTo n c
      → Follows n f c ((K.after n f channel_room K.start (map meaning es)).nodes c) (node (h.bytes es) c)

abbrev pub Demand2 : (n f : ℕ) → List ℕ → Type 0
Demand2 n f b = Demand2Of n f (house_of n f b)
