-- What may happen to a cluster, and what an event shows: a refusal or an ending, and the messages that it lets out.
use Rattle.std.specs.Prelude.{ℕ, cond, List, [], ◌∷◌}
use Rattle.std.proofs.Math.Decide.{ℕ_discrete}
use Rattle.std.proofs.Math.Bool.{decide}
use Rattle.history.specs.Message.{View, Message}

-- What a client asks for. Document 01's look is a scan.
pub data Operation : Type 0 where
  update : (report : ℕ) → Operation
  scan : Operation

-- How much of a step's list an event lets out: all of it, or its first m entries, after which the node stops.
pub data Extent : Type 0 where
  whole : Extent
  cut : ℕ → Extent

-- What may happen, with any numbers.
pub data Event : Type 0 where
  begin : (node : ℕ) → Operation → Extent → Event
  deliver : (sender receiver : ℕ) → Extent → Event
  stop : (node : ℕ) → Event

-- The lattice operations of an operation: phase 0 of an update, then the three of the renewal.
pub data Round : Type 0 where
  round0 round1 round2 round3 : Round

-- How an operation came by its view: a good round of its own, or one that another node lent.
pub data Rule : Type 0 where
  direct : Round → Rule
  borrowed : Rule

-- What a step tells the client: nothing, that its update is done, what its scan shows, or that no tag was left. An
-- update has a view too (line 9), which the client is not given.
pub data Ending : Type 0 where
  none : Ending
  done : Rule → View → Ending
  shown : Rule → View → Ending
  spent : Ending

-- A refusal by its number in document 01, or the ending that the event gives.
pub data Response : Type 0 where
  refused : ℕ → Response
  accepted : Ending → Response

-- A message let out to one node.
pub record Sent : Type 0 where
  pub to : ℕ
  pub message : Message

-- The messages among the entries that go to node b.
unfoldable pub sent_to : ℕ → List Sent → List Message
sent_to b [] = []
sent_to b (s ∷ l) = cond (decide (ℕ_discrete s.to b)) (s.message ∷ sent_to b l) (sent_to b l)
