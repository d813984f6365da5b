-- What is claimed of every run of the algorithm: demand 3, also for the sizes of document 01; and when an update is
-- spent.
use Rattle.std.specs.Prelude.{ℕ, ◌+◌, ◌-◌, ◌≤◌, ◌<◌, max, ◌≡◌, ◌↔◌, Bool, List}
use Rattle.logs.specs.Count.{count}
use Rattle.history.specs.Message.{Message}
use Rattle.history.specs.Event.{Operation, update, scan, none, spent, Event}
use Rattle.history.specs.Order.{OneTo, SingleOrder, Quiet}
use Rattle.algorithm.specs.Algorithm.{limit, Wait, idle, reading, writing, comparing, borrowing, Node, react}
use Rattle.algorithm.specs.Algorithm.{message_step, begin_step}
use Rattle.eqaso.specs.Cluster.{at_most, unlimited, trace}

-- Demand 3: of every list of events, with any numbers, on channels with a given room.
abbrev pub Demand3 : (n f : ℕ) (room : ℕ → Bool) → Type 0
Demand3 n f room = (es : List Event) → SingleOrder n (trace n f room es) × Quiet n (trace n f room es)

-- Document 01's channels hold at most sixteen messages.
abbrev pub sixteen : ℕ → Bool
sixteen = at_most 16

-- Demand 3 of document 01: one to sixteen nodes, of which f may stop, for each f with 2f < n (document 02, [4]).
abbrev pub Claim3 : Type 0
Claim3 = (n f : ℕ) → OneTo 16 n → f + f < n → Demand3 n f sixteen

-- Demand 3 on links without a limit, where no channel is ever full.
abbrev pub OnLinks : Type 0
OnLinks = (n f : ℕ) → f + f < n → Demand3 n f unlimited

-- An update has read: a quorum has answered, and the tag that it uses (amendment 3) is the largest.
abbrev pub ReadLast : (n f : ℕ) → Node → Wait → Type 0
ReadLast n f ν (reading (update p) s u) = (n - f ≤ count s n) × (max u ν.maxtag ≡ limit)
ReadLast n f ν (reading scan s u) = ⊥
ReadLast n f ν idle = ⊥
ReadLast n f ν (writing op r t s) = ⊥
ReadLast n f ν (comparing op r t) = ⊥
ReadLast n f ν (borrowing op t) = ⊥

-- Amendment 5: a message ends an operation as spent just if that is an update which has now read the largest tag, and
-- then nothing more is sent.
pub record SpentLast (n f : ℕ) : Type 0 where
  pub just : (i k : ℕ) (m : Message) (ν : Node)
      → ((message_step n f i k m ν).ending ≡ spent) ↔ ReadLast n f (react k m ν).node (react k m ν).node.wait
  pub silent : (i k : ℕ) (m : Message) (ν : Node) → (message_step n f i k m ν).ending ≡ spent
      → (message_step n f i k m ν).sent ≡ (react k m ν).sent

-- No operation ends in its begin step.
abbrev pub BeginsOpen : (n f : ℕ) → Type 0
BeginsOpen n f = (i : ℕ) (op : Operation) (ν : Node) → (begin_step n f i op ν).ending ≡ none
