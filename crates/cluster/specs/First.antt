-- Cited by inner contracts only: the handler's part of a delivery, done on a copy of the record's bytes or where they
-- lie.
use Rattle.std.specs.Prelude.{ℕ, ◌+◌, ◌≡◌, List}
use Rattle.octets.specs.Answer.{returned}
use Rattle.view.specs.View.{view_of}
use Rattle.wire.specs.Codec.{front, view_at}
use Rattle.wire.specs.declared.Message.{Message}
use Rattle.step.specs.React.{react}
use Rattle.step.specs.declared.Step.{Step}
use Rattle.region.specs.Channel.{first}
use Rattle.region.specs.Record.{record_of}
use Rattle.block.specs.Block.{record_place, record_in}
use Rattle.layout.specs.Layout.{block_place, block, channel}

-- What m, the oldest message from a to c in bytes b, does at a node with record bytes r.
abbrev pub react_first : (n a c : ℕ) → Message → (r b : List ℕ) → Step
react_first n a c m r b = react (record_of r) a m (view_of n (view_at n (first (channel b a c))))

-- The same done where the record lies, and the place of the record of node c.
abbrev pub react_to : (n a c : ℕ) → Message → (b : List ℕ) → Step
react_to n a c m b = react_first n a c m (record_in (block b c)) b

abbrev pub record_at : ℕ → ℕ
record_at c = block_place c + record_place

-- The oldest message from a to c is m.
abbrev pub Oldest : (n a c : ℕ) → Message → (b : List ℕ) → Type 0
Oldest n a c m b = (k : ℕ) × (front n (first (channel b a c)) ≡ returned (m, k))
