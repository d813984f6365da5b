-- What the nodes of a cluster send to each other, as values: the messages of Algorithm 1 of the source with document
-- 01's amendments. A report is an opaque number here. How a message stands in bytes is another layer's matter.
use Rattle.std.specs.Prelude.{ℕ, List}

-- One written value: ⟨v, ⟨r, j⟩⟩ of the source. The tag is document 01's stamp; the writer is a node from 1 to n.
pub record Value : Type 0 where
  pub tag : ℕ
  pub writer : ℕ
  pub report : ℕ

abbrev pub of : ℕ → ℕ → ℕ → Value
of t w r = record { tag = t; writer = w; report = r }

-- What a view has of one node: the tag and report of its newest value in the view, or (0, 0) where it has none.
pub record Entry : Type 0 where
  pub tag : ℕ
  pub report : ℕ

abbrev pub absent : Entry
absent = record { tag = 0; report = 0 }

-- What a scan answers: an entry for each of the nodes 1 to n, in their order (the source's Snap).
abbrev pub View : Type 0
View = List Entry

-- The seven kinds. Requests and their answers carry the request number of amendment 2; a good message carries its view
-- (amendment 4). An answer names its receiver, the node that asked: that is its address, no part of what it says.
pub data Message : Type 0 where
  read : (request : ℕ) → Message
  read_answer : (to request tag : ℕ) → Message
  write : (request tag : ℕ) → Message
  write_answer : (to request tag : ℕ) → Message
  echo : (tag : ℕ) → Message
  value : Value → Message
  good : (tag : ℕ) (view : View) → Message
