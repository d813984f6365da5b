-- Where a message goes: an answer to the node that asked, any other message to all.
use Rattle.std.specs.Prelude.{ℕ}
use Rattle.history.specs.Message.{Message, read, read_answer, write, write_answer, echo, value, good}

pub data Address : Type 0 where
  one : (node : ℕ) → Address
  all : Address

abbrev pub address : Message → Address
address (read_answer to q t) = one to
address (write_answer to q t) = one to
address (read q) = all
address (write q t) = all
address (echo t) = all
address (value v) = all
address (good t v) = all
