-- What a call at a node leaves. Assumes nothing.
use Rattle.std.specs.Prelude.{ℕ, List}
use Rattle.octets.specs.Answer.{Answer}
use Rattle.record.specs.declared.Node.{Node}
use Rattle.step.specs.declared.Ending.{Ending}
use Rattle.step.specs.Told.{Told}

-- What is told; the same with the rule of an ending, which document 01 does not ask for; the record; how many bytes of
-- messages stand at the start of the output buffer; and the whole buffer.
pub record CallResult : Type 0 where
  pub answer : Told
  pub ending : Answer Ending
  pub node : Node
  pub length : ℕ
  pub out : List ℕ
