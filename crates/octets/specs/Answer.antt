-- What a call answers, whatever enum the code uses for it: a result, or the number of a refusal in document 01.
use Rattle.std.specs.Prelude.{ℕ}

pub data Answer (A : Type 0) : Type 0 where
  returned : A → Answer A
  refused : ℕ → Answer A
