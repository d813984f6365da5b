-- The number of a refusal, and what a call answers in its terms.
use Rattle.std.specs.Prelude.{ℕ, Result, Ok, Err}
use Rattle.octets.specs.Answer.{Answer, returned, refused}
use Rattle.refusal.specs.declared.Refusal.{Refusal}
use Rattle.refusal.specs.declared.Refusal.TheVariants.{Size, Unusable, Node, Stopped, Open, Requests, Layout}
use Rattle.refusal.specs.declared.Refusal.TheVariants.{Empty, Value, Stops, Full, Length, Frame, Page}

abbrev pub number : Refusal → ℕ
number Size = 1
number Unusable = 2
number Node = 3
number Stopped = 4
number Open = 5
number Requests = 6
number Layout = 7
number Empty = 8
number Value = 9
number Stops = 10
number Full = 11
number Length = 12
number Frame = 14
number Page = 15

abbrev pub answer : {A : Type 0} → Result A Refusal → Answer A
answer (Ok x) = returned x
answer (Err k) = refused (number k)
