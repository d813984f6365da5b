-- When an event on bytes and an event of the algorithm's cluster are the same: the same answer (a refusal's number, or
-- the ending with its rule and view), the same entries let out, in order, and bytes that mirror the cluster after it.
use Rattle.std.specs.Prelude.{ℕ, ◌≡◌, map}
use Rattle.octets.specs.Answer.{Answer, returned, refused}
use Rattle.view.specs.declared.View.{View}
use Rattle.step.specs.declared.Ending.{Ending}
use Rattle.events.specs.Event.{Result}
use Rattle.history.specs.Event as H
use Rattle.eqaso.specs.Cluster as K
use Rattle.refine.specs.Meaning.{ending_of}
use Rattle.mirror.specs.Mirrors.{mail, Mirrors}

abbrev pub response_of : ℕ → View → Answer Ending → H.Response
response_of n v (returned e) = H.accepted (ending_of n v e)
response_of n v (refused k) = H.refused k

pub record SameResult (n f : ℕ) (r : Result) (t : K.Result) : Type 0 where
  pub answer : response_of n r.view r.answer ≡ t.answer
  pub sent : map (mail n) r.sent ≡ t.sent
  pub mirrors : Mirrors n f r.bytes t.cluster
