-- What a call tells the client, in document 01's terms: the number of a refusal, that no operation has ended, or how it
-- ended: done, a scan with its view, or spent with its number, which is an ending's and no refusal's. The contracts
-- that speak of an ending cite this definition.
-- Assumes nothing.
use Rattle.std.specs.Prelude.{ℕ}
use Rattle.octets.specs.Answer.{Answer, returned, refused}
use Rattle.view.specs.View.{no_view}
use Rattle.view.specs.declared.View.{View}
use Rattle.step.specs.declared.Ending.{Ending}
use Rattle.step.specs.declared.Ending.TheVariants.{None, Done, Scan, Spent}

pub data Told : Type 0 where
  refusal : ℕ → Told
  nothing : Told
  done : Told
  scan : View → Told
  spent : ℕ → Told

-- amendment 5: the number of an ending where no tag was left
abbrev pub spent_number : ℕ
spent_number = 13

-- an answer beside the view of the operation that ended: an update does not show its view
abbrev pub told : Answer Ending → View → Told
told (refused k) v = refusal k
told (returned None) v = nothing
told (returned (Done r)) v = done
told (returned (Scan r)) v = scan v
told (returned Spent) v = spent spent_number

-- the view that is shown, only by a scan
abbrev pub told_view : Told → View
told_view (refusal k) = no_view
told_view nothing = no_view
told_view done = no_view
told_view (scan v) = v
told_view (spent k) = no_view
