-- The reply to a step in document 01's terms. Assumes nothing.
use Rattle.std.proofs.Common.{◌≡◌, refl, ap, Ok}
use Rattle.octets.specs.Answer.{returned}
use Rattle.view.specs.declared.View.{View}
use Rattle.step.specs.declared.Ending.{Ending}
use Rattle.step.specs.declared.Ending.TheVariants.{None, Done, Scan, Spent}
use Rattle.step.specs.Told.{scan, told, told_view}
use Rattle.reply.specs.Tells.{told_by}

-- the view that is shown is all that is told of a view
pub told-told_view : (e : Ending) (v : View) → told (returned e) (told_view (told (returned e) v)) ≡ told (returned e) v
told-told_view None v = refl
told-told_view (Done r) v = refl
told-told_view (Scan r) v = refl
told-told_view Spent v = refl

-- an ending beside the view that is shown
pub tells-ending : (e : Ending) (v w : View) → w ≡ told_view (told (returned e) v)
    → told_by (Ok e) w ≡ told (returned e) v
tells-ending None v w k = refl
tells-ending (Done r) v w k = refl
tells-ending (Scan r) v w k = ap scan k
tells-ending Spent v w k = refl
