-- What the answer of an event says. In document 01's terms that is `told` of step: the refusal's number, or the ending
-- with its number and values. The code gives more: the rule of an ending, and the view of an update.
use Rattle.std.specs.Prelude.{ℕ, ◌≡◌, List, Ok, Err}
use Rattle.std.specs.Prelude.{Result as OkOrErr}
use Rattle.octets.specs.Answer.{Answer, returned, refused}
use Rattle.refusal.specs.Refusal.{number}
use Rattle.refusal.specs.declared.Refusal.{Refusal}
use Rattle.view.specs.View.{no_view}
use Rattle.view.specs.declared.View.{View}
use Rattle.step.specs.declared.Ending.{Ending}
use Rattle.step.specs.Told.{Told, told}
use Rattle.events.specs.Event.{Result}
use Rattle.events.specs.declared.Ended.{Ended}

abbrev pub Reply : Type 0
Reply = OkOrErr Ended Refusal

abbrev pub answer_of : Reply → Answer Ending
answer_of (Err k) = refused (number k)
answer_of (Ok e) = returned e.ending

-- the view beside it, none beside a refusal
abbrev pub view_by : Reply → View
view_by (Err k) = no_view
view_by (Ok e) = e.view

-- the number of a refusal, 0 where nothing is refused
abbrev pub fault : {A : Type 0} → OkOrErr A Refusal → ℕ
fault (Err k) = number k
fault (Ok x) = 0

-- What an answer and an event tell in document 01's terms: no rule, and of the views only a scan's.
abbrev pub told_by : Reply → Told
told_by r = told (answer_of r) (view_by r)

abbrev pub told_of : Result → Told
told_of e = told e.answer e.view

-- An answer tells what its event tells; its rule, its view and the bytes at exit are the event's too.
abbrev pub Tells : Reply → List ℕ → Result → Type 0
Tells r b e = (told_by r ≡ told_of e) × (answer_of r ≡ e.answer) × (view_by r ≡ e.view) × (b ≡ e.bytes)
