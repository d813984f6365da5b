-- The reply of the code in document 01's terms.
-- Assumes nothing.
use Rattle.std.specs.Prelude.{ℕ, ◌≡◌, List, Result, Ok, Err}
use Rattle.view.specs.declared.View.{View}
use Rattle.refusal.specs.Refusal.{number}
use Rattle.refusal.specs.declared.Refusal.{Refusal}
use Rattle.step.specs.Told.{Told, refusal, nothing, done, scan, spent, spent_number, told_view}
use Rattle.step.specs.declared.Ending.{Ending}
use Rattle.step.specs.declared.Ending.TheVariants.{None, Done, Scan, Spent}
use Rattle.calls.specs.CallResult.{CallResult}
use Rattle.reply.specs.declared.Reply.{Reply}

-- what each case says, with the view beside it
abbrev pub told_by : Result Ending Refusal → View → Told
told_by (Err k) v = refusal (number k)
told_by (Ok None) v = nothing
told_by (Ok (Done r)) v = done
told_by (Ok (Scan r)) v = scan v
told_by (Ok Spent) v = spent spent_number

-- A reply and the buffer at exit are those of an outcome. Only a scan shows a view.
abbrev pub Tells : Reply → List ℕ → CallResult → Type 0
Tells r out e =
    (told_by r.said r.view ≡ e.answer) × (r.view ≡ told_view e.answer) × (r.node ≡ e.node)
    × (r.length ≡ e.length) × (out ≡ e.out)
