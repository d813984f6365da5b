-- The answer of a call on lent bytes in document 01's terms. Assumes nothing.
use Rattle.std.specs.Prelude.{ℕ, ◌≡◌, List, Result, Ok, Err}
use Rattle.octets.specs.Answer.{Answer, returned, refused}
use Rattle.refusal.specs.Refusal.{number}
use Rattle.refusal.specs.declared.Refusal.{Refusal}
use Rattle.step.specs.Told.{told, told_view}
use Rattle.step.specs.declared.Ending.{Ending}
use Rattle.calls_bytes.specs.Entry.{LentResult}
use Rattle.calls_bytes.specs.Shown.{event_view}
use Rattle.node_bytes.specs.declared.Called.{Called}

abbrev pub Reply : Type 0
Reply = Result Called Refusal

abbrev pub answer_of : Reply → Answer Ending
answer_of (Err k) = refused (number k)
answer_of (Ok a) = returned a.ending

-- how many bytes it wrote, none where it is refused
abbrev pub length_of : Reply → ℕ
length_of (Err k) = 0
length_of (Ok a) = a.length

-- An answer, with the bytes of the record and of the buffer at exit, is that of a result: it tells what the result
-- tells, with the view that is shown, which only a scan does.
abbrev pub Tells : Reply → (r out : List ℕ) → LentResult → Type 0
Tells a r out e =
    (told (answer_of a) (told_view e.answer) ≡ e.answer) × (answer_of a ≡ e.ending) × (length_of a ≡ e.length)
    × (r ≡ e.bytes) × (out ≡ e.out)

-- The same with the lent view at exit, which was `before`.
abbrev pub Shows : Reply → (r out view : List ℕ) → LentResult → (before : List ℕ) → Type 0
Shows a r out view e before = Tells a r out e × (view ≡ event_view e.answer before)
