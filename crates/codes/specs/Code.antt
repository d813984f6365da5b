-- The numbers that stand for enums at the border to C, and what is written into lent memory there.
use Rattle.std.specs.Prelude.{ℕ, ◌+◌, min, ◌≡◌, Bool, List, [], ◌∷◌, eqb, length, get_or, replicate}
use Rattle.octets.specs.Answer.{Answer, returned, refused}
use Rattle.octets.specs.Test.{pick}
use Rattle.view.specs.Size.{report_size}
use Rattle.view.specs.Report.{report_bytes, report_of}
use Rattle.view.specs.declared.Report.{Report}
use Rattle.wire.specs.Layout.{encode}
use Rattle.wire.specs.Codec.{answer, after}
use Rattle.wire.specs.declared.Message.{Message}
use Rattle.wire.specs.declared.Message.TheVariants.{Read, ReadAnswer, Write, WriteAnswer, Echo, Value, Good}
use Rattle.figures.specs.declared.Totals.{Totals}
use Rattle.page.specs.Page.{page_in, page_length, page_left}
use Rattle.step.specs.declared.Rule.{Rule}
use Rattle.step.specs.declared.Rule.TheVariants.{Direct, Borrowed}
use Rattle.step.specs.declared.Ending.{Ending}
use Rattle.step.specs.declared.Ending.TheVariants.{None, Done, Scan, Spent}
use Rattle.step.specs.Told.{Told, refusal, nothing, done, scan, spent}
use Rattle.outgoing.specs.Entries.{is_answer}
use Rattle.outgoing.specs.declared.Extent.{Extent}
use Rattle.outgoing.specs.declared.Extent.TheVariants.{Whole, Cut}
use Rattle.events.specs.Event.{Result}
use Rattle.events.specs.Outcome.{told_of}
use Rattle.calls_bytes.specs.Entry.{LentResult}

-- How much an event lets out: all, or the first m entries of a cut.
abbrev pub extent_of : (cut : Bool) (m : ℕ) → Extent
extent_of cut m = pick cut (Cut m) Whole

-- The rule by which an operation ended: the round of its own, 1 to 3, or 0 for a kept good message.
abbrev pub rule_code : Rule → ℕ
rule_code (Direct i) = min i 3
rule_code Borrowed = 0

-- The greatest refusal of document 01, that of a frame, and that of a page. Others may come: every refusal stands below
-- the codes of done, and none is 13, which is spent's.
abbrev pub last_refusal : ℕ
last_refusal = 12

abbrev pub frame_refusal : ℕ
frame_refusal = 14

abbrev pub page_refusal : ℕ
page_refusal = 15

-- The first code of done and of a scan, to which the rule is added.
abbrev pub done_from : ℕ
done_from = 100

abbrev pub scan_from : ℕ
scan_from = 110

-- An event's answer, by what it tells: 0 where nothing ended, the number of a refusal or of spent, or the code of an
-- ending with its rule.
abbrev pub event_code : Told → (rule : ℕ) → ℕ
event_code (refusal k) i = k
event_code nothing i = 0
event_code done i = done_from + i
event_code (scan v) i = scan_from + i
event_code (spent k) i = k

-- the rule of an ending, which document 01 does not ask for
abbrev pub rule_in : Answer Ending → ℕ
rule_in (refused k) = 0
rule_in (returned None) = 0
rule_in (returned (Done r)) = rule_code r
rule_in (returned (Scan r)) = rule_code r
rule_in (returned Spent) = 0

abbrev pub code_of : Result → ℕ
code_of e = event_code (told_of e) (rule_in e.answer)

-- The four numbers of a message: its kind, request number, writer and tag, 0 where the kind has none.
abbrev pub numbers : Message → List ℕ
numbers (Read q) = 1 ∷ q ∷ 0 ∷ 0 ∷ []
numbers (ReadAnswer q t) = 2 ∷ q ∷ 0 ∷ t ∷ []
numbers (Write q t) = 3 ∷ q ∷ 0 ∷ t ∷ []
numbers (WriteAnswer q t) = 4 ∷ q ∷ 0 ∷ t ∷ []
numbers (Echo t) = 5 ∷ 0 ∷ 0 ∷ t ∷ []
numbers (Value t w p) = 6 ∷ 0 ∷ w ∷ t ∷ []
numbers (Good t) = 7 ∷ 0 ∷ 0 ∷ t ∷ []

-- The bytes of its report, zeros where the kind has none.
abbrev pub report_in : Message → List ℕ
report_in (Read q) = replicate report_size 0
report_in (ReadAnswer q t) = replicate report_size 0
report_in (Write q t) = replicate report_size 0
report_in (WriteAnswer q t) = replicate report_size 0
report_in (Echo t) = replicate report_size 0
report_in (Value t w p) = report_bytes p
report_in (Good t) = replicate report_size 0

-- The message of four numbers and a report. A kind that is none of the seven gives one that the layout never allows.
abbrev pub message_of : (k q w t : ℕ) → Report → Message
message_of k q w t p =
    pick (eqb k 1) (Read q)
    (pick (eqb k 2) (ReadAnswer q t)
    (pick (eqb k 3) (Write q t)
    (pick (eqb k 4) (WriteAnswer q t)
    (pick (eqb k 5) (Echo t)
    (pick (eqb k 6) (Value t w p)
    (pick (eqb k 7) (Good t)
    (Read 0)))))))

abbrev pub message_in : (numbers report : List ℕ) → Message
message_in b p = message_of (get_or b 0 0) (get_or b 1 0) (get_or b 2 0) (get_or b 3 0) (report_of p)

-- The four figures in their order.
abbrev pub four_figures : Totals → List ℕ
four_figures t = t.extensions ∷ t.lines ∷ t.waiting ∷ t.wakeups ∷ []

-- What an event leaves: its answer's code and the lent bytes.
abbrev pub Leaves : ℕ → List ℕ → Result → Type 0
Leaves r b e = (r ≡ code_of e) × (b ≡ e.bytes)

-- A call that is no event: 0 or the refusal, and what is lent for a part f of the result, which a refusal leaves.
abbrev pub answer_code : {A : Type 0} → Answer A → ℕ
answer_code (returned x) = 0
answer_code (refused k) = k

abbrev pub lent : {A B : Type 0} → (A → B) → Answer A → B → B
lent f (returned x) before = f x
lent f (refused k) before = before

-- What writing a message leaves: its code, the length, which was `before`, and the buffer, which was `room`.
abbrev pub Wrote : (r len : ℕ) (out : List ℕ) → ℕ → Message → (view : List ℕ) (before : ℕ) (room : List ℕ) → Type 0
Wrote r len out n m v before room =
    let a = answer n m v (length room) in
    (r ≡ answer_code a) × (len ≡ lent (λ k. k) a before) × (out ≡ after a (encode m v) room)

-- What the desk's page leaves, in the same way.
abbrev pub WrotePage : (r len : ℕ) (out : List ℕ) → ℕ → (view : List ℕ) (before : ℕ) (room : List ℕ) → Type 0
WrotePage r len out n v before room =
    let a = page_in n v (length room) in
    (r ≡ answer_code (page_length a)) × (len ≡ lent (λ k. k) (page_length a) before) × (out ≡ page_left a room)

-- A call at one node on lent bytes has the code of an event.
abbrev pub lent_code : LentResult → ℕ
lent_code e = event_code e.answer (rule_in e.ending)

-- What such a call leaves: its code, the bytes of the record and of the output buffer, and the length of the messages
-- in it, which was `before`.
abbrev pub LeavesNode : (r : ℕ) (state out : List ℕ) (len : ℕ) → LentResult → (before : ℕ) → Type 0
LeavesNode r state out len e before =
    (r ≡ lent_code e) × (state ≡ e.bytes) × (out ≡ e.out) × (len ≡ lent (λ x. e.length) e.ending before)

-- Where a message of an output goes: to all nodes, or to the sender of the message that was handled.
abbrev pub to_all : ℕ
to_all = 0

abbrev pub to_sender : ℕ
to_sender = 1

abbrev pub route_of : Message → ℕ
route_of m = pick (is_answer m) to_sender to_all
