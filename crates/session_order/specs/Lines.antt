-- What is printed, beside what is seen of a run in the algorithm's terms. Of the lines of a session the bad ones are
-- refused with 1, and each of the others is the next event of the run.
use Rattle.std.specs.Prelude.{ℕ, Option, Some, None, ◌≡◌, List, [], ◌∷◌, ◌++◌}
use Rattle.record.specs.declared.Operation.TheVariants.{Update as UpdateOf, Scan as ScanOf}
use Rattle.lines.specs.declared.Command.{Command}
use Rattle.lines.specs.declared.Command.TheVariants.{Update, Scan, Deliver, Stop}
use Rattle.answers.specs.Answer.{done_is, scan_is, spent_is, no_is, start, entry, feed}
use Rattle.history.specs.Message as M
use Rattle.history.specs.Event as H
use Rattle.history.specs.Trace.{Seen, Trace}
use Rattle.mirror.specs.Run.{Event, begin, deliver, stop, meaning}
use Rattle.session_progress.specs.Progress.{next, bad_line}
use Rattle.session_reply.specs.Reply.{handler}

-- The events of a cluster that lines are; a bad line is none.
abbrev pub events_of : List (Option Command) → List Event
events_of [] = []
events_of (Some (Update c p x) ∷ ls) = begin c (UpdateOf p) x ∷ events_of ls
events_of (Some (Scan c x) ∷ ls) = begin c ScanOf x ∷ events_of ls
events_of (Some (Deliver a c x) ∷ ls) = deliver a c x ∷ events_of ls
events_of (Some (Stop c) ∷ ls) = stop c ∷ events_of ls
events_of (None ∷ ls) = events_of ls

-- What is printed of a view: of each node the sixteen digits of its report's number, or `-` beside tag 0.
abbrev pub printed_of : M.Entry → List ℕ
printed_of x = entry x.tag x.report

abbrev pub reports : M.View → List ℕ
reports [] = []
reports (x ∷ w) = printed_of x ++ reports w

-- An ending at node c prints event, `done` or `scan` or `spent`, c, and for a scan the reports of its view; a refusal
-- prints event, `no`, number.
pub data Shows (e c : ℕ) : H.Response → List ℕ → Type 0 where
  silence : Shows e c (H.accepted H.none) []
  done : (r : H.Rule) (w : M.View) → Shows e c (H.accepted (H.done r w)) (start e done_is c ++ feed)
  scan : (r : H.Rule) (w : M.View) → Shows e c (H.accepted (H.shown r w)) (start e scan_is c ++ reports w ++ feed)
  spent : Shows e c (H.accepted H.spent) (start e spent_is c ++ feed)
  refusal : (k : ℕ) → Shows e c (H.refused k) (start e no_is k ++ feed)

-- Lines, the first of them event e; what is seen of those that are events; and what is printed.
pub data Lines : (e : ℕ) → List (Option Command) → Trace → List ℕ → Type 0 where
  none : {e : ℕ} → Lines e [] [] []
  bad : {e : ℕ} {ls : List (Option Command)} {tr : Trace} {o : List ℕ} → Lines (next e) ls tr o
      → Lines e (None ∷ ls) tr (bad_line e ++ o)
  event : {e : ℕ} {l : Command} {ls : List (Option Command)} {x : Seen} {tr : Trace} {u o : List ℕ} (y : Event)
      → events_of (Some l ∷ []) ≡ y ∷ [] → x.event ≡ meaning y → Shows e (handler (Some l)) x.answer u
      → Lines (next e) ls tr o → Lines e (Some l ∷ ls) (x ∷ tr) (u ++ o)

-- Lines and what is seen of their events tell what is printed.
abbrev pub Determined : Type 0
Determined =
    (e : ℕ) (ls : List (Option Command)) (tr : Trace) (o u : List ℕ) → Lines e ls tr o → Lines e ls tr u → o ≡ u
