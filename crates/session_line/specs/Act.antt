-- What a line of a session does on a cluster's bytes, and what is printed for it. A bad line changes nothing and is
-- refused with 1.
use Rattle.std.specs.Prelude.{ℕ, List, Option, Some, None}
use Rattle.record.specs.declared.Operation.TheVariants.{Update as UpdateOf, Scan as ScanOf}
use Rattle.step.specs.Told.{told_view}
use Rattle.layout.specs.Layout.{stated}
use Rattle.events.specs.Event.{Result, refuse, begin, deliver}
use Rattle.events.specs.Outcome.{told_of}
use Rattle.events.specs.Stop.{stop}
use Rattle.lines.specs.declared.Command.{Command}
use Rattle.lines.specs.declared.Command.TheVariants.{Update, Scan, Deliver, Stop}
use Rattle.answers.specs.Answer.{line}
use Rattle.session_reply.specs.Reply.{handler, printed_for}

-- the event that a line is
abbrev pub ran : Option Command → List ℕ → Result
ran (Some (Update c p x)) b = begin c (UpdateOf p) x b
ran (Some (Scan c x)) b = begin c ScanOf x b
ran (Some (Deliver a c x)) b = deliver a c x b
ran (Some (Stop c)) b = stop c b
ran None b = refuse 1 b

-- the bytes printed for event e: a scan's view with an entry for each node that the cluster's bytes state
unfoldable pub printed : (e : ℕ) → Option Command → List ℕ → List ℕ
printed e l b = line e (printed_for (handler l) (told_of (ran l b))) (stated b) (told_view (told_of (ran l b)))
