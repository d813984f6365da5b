-- What is said of a line of a session that is run.
use Rattle.std.specs.Prelude.{ℕ, Option, Some, None}
use Rattle.step.specs.Told.{Told, refusal, nothing, done, scan, spent}
use Rattle.lines.specs.declared.Command.{Command}
use Rattle.lines.specs.declared.Command.TheVariants.{Update, Scan, Deliver, Stop}
use Rattle.answers.specs.declared.Printed.{Printed}
use Rattle.answers.specs.declared.Printed.TheVariants.{Done as SayDone, Scan as SayScan, Spent as SaySpent, No}

-- the node that handles it, and whose operation it may end: of a delivery the receiver; none of a bad line
abbrev pub handler : Option Command → ℕ
handler (Some (Update c p x)) = c
handler (Some (Scan c x)) = c
handler (Some (Deliver a c x)) = c
handler (Some (Stop c)) = c
handler None = 0

-- what is said of it, by what it tells in document 01's terms: the ending at that node, or the refusal
abbrev pub printed_for : ℕ → Told → Option Printed
printed_for c (refusal k) = Some (No k)
printed_for c nothing = None
printed_for c done = Some (SayDone c)
printed_for c (scan v) = Some (SayScan c)
printed_for c (spent k) = Some (SaySpent c)
