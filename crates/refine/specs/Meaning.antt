-- What the values of the code mean for the algorithm over sets: a report is the number of its eight bytes, a message is
-- the source's, addressed, and a view has an entry for each node.
use Rattle.std.specs.Prelude.{ℕ, zero, suc, List, map}
use Rattle.view.specs.Report.{report_number}
use Rattle.view.specs.declared.Report.{Report}
use Rattle.view.specs.declared.View.{View}
use Rattle.wire.specs.declared.Message.{Message}
use Rattle.wire.specs.declared.Message.TheVariants.{Read, ReadAnswer, Write, WriteAnswer, Echo, Value, Good}
use Rattle.table.specs.Table.{tag_of, report_of}
use Rattle.record.specs.declared.Operation.{Operation}
use Rattle.record.specs.declared.Operation.TheVariants.{Update, Scan}
use Rattle.record.specs.declared.Kind.{Kind}
use Rattle.record.specs.declared.Kind.TheVariants.{Update as UpdateKind, Scan as ScanKind}
use Rattle.step.specs.declared.Outbox.{Outbox}
use Rattle.step.specs.declared.Rule.{Rule}
use Rattle.step.specs.declared.Rule.TheVariants.{Direct, Borrowed}
use Rattle.step.specs.declared.Ending.{Ending}
use Rattle.step.specs.declared.Ending.TheVariants.{None, Done, Scan as Scanned, Spent}
use Rattle.step.specs.Step.{messages}
use Rattle.history.specs.Message as M
use Rattle.history.specs.Event as H
use Rattle.algorithm.specs.Algorithm as A

abbrev pub code : Report → ℕ
code p = report_number p

-- What a view of the code has of writer w, and of all nodes 1 to n.
abbrev pub entry_of : View → ℕ → M.Entry
entry_of v w = record { tag = tag_of v w; report = code (report_of v w) }

abbrev pub view_meaning : ℕ → View → M.View
view_meaning n v = A.table (entry_of v) n

-- A message beside its view v. An answer goes to node `to`.
abbrev pub message_of : (n to : ℕ) → View → Message → M.Message
message_of n to v (Read q) = M.read q
message_of n to v (ReadAnswer q t) = M.read_answer to q t
message_of n to v (Write q t) = M.write q t
message_of n to v (WriteAnswer q t) = M.write_answer to q t
message_of n to v (Echo t) = M.echo t
message_of n to v (Value t w p) = M.value (record { tag = t; writer = w; report = code p })
message_of n to v (Good t) = M.good t (view_meaning n v)

-- The messages of a step, in order.
abbrev pub sent_of : ℕ → Outbox → List M.Message
sent_of n o = map (message_of n o.to o.view) (messages o)

abbrev pub operation_of : Operation → H.Operation
operation_of (Update p) = H.update (code p)
operation_of Scan = H.scan

abbrev pub kind_of : H.Operation → Kind
kind_of (H.update p) = UpdateKind
kind_of H.scan = ScanKind

-- The number of a round.
abbrev pub number : H.Round → ℕ
number H.round0 = 0
number H.round1 = 1
number H.round2 = 2
number H.round3 = 3

abbrev pub round_of : ℕ → H.Round
round_of zero = H.round0
round_of (suc zero) = H.round1
round_of (suc (suc zero)) = H.round2
round_of (suc (suc (suc i))) = H.round3

abbrev pub rule_of : Rule → H.Rule
rule_of (Direct i) = H.direct (round_of i)
rule_of Borrowed = H.borrowed

-- An ending beside its view.
abbrev pub ending_of : ℕ → View → Ending → H.Ending
ending_of n v None = H.none
ending_of n v (Done r) = H.done (rule_of r) (view_meaning n v)
ending_of n v (Scanned r) = H.shown (rule_of r) (view_meaning n v)
ending_of n v Spent = H.spent
