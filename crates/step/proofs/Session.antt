-- Document 01's session for one node, computed: an update and then a scan, every message delivered to its sender.
-- Assumes nothing.
use mathlib.Core.Path.{◌≡◌, refl}
use mathlib.Core.List.{List, [], ◌∷◌, ◌++◌, map}
use Prim.Native.Nat.{ℕ, zero, suc}
use Rattle.view.specs.declared.Report.{Report}
use Rattle.view.specs.declared.View.{View}
use Rattle.wire.specs.declared.Message.{Message}
use Rattle.wire.specs.declared.Message.TheVariants.{ReadAnswer, Write, WriteAnswer, Echo, Value, Good}
use Rattle.octets.specs.Loop as Octets
use Rattle.view.specs.View.{no_view, first_of}
use Rattle.table.specs.Loop.{all, count, numbered}
use Rattle.table.specs.Table.{put_entry, newest}
use Rattle.table.specs.Quorum.{member, with, members_in, agrees, agreeing}
use Rattle.record.specs.Record.{blank}
use Rattle.record.specs.declared.Node.{Node}
use Rattle.record.specs.declared.Operation.TheVariants.{Update, Scan}
use Rattle.step.specs.declared.Ending.{Ending}
use Rattle.step.specs.declared.Ending.TheVariants.{None, Done, Scan as Scanned}
use Rattle.step.specs.declared.Rule.TheVariants.{Direct}
use Rattle.step.specs.declared.Step.{Step}
use Rattle.step.specs.Step.{messages}
use Rattle.step.specs.React.{react, raised, received, keep}
use Rattle.step.specs.Move.{message_step, begun, begin_step, move_on, read_pass, write_pass, compare_pass, borrow_pass}
use Rattle.step.specs.Move.{after_read, after_good, after_failed, opened}

-- a message on the node's channel to itself, with the view that a good one carries
record Letter : Type 0 where
  message : Message
  view : View

-- what an event shows: its messages, its ending and the ending's view
record Shown : Type 0 where
  sent : List Message
  ending : Ending
  view : View

abbrev letters : Step → List Letter
letters s = map (λ m. record { message = m; view = s.outbox.view }) (messages s.outbox)

abbrev shown : Step → Shown
shown s = record { sent = messages s.outbox; ending = s.ending; view = s.view }

-- k deliveries, of the letters in their order: what they show, and the node after them
deliver : ℕ → Node → List Letter → List Shown
unfolding message_step
deliver zero c l = []
deliver (suc k) c [] = []
deliver (suc k) c (x ∷ l) =
    let s = message_step 0 c 1 x.message x.view in shown s ∷ deliver k s.node (l ++ letters s)

last : ℕ → Node → List Letter → Node
last zero c l = c
last (suc k) c [] = c
last (suc k) c (x ∷ l) =
    let s = message_step 0 c 1 x.message x.view in last k s.node (l ++ letters s)

p : Report
p = record { extensions = 1; lines = 2; waiting = 3; wakeups = 4 }

quiet : List Message → Shown
quiet ms = record { sent = ms; ending = None; view = no_view }

update : Step
update = begin_step 0 (blank 1 0 1) (Update p)

updated : deliver 12 update.node (letters update) ≡
    quiet (ReadAnswer 1 0 ∷ []) ∷ quiet (Value 1 1 p ∷ Write 2 0 ∷ []) ∷ quiet (Value 1 1 p ∷ []) ∷ quiet
    (WriteAnswer 2 0 ∷ [])
    ∷ quiet [] ∷ quiet (Good 0 ∷ Write 3 1 ∷ []) ∷ quiet [] ∷ quiet (Echo 1 ∷ WriteAnswer 3 1 ∷ []) ∷ quiet []
    ∷ record { sent = Good 1 ∷ []; ending = Done (Direct 1); view = put_entry no_view 1 1 p } ∷ quiet [] ∷ []
unfolding deliver update p quiet message_step begun begin_step move_on read_pass write_pass compare_pass borrow_pass
    after_read
    after_good after_failed opened react raised received keep all count numbered newest member with members_in agrees
    agreeing first_of Octets.tab
updated = refl

-- the scan after it
scan : Step
scan = begin_step 0 (last 11 update.node (letters update)) Scan

scanned : deliver 6 scan.node (letters scan) ≡
    quiet (ReadAnswer 4 1 ∷ []) ∷ quiet (Write 5 1 ∷ []) ∷ quiet (WriteAnswer 5 1 ∷ [])
    ∷ record { sent = Good 1 ∷ []; ending = Scanned (Direct 1); view = put_entry no_view 1 1 p } ∷ quiet [] ∷ []
unfolding deliver last scan update p quiet message_step begun begin_step move_on read_pass write_pass compare_pass
    borrow_pass
    after_read after_good after_failed opened react raised received keep all count numbered newest member with
    members_in
    agrees agreeing first_of Octets.tab
scanned = refl
