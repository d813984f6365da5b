-- How the open operation moves on until it must wait: four passes, each tried once, in the order of the waits. One run
-- of each is enough: what a pass leads to, a later one takes up, and a round that opens has no answers yet.
-- Assumes nothing.
use Rattle.std.specs.Prelude.{ℕ, ◌+◌, max, Bool, leb, ltb, eqb}
use Rattle.wire.specs.declared.Message.TheVariants.{Read, Write, Value, Good}
use Rattle.wire.specs.declared.Message.{Message}
use Rattle.view.specs.declared.View.{View}
use Rattle.octets.specs.Test.{pick}
use Rattle.view.specs.Size.{limit}
use Rattle.view.specs.View.{no_view, first_of}
use Rattle.table.specs.Table.{newest}
use Rattle.table.specs.Quorum.{members_in, is_quorum, agreeing}
use Rattle.record.specs.Record.{set_wait, with_wait, closed}
use Rattle.record.specs.declared.Node.{Node}
use Rattle.record.specs.declared.Operation.{Operation}
use Rattle.record.specs.declared.Operation.TheVariants.{Update, Scan}
use Rattle.record.specs.declared.Kind.{Kind}
use Rattle.record.specs.declared.Kind.TheVariants.{Update as UpdateKind, Scan as ScanKind}
use Rattle.record.specs.declared.Wait.{Wait}
use Rattle.record.specs.declared.Wait.TheVariants.{Idle, Reading, Writing, Comparing, Borrowing}
use Rattle.step.specs.declared.Sent.TheVariants.{Nothing, One, Two}
use Rattle.step.specs.declared.Rule.TheVariants.{Direct, Borrowed}
use Rattle.step.specs.declared.Ending.TheVariants.{Spent}
use Rattle.step.specs.declared.Step.{Step}
use Rattle.step.specs.Step.{started, after_reading, after_comparing, ended, ending_of}
use Rattle.step.specs.React.{react}

-- Lines 14 and 38: a round opens with tag r and the next request number; for each writer the newest report not above r
-- is held for it.
unfoldable pub opened : Node → Kind → ℕ → ℕ → Node
opened c k i r = set_wait c (c.request + 1) (Writing k i r 0) (newest r c.last c.atmax)

-- the write message that opens a round
abbrev pub writing : Node → ℕ → Message
writing c r = Write (c.request + 1) r

-- Lines 5 to 7 and 12, with the tag r used. Amendment 5: an update that used the largest tag is spent.
unfoldable pub after_read : Step → Node → Operation → ℕ → Step
after_read s c (Update p) r =
    pick (eqb r limit) (ended s (closed c Idle) Spent no_view)
    (after_reading s (opened c UpdateKind 0 r) (Two (Value (r + 1) c.own p) (writing c r)))
after_read s c Scan r = after_reading s (opened c ScanKind 1 r) (One (writing c r))

-- Lines 36 and 37. Amendment 3: the tag used is the larger of the largest answered and the own maxtag.
unfoldable pub read_pass : ℕ → Step → Node → Wait → Step
read_pass f s c (Reading o a m) = pick (is_quorum c.n f (members_in c.n a)) (after_read s c o (max m c.maxtag)) s
read_pass f s c Idle = s
read_pass f s c (Writing k i r a) = s
read_pass f s c (Comparing k i r) = s
read_pass f s c (Borrowing k r) = s

-- Line 39.
unfoldable pub write_pass : ℕ → Step → Node → Wait → Step
write_pass f s c (Writing k i r a) =
    pick (is_quorum c.n f (members_in c.n a))
    (ended s (with_wait c (Comparing k i r)) s.ending s.view) s
write_pass f s c Idle = s
write_pass f s c (Reading o a m) = s
write_pass f s c (Comparing k i r) = s
write_pass f s c (Borrowing k r) = s

-- the tag of the round after round i with tag r: line 8 after round 0, line 28 after the others
abbrev pub next_tag : (maxtag i r : ℕ) → ℕ
next_tag maxtag i r = pick (eqb i 0) (max (r + 1) maxtag) maxtag

-- The view that a round gives out, and the one that is borrowed: of n places. What a record may hold past them is never
-- shown.
abbrev pub held_view : Node → View
held_view c = first_of c.n c.atround

abbrev pub lent_view : Node → View
lent_view c = first_of c.n c.keptview

-- Lines 18 and 19: a good round. After round 0 the renewal begins (lines 7 to 9), any other ends the operation (line
-- 25).
unfoldable pub after_good : Step → Node → Kind → ℕ → ℕ → Step
after_good s c k i r =
    pick (eqb i 0)
    (after_comparing s (opened c k 1 (next_tag c.maxtag 0 r)) (Two (Good r) (writing c (next_tag c.maxtag 0 r)))
    (held_view c))
    (ended (after_comparing s c (One (Good r)) (held_view c)) (closed c Idle) (ending_of k (Direct i)) (held_view c))

-- Line 21: a failed round. The next one opens, and after the third the operation borrows (lines 26 to 29).
unfoldable pub after_failed : Step → Node → Kind → ℕ → ℕ → Step
after_failed s c k i r =
    pick (ltb i 3) (after_comparing s (opened c k (i + 1) (next_tag c.maxtag i r))
    (One (writing c (next_tag c.maxtag i r))) no_view)
    (after_comparing s (closed c (Borrowing k r)) Nothing no_view)

-- Line 15: a quorum agrees on the reports held for the open round.
abbrev pub agreement : ℕ → Node → Bool
agreement f c = is_quorum c.n f (agreeing c.n c.own c.heard c.atround.tags)

-- Lines 15 to 17: a quorum agrees; the round is good where maxtag has not passed its tag.
unfoldable pub compare_pass : ℕ → Step → Node → Wait → Step
compare_pass f s c (Comparing k i r) =
    pick (agreement f c) (pick (leb c.maxtag r) (after_good s c k i r) (after_failed s c k i r)) s
compare_pass f s c Idle = s
compare_pass f s c (Reading o a m) = s
compare_pass f s c (Writing k i r a) = s
compare_pass f s c (Borrowing k r) = s

-- Lines 29 and 30, amendment 4: the kept view is borrowed once its tag is at least r.
unfoldable pub borrow_pass : Step → Node → Wait → Step
borrow_pass s c (Borrowing k r) = pick (leb r c.kept) (ended s (closed c Idle) (ending_of k Borrowed) (lent_view c)) s
borrow_pass s c Idle = s
borrow_pass s c (Reading o a m) = s
borrow_pass s c (Writing k i r a) = s
borrow_pass s c (Comparing k i r) = s

-- each pass at the record as the step has it
abbrev pub reads : ℕ → Step → Step
reads f s = read_pass f s s.node s.node.wait

abbrev pub writes : ℕ → Step → Step
writes f s = write_pass f s s.node s.node.wait

abbrev pub compares : ℕ → Step → Step
compares f s = compare_pass f s s.node s.node.wait

abbrev pub borrows : Step → Step
borrows s = borrow_pass s s.node s.node.wait

unfoldable pub move_on : ℕ → Step → Step
move_on f s = borrows (compares f (writes f (reads f s)))

-- The two steps of a node: a message m from node s, with the view that a good message carries; and the begin of an
-- operation (lines 4, 11 and 35).
unfoldable pub message_step : ℕ → Node → ℕ → Message → View → Step
message_step f c s m v = move_on f (react c s m v)

unfoldable pub begun : Node → Operation → Step
begun c o = started (set_wait c (c.request + 1) (Reading o 0 0) c.atround) c.own (One (Read (c.request + 1)))

unfoldable pub begin_step : ℕ → Node → Operation → Step
begin_step f c o = move_on f (begun c o)
