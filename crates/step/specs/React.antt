-- What a message does at a node, whatever the node waits for: the handlers of Algorithm 1 (lines 40 to 49) with
-- document 01's amendments. c is the record, s the sender.
-- Assumes nothing.
use Rattle.std.specs.Prelude.{Bool, false, ℕ, max, leb, ltb, eqb, set}
use Rattle.view.specs.declared.Report.{Report}
use Rattle.view.specs.declared.View.{View}
use Rattle.wire.specs.declared.Message.{Message}
use Rattle.wire.specs.declared.Message.TheVariants.{Read, ReadAnswer, Write, WriteAnswer, Echo, Value, Good}
use Rattle.octets.specs.Test.{pick, both}
use Rattle.table.specs.Table.{tag_of, put_entry, newest, cell}
use Rattle.table.specs.Quorum.{member, with}
use Rattle.record.specs.Record.{set_top, set_tables, set_kept, with_wait}
use Rattle.record.specs.declared.Node.{Node}
use Rattle.record.specs.declared.Wait.{Wait}
use Rattle.record.specs.declared.Wait.TheVariants.{Idle, Reading, Writing, Comparing, Borrowing}
use Rattle.step.specs.declared.Sent.TheVariants.{Nothing, One, Two}
use Rattle.step.specs.declared.Step.{Step}
use Rattle.step.specs.Step.{started}

-- Lines 43, 44 and 47: a tag above maxtag raises it, and with it the reports held for maxtag.
unfoldable pub raised : Node → ℕ → Node
raised c t =
    set_top c (pick (ltb c.maxtag t) t c.maxtag)
    (pick (ltb c.maxtag t) (newest t c.last c.atmax) c.atmax)

-- Amendment 2: the wait after an answer from s with number q and tag t, where `request` is the current number. A read
-- answer counts while reading, with the current number, once for each sender (lines 36 and 37).
abbrev pub read_wait : (request s q t : ℕ) → Wait → Wait
read_wait request s q t (Reading o a m) =
    pick (eqb q request) (pick (member a s) (Reading o a m) (Reading o (with a s) (max m t))) (Reading o a m)
read_wait request s q t Idle = Idle
read_wait request s q t (Writing k i r a) = Writing k i r a
read_wait request s q t (Comparing k i r) = Comparing k i r
read_wait request s q t (Borrowing k r) = Borrowing k r

-- A write answer counts while writing, with the current number and the written tag, once for each sender (line 39).
abbrev pub write_wait : (request s q t : ℕ) → Wait → Wait
write_wait request s q t (Writing k i r a) =
    pick (eqb q request)
    (pick (eqb t r) (pick (member a s) (Writing k i r a) (Writing k i r (with a s))) (Writing k i r a))
    (Writing k i r a)
write_wait request s q t Idle = Idle
write_wait request s q t (Reading o a m) = Reading o a m
write_wait request s q t (Comparing k i r) = Comparing k i r
write_wait request s q t (Borrowing k r) = Borrowing k r

-- a round is open whose tag is at least t
abbrev pub round_holds : Wait → ℕ → Bool
round_holds Idle t = false
round_holds (Reading o a m) t = false
round_holds (Writing k i r a) t = leb t r
round_holds (Comparing k i r) t = leb t r
round_holds (Borrowing k r) t = false

-- Lines 40 and 41: a value of writer w with tag t. It is new when it is above the writer's last; the tag heard changes
-- in any case.
abbrev pub is_new : Node → ℕ → ℕ → Bool
is_new c w t = ltb (tag_of c.last w) t

unfoldable pub received : Node → ℕ → ℕ → ℕ → Report → Node
received c s w t p =
    set_tables c (set c.heard (cell s w) t)
    (pick (is_new c w t) (put_entry c.last w t p) c.last)
    (pick (both (is_new c w t) (leb t c.maxtag)) (put_entry c.atmax w t p) c.atmax)
    (pick (both (is_new c w t) (round_holds c.wait t)) (put_entry c.atround w t p) c.atround)

-- Line 49, amendment 4: of the good messages the one with the greatest tag is kept, the earlier on a tie.
unfoldable pub keep : Node → ℕ → View → Node
keep c t v = set_kept c (pick (ltb c.kept t) t c.kept) (pick (ltb c.kept t) v c.keptview)

-- The handler of each kind and what it sends: line 48; none; lines 45 and 46; none; amendment 1; line 42; none.
unfoldable pub react : Node → ℕ → Message → View → Step
react c s (Read q) v = started c s (One (ReadAnswer q c.maxtag))
react c s (ReadAnswer q t) v = started (with_wait c (read_wait c.request s q t c.wait)) s Nothing
react c s (Write q t) v =
    started (raised c t) s (pick (ltb c.maxtag t) (Two (Echo t) (WriteAnswer q t)) (One (WriteAnswer q t)))
react c s (WriteAnswer q t) v = started (with_wait c (write_wait c.request s q t c.wait)) s Nothing
react c s (Echo t) v = started (raised c t) s (pick (ltb c.maxtag t) (One (Echo t)) Nothing)
react c s (Value t w p) v = started (received c s w t p) s (pick (is_new c w t) (One (Value t w p)) Nothing)
react c s (Good t) v = started (keep c t v) s Nothing
