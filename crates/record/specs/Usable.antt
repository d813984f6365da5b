-- Which records are usable, in the order of document 01's refusal 2, and the conditions of refusals 5, 6 and 9.
-- All places of a table are judged, whatever n is.
-- Assumes nothing.
use Rattle.std.specs.Prelude.{Bool, true, false, ℕ, ◌-◌, leb, ltb}
use Rattle.octets.specs.Test.{both}
use Rattle.view.specs.Size.{limit}
use Rattle.table.specs.Loop.{either}
use Rattle.table.specs.Table.{tag_of, view_within, heard_of, heard_within}
use Rattle.table.specs.Quorum.{only, can_be}
use Rattle.record.specs.declared.Node.{Node}
use Rattle.record.specs.declared.Operation.TheVariants.{Update, Scan}
use Rattle.record.specs.declared.Wait.{Wait}
use Rattle.record.specs.declared.Wait.TheVariants.{Idle, Reading, Writing, Comparing, Borrowing}

-- how many request numbers the open operation may still use: one for each round to come
abbrev pub still_uses : Wait → ℕ
still_uses Idle = 0
still_uses (Reading (Update p) a m) = 4
still_uses (Reading Scan a m) = 3
still_uses (Writing k i r a) = 3 - i
still_uses (Comparing k i r) = 3 - i
still_uses (Borrowing k r) = 0

-- the tag of the open round; where none is open, the limit, which every tag keeps
abbrev pub round_tag : Wait → ℕ
round_tag Idle = limit
round_tag (Reading o a m) = limit
round_tag (Writing k i r a) = r
round_tag (Comparing k i r) = r
round_tag (Borrowing k r) = limit

-- a round from 0 to 3, and its tag: the one after a round 0 has a larger tag, so that of round 0 is below the limit
abbrev pub round_ok : ℕ → ℕ → Bool
round_ok i r = both (leb i 3) (either (both (leb r limit) (leb 1 i)) (ltb r limit))

-- the numbers of the wait: counted senders are among 1 to n, tags keep the limit
abbrev pub wait_ok : ℕ → Wait → Bool
wait_ok n Idle = true
wait_ok n (Reading o a m) = both (only n a) (leb m limit)
wait_ok n (Writing k i r a) = both (only n a) (round_ok i r)
wait_ok n (Comparing k i r) = round_ok i r
wait_ok n (Borrowing k r) = leb r limit

-- n, f and the own number: what a fresh record may be made of
abbrev pub sizes_within : (n f own : ℕ) → Bool
sizes_within n f own = both (can_be n f) (both (leb 1 own) (leb own n))

-- the numbers and the wait keep their limits, and enough request numbers are left
abbrev pub numbers_within : (n maxtag request kept : ℕ) → Wait → Bool
numbers_within n maxtag request kept wait =
    both (both (leb maxtag limit) (both (leb request limit) (leb kept limit)))
    (both (wait_ok n wait) (leb (still_uses wait) (limit - request)))

unfoldable pub numbers_ok : Node → Bool
numbers_ok c = numbers_within c.n c.maxtag c.request c.kept c.wait

-- no tag above the limit, no report held for a tag that it is above, none beside tag 0
unfoldable pub tables_ok : Node → Bool
tables_ok c =
    both (both (heard_within c.heard) (view_within limit c.last))
    (both (both (view_within c.maxtag c.atmax) (view_within (round_tag c.wait) c.atround))
    (view_within c.kept c.keptview))

unfoldable pub usable : Node → Bool
usable c = both (sizes_within c.n c.f c.own) (both (numbers_ok c) (tables_ok c))

-- 5: an operation is open
abbrev pub is_open : Wait → Bool
is_open Idle = false
is_open (Reading o a m) = true
is_open (Writing k i r a) = true
is_open (Comparing k i r) = true
is_open (Borrowing k r) = true

-- 6: fewer than five request numbers are left
abbrev pub full : Node → Bool
full c = ltb (limit - c.request) 5

-- 9: a value of writer w from sender s whose tag t is below the last heard from that sender for that writer, or above
-- the writer's last while that last is above maxtag
abbrev pub stale_tag : (heard last maxtag t : ℕ) → Bool
stale_tag heard last maxtag t = either (ltb t heard) (both (ltb last t) (ltb maxtag last))

abbrev pub stale : Node → ℕ → ℕ → ℕ → Bool
stale c s w t = stale_tag (heard_of c.heard s w) (tag_of c.last w) c.maxtag t
