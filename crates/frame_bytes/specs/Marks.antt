-- Cited by inner contracts only: the numbers that refusal 9 looks at, of one sender, and how a message changes them.
-- Assumes nothing.
use Rattle.std.specs.Prelude.{ℕ, ◌-◌, max, Bool, false, List, set}
use Rattle.wire.specs.declared.Message.{Message}
use Rattle.wire.specs.declared.Message.TheVariants.{Read, ReadAnswer, Write, WriteAnswer, Echo, Value, Good}
use Rattle.table.specs.Table.{at}
use Rattle.record.specs.Usable.{stale_tag}

abbrev pub late_by : (heard last : List ℕ) (top : ℕ) → Message → Bool
late_by heard last top (Value t w p) = stale_tag (at heard w) (at last w) top t
late_by heard last top (Read q) = false
late_by heard last top (ReadAnswer q t) = false
late_by heard last top (Write q t) = false
late_by heard last top (WriteAnswer q t) = false
late_by heard last top (Echo t) = false
late_by heard last top (Good t) = false

abbrev pub heard_after : List ℕ → Message → List ℕ
heard_after heard (Value t w p) = set heard (w - 1) t
heard_after heard (Read q) = heard
heard_after heard (ReadAnswer q t) = heard
heard_after heard (Write q t) = heard
heard_after heard (WriteAnswer q t) = heard
heard_after heard (Echo t) = heard
heard_after heard (Good t) = heard

abbrev pub last_after : List ℕ → Message → List ℕ
last_after last (Value t w p) = set last (w - 1) (max (at last w) t)
last_after last (Read q) = last
last_after last (ReadAnswer q t) = last
last_after last (Write q t) = last
last_after last (WriteAnswer q t) = last
last_after last (Echo t) = last
last_after last (Good t) = last

abbrev pub top_after : ℕ → Message → ℕ
top_after top (Write q t) = max top t
top_after top (Echo t) = max top t
top_after top (Value t w p) = top
top_after top (Read q) = top
top_after top (ReadAnswer q t) = top
top_after top (WriteAnswer q t) = top
top_after top (Good t) = top
