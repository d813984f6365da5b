-- Refusal 9 of a message: a value whose tag is below the last heard from that sender for that writer, or above the
-- writer's last while that last is above maxtag.
-- Assumes nothing.
use Rattle.std.specs.Prelude.{ℕ, Bool, true, false, leb}
use Rattle.octets.specs.Test.{both}
use Rattle.record.specs.Usable.{stale}
use Rattle.record.specs.declared.Node.{Node}
use Rattle.wire.specs.declared.Message.{Message}
use Rattle.wire.specs.declared.Message.TheVariants.{Read, ReadAnswer, Write, WriteAnswer, Echo, Value, Good}

abbrev pub stale_message : Node → ℕ → Message → Bool
stale_message c s (Value t w p) = stale c s w t
stale_message c s (Read q) = false
stale_message c s (ReadAnswer q t) = false
stale_message c s (Write q t) = false
stale_message c s (WriteAnswer q t) = false
stale_message c s (Echo t) = false
stale_message c s (Good t) = false

-- A value names a writer from 1 to n.
abbrev pub writer_within : ℕ → Message → Bool
writer_within n (Value t w p) = both (leb 1 w) (leb w n)
writer_within n (Read q) = true
writer_within n (ReadAnswer q t) = true
writer_within n (Write q t) = true
writer_within n (WriteAnswer q t) = true
writer_within n (Echo t) = true
writer_within n (Good t) = true
