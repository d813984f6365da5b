-- Cited by inner contracts only: what refuses a call on lent bytes before its own conditions. Assumes nothing.
use Rattle.std.specs.Prelude.{ℕ, List}
use Rattle.octets.specs.Test.{pick}
use Rattle.calls_bytes.specs.Entry.{fits, usable_in}

-- the first of 12 and 2 that applies to the record's bytes and the length of the output buffer, of which a call asks
-- for at least so much; 0 where none does
unfoldable pub admission : (least : ℕ) → List ℕ → (room : ℕ) → ℕ
admission least r room = pick (fits least r room) (pick (usable_in r) 0 2) 12
