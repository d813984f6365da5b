-- Cited by inner contracts only: a message handled on the bytes of a record, the words that the handlers' contracts use
-- beside those of the record.
use Rattle.std.specs.Prelude.{ℕ, ◌+◌, ◌-◌, ◌*◌, Bool, true, List, leb, length}
use Rattle.octets.specs.Word.{word_size}
use Rattle.octets.specs.Test.{pick}
use Rattle.octets.specs.Bytes.{be, put}
use Rattle.view.specs.Size.{entry_size, view_size}
use Rattle.view.specs.View.{entry_bytes}
use Rattle.view.specs.declared.Report.{Report}
use Rattle.view.specs.declared.View.{View}
use Rattle.wire.specs.Codec.{is_good}
use Rattle.wire.specs.declared.Message.{Message}
use Rattle.table.specs.Table.{cell, newest_tag, newest_report}
use Rattle.region.specs.Record.{heard_place, last_in, atmax_in, atround_in, view_place}

-- Where the tag heard from sender s for writer w stands, and the entry of writer w in view i.
abbrev pub cell_place : (s w : ℕ) → ℕ
cell_place s w = heard_place + word_size * cell s w

abbrev pub entry_place : (i w : ℕ) → ℕ
entry_place i w = view_place i + entry_size * (w - 1)

-- The bytes with another entry of writer w in view i, where the flag says so.
abbrev pub put_where : Bool → (i w t : ℕ) → Report → List ℕ → List ℕ
put_where flag i w t p r = pick flag (put r (entry_place i w) (entry_bytes t p)) r

-- The bytes of writer w's entry in `newest`.
abbrev pub newest_entry : (t : ℕ) (last held : View) (w : ℕ) → List ℕ
newest_entry t last held w = entry_bytes (newest_tag t last held w) (newest_report t last held w)

-- The bytes after a value of writer w from sender s: the tag heard, and the entries that the flags say.
unfoldable pub entered : (s w t : ℕ) → Report → (fresh held round : Bool) → List ℕ → List ℕ
entered s w t p fresh held round r =
    put_where round atround_in w t p
    (put_where held atmax_in w t p (put_where fresh last_in w t p (put r (cell_place s w) (be word_size t))))

-- The bytes v hold the view of message m where it carries one.
abbrev pub view_there : ℕ → Message → List ℕ → Bool
view_there n m v = pick (is_good m) (leb (view_size n) (length v)) true
