-- The limits and sizes of document 01 that messages, views and nodes share.
use Rattle.std.specs.Prelude.{ℕ, ◌+◌, ◌*◌, Bool, leb}
use Rattle.octets.specs.Test.{both}
use Rattle.octets.specs.Word.{word_size}

-- the most nodes (cabinets)
abbrev pub nodes : ℕ
nodes = 16

-- 2 ^ 63 - 1, the greatest tag (stamp) and the greatest request number
abbrev pub limit : ℕ
limit = 9223372036854775807

-- the bytes of a tag, of a report, of a view's entry, which is a tag and a report, and of a view of n nodes
abbrev pub tag_size : ℕ
tag_size = word_size

abbrev pub report_size : ℕ
report_size = 8

abbrev pub entry_size : ℕ
entry_size = tag_size + report_size

abbrev pub view_size : ℕ → ℕ
view_size n = entry_size * n

-- n nodes
abbrev pub is_size : ℕ → Bool
is_size n = both (leb 1 n) (leb n nodes)
