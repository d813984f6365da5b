-- Document 01's layout of a message: tagged fields, each a one-byte mark, a two-byte length and the contents, in
-- ascending order of their marks; and the numbers that it allows.
use Rattle.std.specs.Prelude.{ℕ, ◌+◌, Bool, List, [], ◌∷◌, ◌++◌, length, leb, eqb}
use Rattle.octets.specs.Test.{both}
use Rattle.octets.specs.Bytes.{be}
use Rattle.view.specs.Size.{nodes, limit, tag_size, report_size, view_size}
use Rattle.view.specs.Report.{report_bytes}
use Rattle.view.specs.View.{view_ok}
use Rattle.view.specs.declared.Report.{Report}
use Rattle.wire.specs.declared.Message.{Message}
use Rattle.wire.specs.declared.Message.TheVariants.{Read, ReadAnswer, Write, WriteAnswer, Echo, Value, Good}

abbrev pub field : ℕ → List ℕ → List ℕ
field mark contents = (mark ∷ be 2 (length contents)) ++ contents

-- the bytes of a field's head, and of a request number or a tag
abbrev pub head_size : ℕ
head_size = 3

abbrev pub number_size : ℕ
number_size = tag_size

-- the six fields
abbrev pub kind : ℕ → List ℕ
kind k = field 1 (k ∷ [])

abbrev pub request : ℕ → List ℕ
request r = field 2 (be number_size r)

abbrev pub tag : ℕ → List ℕ
tag t = field 3 (be number_size t)

abbrev pub writer : ℕ → List ℕ
writer w = field 4 (w ∷ [])

abbrev pub report : Report → List ℕ
report p = field 5 (report_bytes p)

abbrev pub view : List ℕ → List ℕ
view v = field 6 v

-- a message's bytes, with the view that stands beside it
unfoldable pub encode : Message → List ℕ → List ℕ
encode (Read r) v = kind 1 ++ request r
encode (ReadAnswer r t) v = kind 2 ++ request r ++ tag t
encode (Write r t) v = kind 3 ++ request r ++ tag t
encode (WriteAnswer r t) v = kind 4 ++ request r ++ tag t
encode (Echo t) v = kind 5 ++ tag t
encode (Value t w p) v = kind 6 ++ tag t ++ writer w ++ report p
encode (Good t) v = kind 7 ++ tag t ++ view v

-- a request number is 1 to 2 ^ 63 - 1, a tag is 0 to 2 ^ 63 - 1
abbrev pub is_request : ℕ → Bool
is_request r = both (leb 1 r) (leb r limit)

abbrev pub is_tag : ℕ → Bool
is_tag t = leb t limit

-- whether the layout for n nodes allows a message's numbers and its view
unfoldable pub allowed : ℕ → Message → List ℕ → Bool
allowed n (Read r) v = is_request r
allowed n (ReadAnswer r t) v = both (is_request r) (is_tag t)
allowed n (Write r t) v = both (is_request r) (is_tag t)
allowed n (WriteAnswer r t) v = both (is_request r) (is_tag t)
allowed n (Echo t) v = both (leb 1 t) (is_tag t)
allowed n (Value t w p) v = both (both (leb 1 t) (is_tag t)) (both (leb 1 w) (leb w n))
allowed n (Good t) v = both (eqb (length v) (view_size n)) (both (is_tag t) (view_ok n t v))

-- where the fields after the kind stand, their heads and their contents: the first, which is a number; the second; and
-- the third of a value, whose second is its writer
abbrev pub first_head : ℕ
first_head = head_size + 1

abbrev pub first_at : ℕ
first_at = first_head + head_size

abbrev pub second_head : ℕ
second_head = first_at + number_size

abbrev pub second_at : ℕ
second_at = second_head + head_size

abbrev pub third_head : ℕ
third_head = second_at + 1

abbrev pub third_at : ℕ
third_at = third_head + head_size

-- the bytes before the view of a good message, and the bytes of the longest message, which is a good one
abbrev pub good_head : ℕ
good_head = second_at

abbrev pub longest : ℕ
longest = good_head + view_size nodes

-- the lengths: of a message with one number after its kind, with two, of a value, of a good message
abbrev pub one_size : ℕ
one_size = first_at + number_size

abbrev pub two_size : ℕ
two_size = second_at + number_size

abbrev pub value_size : ℕ
value_size = third_at + report_size

abbrev pub good_size : ℕ → ℕ
good_size n = good_head + view_size n

unfoldable pub message_size : ℕ → Message → ℕ
message_size n (Read r) = one_size
message_size n (ReadAnswer r t) = two_size
message_size n (Write r t) = two_size
message_size n (WriteAnswer r t) = two_size
message_size n (Echo t) = one_size
message_size n (Value t w p) = value_size
message_size n (Good t) = good_size n
