-- Reading and writing one message, for n nodes. Reading goes back from writing: bytes are read as the message whose
-- encoding they are, and as nothing if they are no allowed message's.
use Rattle.std.specs.Prelude.{ℕ, ◌+◌, ◌-◌, Bool, true, false, List, [], length, take, drop, get_or, leb, eqb}
use Rattle.octets.specs.Answer.{Answer, returned, refused}
use Rattle.octets.specs.Test.{pick, both}
use Rattle.octets.specs.Bytes.{part, put, same}
use Rattle.octets.specs.Word.{word}
use Rattle.view.specs.Size.{is_size, report_size, view_size}
use Rattle.view.specs.Report.{report_of}
use Rattle.wire.specs.Layout.{encode, allowed, first_at, second_at, third_at, good_head}
use Rattle.wire.specs.declared.Message.{Message}
use Rattle.wire.specs.declared.Message.TheVariants.{Read, ReadAnswer, Write, WriteAnswer, Echo, Value, Good}

-- the one message that bytes of kind k can begin with, by the numbers at the layout's places, and the view's place
abbrev pub said_as : ℕ → List ℕ → Message
said_as k b =
    pick (eqb k 1) (Read (word b first_at))
    (pick (eqb k 2) (ReadAnswer (word b first_at) (word b second_at))
    (pick (eqb k 3) (Write (word b first_at) (word b second_at))
    (pick (eqb k 4) (WriteAnswer (word b first_at) (word b second_at))
    (pick (eqb k 5) (Echo (word b first_at))
    (pick (eqb k 6) (Value (word b first_at) (get_or b second_at 0) (report_of (part b third_at report_size)))
    (Good (word b first_at)))))))

unfoldable pub said : List ℕ → Message
said b = said_as (get_or b 3 0) b

abbrev pub view_at : ℕ → List ℕ → List ℕ
view_at n b = part b good_head (view_size n)

-- whether b begins with e
unfoldable pub begins : List ℕ → List ℕ → Bool
begins b e = same (take (length e) b) e

-- the message at the front of b and its length
abbrev pub front_is : ℕ → List ℕ → Message → List ℕ → Answer (Message × ℕ)
front_is n b m v =
    pick (both (begins b (encode m v)) (allowed n m v)) (returned (m, length (encode m v))) (refused 7)

unfoldable pub front : ℕ → List ℕ → Answer (Message × ℕ)
front n b = pick (is_size n) (front_is n b (said b) (view_at n b)) (refused 1)

-- the message that b is, with nothing after it
abbrev pub whole : ℕ → Answer (Message × ℕ) → Answer Message
whole k (returned p) = pick (eqb p.1 k) (returned p.0) (refused 7)
whole k (refused c) = refused c

unfoldable pub decode : ℕ → List ℕ → Answer Message
decode n b = whole (length b) (front n b)

-- whether a message carries a view
abbrev pub is_good : Message → Bool
is_good (Read r) = false
is_good (ReadAnswer r t) = false
is_good (Write r t) = false
is_good (WriteAnswer r t) = false
is_good (Echo t) = false
is_good (Value t w p) = false
is_good (Good t) = true

-- the view that belongs to a message
abbrev pub view_in : Message → List ℕ → List ℕ
view_in m v = pick (is_good m) v []

-- where it lies, if the message lies at p (a block of memory and an offset in it): an empty one lies at p itself
abbrev pub address_in : Message → ℕ × ℕ → ℕ × ℕ
address_in m p = pick (is_good m) (p.0, good_head + p.1) p

-- the view in bytes that were read, by the answer: what stands after its head, if they are a good message
abbrev pub view_read : List ℕ → Answer Message → List ℕ
view_read b (returned m) = view_in m (drop good_head b)
view_read b (refused c) = []

abbrev pub address_read : Answer Message → ℕ × ℕ → ℕ × ℕ
address_read (returned m) p = address_in m p
address_read (refused c) p = p

unfoldable pub view_part : ℕ → List ℕ → List ℕ
view_part n b = view_read b (decode n b)

unfoldable pub view_address : ℕ → List ℕ → ℕ × ℕ → ℕ × ℕ
view_address n b p = address_read (decode n b) p

-- the view in the message at the front: what stands from there to that message's end, if it is a good one
abbrev pub view_found : List ℕ → Answer (Message × ℕ) → List ℕ
view_found b (returned p) = view_in p.0 (part b good_head (p.1 - good_head))
view_found b (refused c) = []

abbrev pub address_found : Answer (Message × ℕ) → ℕ × ℕ → ℕ × ℕ
address_found (returned p) a = address_in p.0 a
address_found (refused c) a = a

unfoldable pub front_part : ℕ → List ℕ → List ℕ
front_part n b = view_found b (front n b)

unfoldable pub front_address : ℕ → List ℕ → ℕ × ℕ → ℕ × ℕ
front_address n b p = address_found (front n b) p

-- writing into a buffer of so many bytes, and the buffer afterwards
unfoldable pub answer : ℕ → Message → List ℕ → ℕ → Answer ℕ
answer n m v room =
    pick (is_size n)
    (pick (allowed n m v)
    (pick (leb (length (encode m v)) room) (returned (length (encode m v))) (refused 12)) (refused 7)) (refused 1)

abbrev pub after : Answer ℕ → List ℕ → List ℕ → List ℕ
after (returned k) e out = put out 0 e
after (refused c) e out = out
