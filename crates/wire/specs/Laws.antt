-- What is claimed of reading and writing one message, each claim under a name; proofs/Laws proves them. They hold for
-- every n.
use Rattle.std.specs.Prelude.{ℕ, ◌+◌, ◌≤◌, ◌≡◌, true, false, List, [], ◌++◌, ◌↔◌, length, take}
use Rattle.octets.specs.Answer.{returned, refused}
use Rattle.octets.specs.Bytes.{part}
use Rattle.view.specs.Size.{is_size, view_size}
use Rattle.wire.specs.Layout.{encode, allowed, message_size, good_head}
use Rattle.wire.specs.Codec.{front, decode, view_in, view_part, view_address, front_part, front_address}
use Rattle.wire.specs.declared.Message.{Message}
use Rattle.wire.specs.declared.Message.TheVariants.{Good}

-- What was written is read back, with its view; at the front of bytes whatever stands after it.
abbrev pub ReadBack : Type 0
ReadBack = (n : ℕ) (m : Message) (v : List ℕ) → is_size n ≡ true → allowed n m v ≡ true → decode n (encode m v)
    ≡ returned m

abbrev pub ViewBack : Type 0
ViewBack = (n : ℕ) (m : Message) (v : List ℕ) → is_size n ≡ true → allowed n m v ≡ true
    → view_part n (encode m v) ≡ view_in m v

abbrev pub FrontViewBack : Type 0
FrontViewBack = (n : ℕ) (m : Message) (v rest : List ℕ) → is_size n ≡ true → allowed n m v ≡ true
    → front_part n (encode m v ++ rest) ≡ view_in m v

abbrev pub FrontBack : Type 0
FrontBack = (n : ℕ) (m : Message) (v rest : List ℕ) → is_size n ≡ true → allowed n m v ≡ true
    → front n (encode m v ++ rest) ≡ returned (m, length (encode m v))

-- No byte past the end of a message is judged: other bytes that are the same up to there have the same message at
-- their front, which ends at the same place, with the same view; and without what follows they are that message.
abbrev pub FrontSame : Type 0
FrontSame = (n : ℕ) (b c : List ℕ) (m : Message) (k : ℕ) → front n b ≡ returned (m, k) → take k c ≡ take k b
    → (front n c ≡ returned (m, k)) × (front_part n c ≡ front_part n b)

abbrev pub FrontAlone : Type 0
FrontAlone = (n : ℕ) (b : List ℕ) (m : Message) (k : ℕ) → front n b ≡ returned (m, k)
    → (1 ≤ k) × (k ≤ length b) × (decode n (take k b) ≡ returned m) × (view_part n (take k b) ≡ front_part n b)

-- Bytes that are to be one message have none after it.
abbrev pub NothingAfter : Type 0
NothingAfter = (n : ℕ) (b rest : List ℕ) (m : Message) → decode n b ≡ returned m → 1 ≤ length rest
    → decode n (b ++ rest) ≡ refused 7

-- What was read is written back, and the layout allows it.
abbrev pub WriteBack : Type 0
WriteBack = (n : ℕ) (b : List ℕ) (m : Message) → decode n b ≡ returned m
    → (is_size n ≡ true) × (allowed n m (view_part n b) ≡ true) × (b ≡ encode m (view_part n b))

-- Bytes are read as m just where they are what is written of m, allowed, with some view.
abbrev pub Accepts : Type 0
Accepts = (n : ℕ) (b : List ℕ) (m : Message) → is_size n ≡ true
    → (decode n b ≡ returned m) ↔ ((v : List ℕ) × (allowed n m v ≡ true) × (b ≡ encode m v))

-- For n from 1 to 16 every refusal is 7, and for another n it is 1.
abbrev pub RefusesSeven : Type 0
RefusesSeven = (n : ℕ) (b : List ℕ) (c : ℕ) → is_size n ≡ true → decode n b ≡ refused c → c ≡ 7

abbrev pub RefusesOne : Type 0
RefusesOne = (n : ℕ) (b : List ℕ) → is_size n ≡ false → decode n b ≡ refused 1

-- No two messages have the same bytes.
abbrev pub Injective : Type 0
Injective = (n : ℕ) (m m' : Message) (v v' : List ℕ) → is_size n ≡ true → allowed n m v ≡ true → allowed n m' v' ≡ true
    → encode m v ≡ encode m' v' → (m ≡ m') × (view_in m v ≡ view_in m' v')

-- The seven lengths.
abbrev pub Lengths : Type 0
Lengths = (n : ℕ) (m : Message) (v : List ℕ) → allowed n m v ≡ true → length (encode m v) ≡ message_size n m

-- The view of a good message is what stands after its head, in the caller's memory. With bytes after the message it is
-- the same part.
abbrev pub ViewPlace : Type 0
ViewPlace = (n t : ℕ) (b : List ℕ) → decode n b ≡ returned (Good t)
    → (length b ≡ good_head + view_size n) × (view_part n b ≡ part b good_head (view_size n))
    × ((p : ℕ × ℕ) → view_address n b p ≡ (p.0, good_head + p.1))

abbrev pub FrontViewPlace : Type 0
FrontViewPlace = (n t k : ℕ) (b : List ℕ) → front n b ≡ returned (Good t, k)
    → (k ≡ good_head + view_size n) × (k ≤ length b) × (front_part n b ≡ part b good_head (view_size n))
    × ((p : ℕ × ℕ) → front_address n b p ≡ (p.0, good_head + p.1))

-- Bytes that are refused, and messages of another kind, have the empty view.
abbrev pub ViewOnlyGood : Type 0
ViewOnlyGood = (n : ℕ) (b : List ℕ) → ((t : ℕ) → decode n b ≡ returned (Good t) → ⊥) → view_part n b ≡ []

abbrev pub FrontViewOnlyGood : Type 0
FrontViewOnlyGood = (n : ℕ) (b : List ℕ) → ((t k : ℕ) → front n b ≡ returned (Good t, k) → ⊥) → front_part n b ≡ []
