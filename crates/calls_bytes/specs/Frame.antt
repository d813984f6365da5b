-- The frame call at one node (document 01: cabinet) on its record in lent bytes, for every input: messages of one
-- sender, one after the other in one run of bytes, each handed to the message call in turn. Assumes nothing.
use Rattle.std.specs.Prelude.{ℕ, ◌+◌, Bool, true, false, List, [], ◌∷◌, ◌++◌, eqb, leb, length, take, drop}
use Rattle.octets.specs.Answer.{Answer, returned, refused}
use Rattle.octets.specs.Test.{pick, both}
use Rattle.step.specs.declared.Ending.{Ending}
use Rattle.step.specs.declared.Ending.TheVariants.{None, Done, Scan, Spent}
use Rattle.step.specs.Told.{nothing}
use Rattle.region.specs.Record.{record_of}
use Rattle.calls_bytes.specs.Entry.{LentResult, refuse, fits, usable_in, message}
use Rattle.calls_bytes.specs.Walk.{Piece, walk}

-- the most bytes of a frame, and the least length of the output buffer for one
abbrev pub frame_most : ℕ
frame_most = 1500

abbrev pub frame_output : ℕ
frame_output = 8192

-- A frame is walked as an output buffer is, and is of the layout where the messages that are met are all its bytes.
abbrev pub packed : List Piece → List ℕ
packed [] = []
packed (m ∷ ms) = m.bytes ++ packed ms

abbrev pub is_whole : (n : ℕ) → List ℕ → Bool
is_whole n b = eqb (length (packed (walk n b))) (length b)

-- whether it is an ending
abbrev pub is_ending : Ending → Bool
is_ending None = false
is_ending (Done r) = true
is_ending (Scan r) = true
is_ending Spent = true

-- Whether the answer of earlier calls stands beside that of a later one: the first refusal does, else the first ending.
abbrev pub first_stands : (earlier later : Answer Ending) → Bool
first_stands (refused k) y = true
first_stands (returned x) (refused k) = false
first_stands (returned x) (returned y) = is_ending x

-- A call after others, which had the rest of their buffer.
abbrev pub and_then : LentResult → LentResult → LentResult
and_then p a =
    record {
      answer = pick (first_stands p.ending a.ending) p.answer a.answer;
      ending = pick (first_stands p.ending a.ending) p.ending a.ending;
      bytes = a.bytes;
      length = p.length + a.length;
      out = take p.length p.out ++ a.out;
    }

-- the message call after others: on the record that they left, with the rest of their buffer
abbrev pub next_call : (sender : ℕ) → LentResult → Piece → LentResult
next_call s p m = message p.bytes s m.bytes (drop p.length p.out)

unfoldable pub in_turn : (sender : ℕ) → LentResult → List Piece → LentResult
in_turn s p [] = p
in_turn s p (m ∷ ms) = in_turn s (and_then p (next_call s p m)) ms

-- before the first of them
abbrev pub at_start : (r out : List ℕ) → LentResult
at_start r out = record { answer = nothing; ending = returned None; bytes = r; length = 0; out = out }

-- where one is refused, none takes effect
abbrev pub or_refused : (r out : List ℕ) → LentResult → Answer Ending → LentResult
or_refused r out e (refused k) = refuse k r out
or_refused r out e (returned x) = e

unfoldable pub one_by_one : (r : List ℕ) (sender : ℕ) (frame out : List ℕ) → LentResult
one_by_one r s b out = in_turn s (at_start r out) (walk (record_of r).n b)

-- 12, 2, 3. 14: empty, or over the most bytes. 7: a message of it is not of the layout, wherever it stands. 9: one that
-- is given it in turn.
unfoldable pub frame : (r : List ℕ) (sender : ℕ) (frame out : List ℕ) → LentResult
frame r s b out =
    pick (fits frame_output r (length out))
    (pick (usable_in r)
    (pick (both (leb 1 s) (leb s (record_of r).n))
    (pick (both (leb 1 (length b)) (leb (length b) frame_most))
    (pick (is_whole (record_of r).n b) (or_refused r out (one_by_one r s b out) (one_by_one r s b out).ending)
    (refuse 7 r out))
    (refuse 14 r out))
    (refuse 3 r out))
    (refuse 2 r out))
    (refuse 12 r out)
