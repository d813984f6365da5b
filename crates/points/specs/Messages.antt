-- The points on n and messages.
use Rattle.std.specs.Prelude.{ℕ, ◌+◌, ◌*◌, ◌≤◌, ◌<◌, ◌≡◌, true, List, [], ◌∷◌, length, take, get_or, replicate}
use Rattle.octets.specs.Answer.{returned, refused}
use Rattle.octets.specs.Bytes.{put}
use Rattle.view.specs.Size.{limit, nodes}
use Rattle.view.specs.View.{no_view, view_ok}
use Rattle.wire.specs.Layout.{encode, allowed}
use Rattle.wire.specs.declared.Message.{Message}
use Rattle.wire.specs.declared.Message.TheVariants.{Read, Good}
use Rattle.figures.specs.Figures.{totals}
use Rattle.figures.specs.declared.Totals.{Totals}
use Rattle.record.specs.Record.{blank}
use Rattle.step.specs.declared.Ending.TheVariants.{None}
use Rattle.step.specs.Told.{nothing}
use Rattle.calls.specs.Entry as N
use Rattle.events.specs.Event.{refuse, fresh_bytes}
use Rattle.history.specs.Order.{OneTo}
use Rattle.points.specs.Calls.{Calls}

-- ---- n 0 and 17 refused; 1 and 16 taken

-- Every call that is given n refuses it, whatever else it is given.
pub record Refused (calls : Calls) (n : ℕ) : Type 0 where
  pub read : (b : List ℕ) → calls.read n b ≡ refused 1
  pub write : (m : Message) (v out : List ℕ) → calls.write n m v out ≡ (refused 1, out)
  pub fresh-node : (f own : ℕ) → calls.fresh-node n f own ≡ N.refuse 1 (blank 0 0 0) []
  pub fresh-cluster : (f : ℕ) (b : List ℕ) → calls.fresh n f b ≡ refuse 1 b
  -- of a view of the length for n
  pub figures : (v : List ℕ) → length v ≡ 16 * n → calls.figures n v ≡ refused 1

-- Every call that is given n takes it: each message that the layout allows is read and written, a node and a cluster
-- are made with every f for which 2f < n, and so on.
pub record Taken (calls : Calls) (n : ℕ) : Type 0 where
  pub read : (m : Message) (v : List ℕ) → allowed n m v ≡ true → calls.read n (encode m v) ≡ returned m
  pub write : (m : Message) (v out : List ℕ) → allowed n m v ≡ true → length (encode m v) ≤ length out
      → calls.write n m v out ≡ (returned (length (encode m v)), put out 0 (encode m v))
  pub fresh-node : (f own : ℕ) → f + f < n → OneTo n own
      → calls.fresh-node n f own
      ≡ record { answer = nothing; ending = returned None; node = blank n f own; length = 0; out = [] }
  -- in bytes of the length that the library states for n
  pub fresh-cluster : (f : ℕ) (b : List ℕ) → f + f < n → length b ≡ calls.size n
      → calls.fresh n f b
      ≡ record { bytes = fresh_bytes n f (length b); answer = returned None; view = no_view; sent = [] }
  pub figures : (v : List ℕ) → length v ≡ 16 * n → view_ok n limit v ≡ true → calls.figures n v ≡ returned (totals n v)

abbrev pub zeros : Totals
zeros = record { extensions = 0; lines = 0; waiting = 0; wakeups = 0 }

pub record Sizes (calls : Calls) : Type 0 where
  pub none : Refused calls 0
  pub seventeen : Refused calls 17
  -- 1 and 16, and all between.
  pub taken : (n : ℕ) → OneTo nodes n → Taken calls n
  -- The figures of no report. They follow from `taken`, and rule out no call that it does not.
  pub absent-1 : calls.figures 1 (replicate 16 0) ≡ returned zeros
  pub absent-16 : calls.figures 16 (replicate 256 0) ≡ returned zeros
  -- The length of a view is judged before n, whatever n is.
  pub length-first : (n : ℕ) (v : List ℕ) → (length v ≡ 16 * n → ⊥) → calls.figures n v ≡ refused 12

-- ---- read number 1 is 01 0001 01 02 0008 0000000000000001 (hexadecimal); one byte less is 7

abbrev pub read_one : List ℕ
read_one = 1 ∷ 0 ∷ 1 ∷ 1 ∷ 2 ∷ 0 ∷ 8 ∷ 0 ∷ 0 ∷ 0 ∷ 0 ∷ 0 ∷ 0 ∷ 0 ∷ 1 ∷ []

pub record ReadOne (calls : Calls) (n : ℕ) : Type 0 where
  -- Written into a buffer of 15 bytes, and read. Both follow from `taken`, and rule out no call that it does not.
  pub written : (v out : List ℕ) → length out ≡ 15 → calls.write n (Read 1) v out ≡ (returned 15, read_one)
  pub read : calls.read n read_one ≡ returned (Read 1)
  pub less : calls.read n (take 14 read_one) ≡ refused 7

-- ---- good for n = 1 has 34 bytes, for n = 16 has 274

pub record GoodBytes (calls : Calls) (n k : ℕ) : Type 0 where
  -- It follows from `taken`, and rules out no call that that does not.
  pub long : (t : ℕ) (v out : List ℕ) → allowed n (Good t) v ≡ true → k ≤ length out
      → (calls.write n (Good t) v out).0 ≡ returned k
  -- Bytes of that kind and another length are no message, and a view of another length is not written.
  pub other-bytes : (b : List ℕ) → get_or b 3 0 ≡ 7 → (length b ≡ k → ⊥) → calls.read n b ≡ refused 7
  pub other-view : (t : ℕ) (v out : List ℕ) → (18 + length v ≡ k → ⊥) → calls.write n (Good t) v out ≡ (refused 7, out)
