-- Which answer a call gives, case by case: each refusal on its condition where no earlier one applies, and the step
-- where none does. The cases are all there are. Assumes nothing.
use mathlib.Core.Path.{◌≡◌}
use mathlib.Core.Bool.{true, false}
use mathlib.Core.List.{List}
use Prim.Native.Nat.{ℕ}
use lib.Dec.{leb, ltb}
use lib.ListN.{length}
use Rattle.octets.specs.Answer.{returned, refused}
use Rattle.octets.specs.Test.{both}
use Rattle.wire.specs.Codec.{decode, view_part}
use Rattle.wire.specs.declared.Message.{Message}
use Rattle.record.specs.Usable.{usable, is_open, full}
use Rattle.record.specs.declared.Node.{Node}
use Rattle.record.specs.declared.Operation.{Operation}
use Rattle.step.specs.Move.{message_step, begin_step}
use Rattle.step.specs.Stale.{stale_message}
use Rattle.calls.specs.Entry.{least_output, refuse, let_out, begin, beside, taken, message}

module _ (c : Node) (o : Operation) (out : List ℕ) where
  pub begin-12 : ltb (length out) least_output ≡ true → begin c o out ≡ refuse 12 c out
  unfolding begin
  begin-12 h = rw h

  module _ (h : ltb (length out) least_output ≡ false) where
    pub begin-2 : usable c ≡ false → begin c o out ≡ refuse 2 c out
    unfolding begin
    begin-2 u = rw (h, u)

    module _ (u : usable c ≡ true) where
      pub begin-5 : is_open c.wait ≡ true → begin c o out ≡ refuse 5 c out
      unfolding begin
      begin-5 i = rw (h, u, i)

      pub begin-6 : is_open c.wait ≡ false → full c ≡ true → begin c o out ≡ refuse 6 c out
      unfolding begin
      begin-6 i j = rw (h, u, i, j)

      pub begin-goes : is_open c.wait ≡ false → full c ≡ false → begin c o out
          ≡ let_out (begin_step c.f c o) out
      unfolding begin
      begin-goes i j = rw (h, u, i, j)

module _ (c : Node) (s : ℕ) (b out : List ℕ) where
  pub message-12 : ltb (length out) least_output ≡ true → message c s b out ≡ refuse 12 c out
  unfolding message
  message-12 h = rw h

  module _ (h : ltb (length out) least_output ≡ false) where
    pub message-2 : usable c ≡ false → message c s b out ≡ refuse 2 c out
    unfolding message
    message-2 u = rw (h, u)

    module _ (u : usable c ≡ true) where
      pub message-3 : both (leb 1 s) (leb s c.n) ≡ false → message c s b out ≡ refuse 3 c out
      unfolding message
      message-3 k = rw (h, u, k)

      module _ (k : both (leb 1 s) (leb s c.n) ≡ true) where
        pub message-7 : (r : ℕ) → decode c.n b ≡ refused r → message c s b out ≡ refuse 7 c out
        unfolding message taken
        message-7 r e = rw (h, u, k, e)

        pub message-read : (m : Message) → decode c.n b ≡ returned m → message c s b out
            ≡ taken c s (view_part c.n b) out (returned m)
        unfolding message
        message-read m e = rw (h, u, k, e)

-- a message of the layout, with the bytes of its view
module _ (c : Node) (s : ℕ) (v out : List ℕ) (m : Message) where
  pub taken-9 : stale_message c s m ≡ true → taken c s v out (returned m) ≡ refuse 9 c out
  unfolding taken
  taken-9 e = rw e

  pub taken-goes : stale_message c s m ≡ false
      → taken c s v out (returned m) ≡ let_out (message_step c.f c s m (beside c.n v m)) out
  unfolding taken
  taken-goes e = rw e
