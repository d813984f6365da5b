-- A message that carries no view is written alike beside any bytes.
use Prim.Native.Nat.{ℕ}
use mathlib.Core.Path.{◌≡◌, refl}
use mathlib.Core.Bool.{true, false}
use mathlib.Core.List.{List, []}
use lib.ListN.{length}
use Rattle.octets.specs.Answer.{Answer}
use Rattle.octets.proofs.Test.{true-false}
use Rattle.wire.specs.Layout.{encode, allowed}
use Rattle.wire.specs.Codec.{is_good, answer, after}
use Rattle.wire.specs.declared.Message.{Message}
use Rattle.wire.specs.declared.Message.TheVariants.{Read, ReadAnswer, Write, WriteAnswer, Echo, Value, Good}

-- a message that is no good one
pub not_good : (m : Message) → ((t : ℕ) → m ≡ Good t → ⊥) → is_good m ≡ false
not_good (Read q) k = refl
not_good (ReadAnswer q t) k = refl
not_good (Write q t) k = refl
not_good (WriteAnswer q t) k = refl
not_good (Echo t) k = refl
not_good (Value t w p) k = refl
not_good (Good t) k = absurd (k t refl)

pub beside : (n : ℕ) (m : Message) (v s : List ℕ) {r : Answer ℕ} {out : List ℕ} → is_good m ≡ false
    → (r ≡ answer n m [] (length s)) × (out ≡ after r (encode m []) s)
    → (r ≡ answer n m v (length s)) × (out ≡ after r (encode m v) s)
unfolding answer encode allowed
beside n (Read q) v s g h = h
beside n (ReadAnswer q t) v s g h = h
beside n (Write q t) v s g h = h
beside n (WriteAnswer q t) v s g h = h
beside n (Echo t) v s g h = h
beside n (Value t w p) v s g h = h
beside n (Good t) v s g h = true-false true refl g
