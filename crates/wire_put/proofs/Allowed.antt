-- When a message without a view is allowed: beside any view, and for the most nodes where it is for n.
use Prim.Native.Nat.{ℕ, ◌≤◌}
use mathlib.Core.Path.{◌≡◌, refl}
use mathlib.Core.Bool.{true, false}
use mathlib.Core.List.{List, []}
use lib.Dec.{leb}
use native.Mathlib.Omega.{arith}
use borrow.Author.Tests.{le-leb}
use Rattle.octets.specs.Test.{both}
use Rattle.octets.proofs.Test.{both_true, both_left, both_right, true-false}
use Rattle.view.specs.Size.{nodes, is_size}
use Rattle.wire.specs.Layout.{encode, allowed, is_tag}
use Rattle.wire.specs.Codec.{is_good}
use Rattle.wire.specs.declared.Message.{Message}
use Rattle.wire.specs.declared.Message.TheVariants.{Read, ReadAnswer, Write, WriteAnswer, Echo, Value, Good}
use Rattle.wire.proofs.Numbers.{size-most, writer-most, view-some}

-- one that is not good has the same bytes beside any view, and is allowed beside any
pub any-view : (n : ℕ) (m : Message) (v w : List ℕ) → is_good m ≡ false
    → (encode m v ≡ encode m w) × (allowed n m v ≡ allowed n m w)
unfolding encode allowed
any-view n (Read q) v w h = (refl, refl)
any-view n (ReadAnswer q t) v w h = (refl, refl)
any-view n (Write q t) v w h = (refl, refl)
any-view n (WriteAnswer q t) v w h = (refl, refl)
any-view n (Echo t) v w h = (refl, refl)
any-view n (Value t x p) v w h = (refl, refl)
any-view n (Good t) v w h = true-false true refl h

pub allowed-short : (n : ℕ) (m : Message) → is_size n ≡ true → allowed n m [] ≡ true → allowed nodes m [] ≡ true
unfolding allowed
allowed-short n (Read q) s h = h
allowed-short n (ReadAnswer q t) s h = h
allowed-short n (Write q t) s h = h
allowed-short n (WriteAnswer q t) s h = h
allowed-short n (Echo t) s h = h
allowed-short n (Value t w p) s h =
    let a : n ≤ nodes = size-most n s in
    let b : w ≤ n = writer-most n t w p [] h in
    let numbers = both (leb 1 t) (is_tag t) in
    let writer = both (leb 1 w) (leb w n) in
    both_true (both_left numbers writer h)
    (both_true (both_left (leb 1 w) (leb w n) (both_right numbers writer h)) (le-leb w nodes (omega arith)))
allowed-short n (Good t) s h = true-false _ h (view-some n t s)
