-- Where the view of a message is there.
use Prim.Native.Nat.{ℕ, ◌≤◌}
use mathlib.Core.Path.{◌≡◌, refl}
use mathlib.Core.Bool.{true}
use mathlib.Core.List.{List}
use native.Mathlib.Omega.{arith}
use lib.ListN.{length}
use borrow.Author.Tests.{le-leb}
use Rattle.view.specs.Size.{view_size}
use Rattle.wire.specs.Layout.{allowed}
use Rattle.wire.specs.declared.Message.{Message}
use Rattle.wire.specs.declared.Message.TheVariants.{Read, ReadAnswer, Write, WriteAnswer, Echo, Value, Good}
use Rattle.wire.proofs.Numbers.{view-length}
use Rattle.react_bytes.specs.Handled.{view_there}

-- bytes that are long enough hold the view of any message
pub long-there : (n : ℕ) (m : Message) (v : List ℕ) → view_size n ≤ length v → view_there n m v ≡ true
long-there n (Read q) v h = refl
long-there n (ReadAnswer q t) v h = refl
long-there n (Write q t) v h = refl
long-there n (WriteAnswer q t) v h = refl
long-there n (Echo t) v h = refl
long-there n (Value t w p) v h = refl
long-there n (Good t) v h = le-leb (view_size n) (length v) h

-- so do those that are allowed beside it
pub allowed-there : (n : ℕ) (m : Message) (v : List ℕ) → allowed n m v ≡ true → view_there n m v ≡ true
allowed-there n (Read q) v h = refl
allowed-there n (ReadAnswer q t) v h = refl
allowed-there n (Write q t) v h = refl
allowed-there n (WriteAnswer q t) v h = refl
allowed-there n (Echo t) v h = refl
allowed-there n (Value t w p) v h = refl
allowed-there n (Good t) v h = le-leb (view_size n) (length v) (omega (arith, view-length n t v h))
