-- A message that is allowed with its view in bytes is lawful with its view by value. Assumes nothing.
use mathlib.Core.Path.{◌≡◌}
use mathlib.Core.Bool.{true}
use mathlib.Core.List.{List}
use Prim.Native.Nat.{ℕ, ◌≤◌}
use Rattle.view.specs.View.{view_of}
use Rattle.wire.specs.Layout.{allowed}
use Rattle.wire.specs.declared.Message.{Message}
use Rattle.wire.specs.declared.Message.TheVariants.{Read, ReadAnswer, Write, WriteAnswer, Echo, Value, Good}
use Rattle.step.specs.Allowed.{lawful}
use Rattle.step.specs.Stale.{writer_within}
use Rattle.step.proofs.Allowed.{allowed-lawful, lawful-writer}
use Rattle.calls.specs.Entry.{beside}
use Rattle.view.specs.Size.{nodes}

-- only a good message looks at the view
beside-lawful : (n : ℕ) (v : List ℕ) (m : Message) → lawful n m (view_of n v) ≡ true → lawful n m (beside n v m) ≡ true
beside-lawful n v (Read q) h = h
beside-lawful n v (ReadAnswer q t) h = h
beside-lawful n v (Write q t) h = h
beside-lawful n v (WriteAnswer q t) h = h
beside-lawful n v (Echo t) h = h
beside-lawful n v (Value t w p) h = h
beside-lawful n v (Good t) h = h

module _ (n : ℕ) (v : List ℕ) (m : Message) (h : allowed n m v ≡ true) where
  -- a message that is read is lawful, with the view that it carries
  pub read-lawful : lawful n m (beside n v m) ≡ true
  read-lawful = beside-lawful n v m (allowed-lawful n m v h)

  -- its writer is one of 1 to 16, where it is a value
  pub read-writer : n ≤ nodes → writer_within nodes m ≡ true
  read-writer l = lawful-writer n m (beside n v m) l read-lawful
