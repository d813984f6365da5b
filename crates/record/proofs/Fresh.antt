-- A fresh record is usable. Assumes nothing.
use mathlib.Core.Path.{◌≡◌, refl}
use mathlib.Core.Bool.{true}
use Prim.Native.Nat.{ℕ}
use lib.ListN.{replicate}
use Rattle.octets.proofs.Test.{both_true}
use Rattle.table.specs.Loop.{all}
use Rattle.table.specs.Table.{heard_within, cells}
use Rattle.table.proofs.Entries.{view_within-absent}
use Rattle.view.specs.Size.{limit}
use Rattle.record.specs.Record.{blank}
use Rattle.record.specs.Usable.{sizes_within, numbers_ok, tables_ok, usable}

none-heard : heard_within (replicate cells 0) ≡ true
unfolding heard_within all
none-heard = refl

pub fresh-usable : (n f own : ℕ) → sizes_within n f own ≡ true → usable (blank n f own) ≡ true
unfolding usable numbers_ok tables_ok
fresh-usable n f own h =
    both_true h (both_true refl (both_true (both_true none-heard (view_within-absent limit))
    (both_true (both_true (view_within-absent 0) (view_within-absent limit)) (view_within-absent 0))))
