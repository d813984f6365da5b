-- `react_bytes::tables::put_newest` meets its contract.
use Prim.Native.Nat.{ℕ, ◌+◌}
use mathlib.Core.Path.{◌≡◌}
use mathlib.Core.List.{List}
use lib.ListN.{length}
use Rattle.octets.specs.Bytes.{put}
use Rattle.octets.specs.Loop.{join}
use Rattle.region.specs.Record.{view_in, last_in, atmax_in}
use Rattle.react_bytes.specs.Handled.{newest_entry}
use Rattle.react_bytes.proofs.tables.put_newest.Given as goal

abbrev pub entry : List ℕ → ℕ → ℕ → List ℕ
entry r t i = newest_entry t (view_in r last_in) (view_in r atmax_in) (i + 1)

abbrev pub invariant-loop-i : goal.invariant-loop-i
invariant-loop-i l = (l.out ≡ put l.initial.out 0 (join l.i (entry l.r l.t)))
    × (length l.out ≡ length l.initial.out)
