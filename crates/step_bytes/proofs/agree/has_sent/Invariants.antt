-- `step_bytes::agree::has_sent` meets its contract.
use mathlib.Core.Path.{◌≡◌}
use Prim.Native.Nat.{ℕ}
use lib.Dec.{leb}
use Rattle.octets.specs.Word.{words}
use Rattle.table.specs.Loop.{all}
use Rattle.table.specs.Table.{tag_of, heard_of, cells}
use Rattle.region.specs.Record.{heard_place, view_in, atround_in}
use Rattle.step_bytes.proofs.agree.has_sent.Given as goal

abbrev pub invariant-loop-w : goal.invariant-loop-w
invariant-loop-w l =
    l.ok ≡ all l.w (λ (i : ℕ). leb (tag_of (view_in l.r atround_in) i) (heard_of (words cells l.r heard_place) l.s i))
