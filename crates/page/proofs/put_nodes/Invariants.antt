-- `page::put_nodes` meets its contract.
use mathlib.Core.Path.{◌≡◌}
use lib.ListN.{length}
use Rattle.octets.specs.Bytes.{put}
use Rattle.figures.specs.Figures.{totals}
use Rattle.page.specs.Page.{node_lines}
use Rattle.page.proofs.put_nodes.Given as goal

abbrev pub invariant-loop-i : goal.invariant-loop-i
invariant-loop-i l = (length l.out ≡ length l.initial.out) × (l.t ≡ totals l.i l.v)
    × (l.out ≡ put l.initial.out 0 (node_lines l.i l.v))
