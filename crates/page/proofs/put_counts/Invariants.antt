-- `page::put_counts` meets its contract.
use Rattle.std.proofs.Common.{◌≡◌, ◌++◌, length, get_or}
use Rattle.octets.specs.Bytes.{put}
use Rattle.octets.specs.Loop.{join}
use Rattle.digits.specs.Decimal.{decimal}
use Rattle.page.specs.Page.{cell_text}
use Rattle.page.proofs.put_counts.Given as goal

abbrev pub invariant-loop-j : goal.invariant-loop-j
invariant-loop-j l = (length l.out ≡ length l.initial.out)
    × (l.out ≡ put l.fn.out l.at (l.name ++ join l.j (λ k. cell_text (decimal (get_or l.counts k 0)))))
