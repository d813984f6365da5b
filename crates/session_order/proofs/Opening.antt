-- What a first line that is not bad says of n and f.
use Prim.Native.Nat.{ℕ, ◌+◌, ◌<◌, ◌≤◌}
use mathlib.Core.Path.{◌≡◌}
use mathlib.Core.List.{List}
use Rattle.table.proofs.Sets.{tolerates-half}
use Rattle.std.specs.Prelude.{Some}
use Rattle.lines.specs.Grammar.{first_of}
use Rattle.lines.specs.declared.Opening.{Opening}
use Rattle.lines.proofs.OnlyLegal.{opens-only, opens-within}

pub record Within (n f : ℕ) : Type 0 where
  pub low : 1 ≤ n
  pub high : n ≤ 5
  pub half : f + f < n

pub opening-within : (l : List ℕ) (o : Opening) → first_of l ≡ Some o → Within o.nodes o.faults
opening-within l o e =
    let w = opens-within (opens-only l o e) in
    record { low = w.0; high = w.1; half = tolerates-half o.nodes o.faults w.2 }
