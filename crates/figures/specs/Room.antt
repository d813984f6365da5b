-- Cited by inner contracts only: figures to which a report may be added in 32 bits. The largest needs no room.
use Rattle.std.specs.Prelude.{◌+◌, ◌<◌, ◌^◌}
use Rattle.figures.specs.Figures.{count_most}
use Rattle.figures.specs.declared.Totals.{Totals}

pub record Roomy (t : Totals) : Type 0 where
  pub extensions : t.extensions + count_most < 2 ^ 32
  pub lines : t.lines + count_most < 2 ^ 32
  pub wakeups : t.wakeups + count_most < 2 ^ 32
