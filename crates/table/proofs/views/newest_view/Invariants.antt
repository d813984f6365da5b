-- `table::views::newest_view` meets its contract: the invariant: the first w entries are chosen, the others are as
-- held. Assumes nothing.
use Rattle.std.proofs.Common.{◌≡◌, ◌++◌, drop}
use Rattle.table.specs.Loop.{numbered}
use Rattle.table.specs.Table.{newest_tag, newest_report}
use Rattle.table.proofs.views.newest_view.Given as goal

abbrev pub invariant-loop-w : goal.invariant-loop-w
invariant-loop-w l = record {
  tags : l.v.tags ≡ numbered l.w (newest_tag l.t l.last l.initial.v) ++ drop l.w l.initial.v.tags;
  reports : l.v.reports ≡ numbered l.w (newest_report l.t l.last l.initial.v) ++ drop l.w l.initial.v.reports;
}
