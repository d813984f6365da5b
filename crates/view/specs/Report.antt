-- A report and its eight bytes: four counts of two bytes, the high byte first.
use Rattle.std.specs.Prelude.{ℕ, ◌<◌, ◌^◌, Bool, List, ◌++◌, eqb}
use Rattle.octets.specs.Test.{both}
use Rattle.octets.specs.Bytes.{num, be, part}
use Rattle.view.specs.Size.{report_size}
use Rattle.view.specs.declared.Report.{Report}

-- the counts have sixteen bits, as their type says
pub record Counts (p : Report) : Type 0 where
  pub extensions : p.extensions < 2 ^ 16
  pub lines : p.lines < 2 ^ 16
  pub waiting : p.waiting < 2 ^ 16
  pub wakeups : p.wakeups < 2 ^ 16

abbrev pub no_report : Report
no_report = record { extensions = 0; lines = 0; waiting = 0; wakeups = 0 }

abbrev pub is_none : Report → Bool
is_none p = both (eqb p.extensions 0) (both (eqb p.lines 0) (both (eqb p.waiting 0) (eqb p.wakeups 0)))

abbrev pub report_bytes : Report → List ℕ
report_bytes p = be 2 p.extensions ++ be 2 p.lines ++ be 2 p.waiting ++ be 2 p.wakeups

-- a report as one number: that of its eight bytes
abbrev pub report_number : Report → ℕ
report_number p = num (report_bytes p)

unfoldable pub report_of : List ℕ → Report
report_of b =
    record {
      extensions = num (part b 0 2);
      lines = num (part b 2 2);
      waiting = num (part b 4 2);
      wakeups = num
          (part b 6 2);
    }

-- the report whose number is x
abbrev pub report_from : ℕ → Report
report_from x = report_of (be report_size x)
