-- The line of an event as a program writes it: numbers with the fewest digits.
use Rattle.std.specs.Prelude.{ℕ, ◌<◌, List, [], ◌∷◌, ◌++◌}
use Rattle.view.specs.Size.{report_size}
use Rattle.view.specs.Report.{Counts, report_bytes}
use Rattle.digits.specs.Decimal.{decimal}
use Rattle.digits.specs.Hex.{hex_text}
use Rattle.lines.specs.Grammar.{cut_is}
use Rattle.lines.specs.Legal.{field}
use Rattle.outgoing.specs.declared.Extent.{Extent}
use Rattle.outgoing.specs.declared.Extent.TheVariants.{Whole, Cut}
use Rattle.lines.specs.declared.Command.{Command}
use Rattle.lines.specs.declared.Command.TheVariants.{Update, Scan, Deliver, Stop}

abbrev pub show_extent : Extent → List ℕ
show_extent Whole = []
show_extent (Cut m) = field cut_is ++ field (decimal m)

abbrev pub show : Command → List ℕ
show (Update c p x) = 117 ∷ (field (decimal c) ++ (field (hex_text report_size (report_bytes p)) ++ show_extent x))
show (Scan c x) = 115 ∷ (field (decimal c) ++ show_extent x)
show (Deliver a b x) = 100 ∷ (field (decimal a) ++ (field (decimal b) ++ show_extent x))
show (Stop c) = 120 ∷ field (decimal c)

-- the events that have a line: numbers of at most four digits, and counts of sixteen bits
abbrev pub Small : ℕ → Type 0
Small x = x < 10000

abbrev pub SmallCut : Extent → Type 0
SmallCut Whole = Unit {0}
SmallCut (Cut m) = Small m

abbrev pub HasLine : Command → Type 0
HasLine (Update c p x) = Small c × Counts p × SmallCut x
HasLine (Scan c x) = Small c × SmallCut x
HasLine (Deliver a b x) = Small a × Small b × SmallCut x
HasLine (Stop c) = Small c
