-- The lines that a session prints, with their line feed. An ending prints the event's number, `done`, `scan` or
-- `spent`, the node and, for a scan, each report or `-`; a refusal prints the event's number, `no` and its own.
use Rattle.std.specs.Prelude.{Option, Some, None, ℕ, ◌+◌, ◌*◌, min, List, [], ◌∷◌, ◌++◌, get_or, eqb}
use Rattle.octets.specs.Test.{pick}
use Rattle.octets.specs.Bytes.{be}
use Rattle.octets.specs.Loop.{join}
use Rattle.view.specs.Report.{no_report, report_number}
use Rattle.view.specs.Size.{nodes, report_size}
use Rattle.view.specs.declared.View.{View}
use Rattle.digits.specs.Decimal.{decimal}
use Rattle.digits.specs.Hex.{hex_text, hex_size}
use Rattle.answers.specs.declared.Printed.{Printed}
use Rattle.answers.specs.declared.Printed.TheVariants.{Done, Scan, Spent, No}

-- the words, each between two spaces
abbrev pub done_is : List ℕ
done_is = 32 ∷ 100 ∷ 111 ∷ 110 ∷ 101 ∷ 32 ∷ []

abbrev pub scan_is : List ℕ
scan_is = 32 ∷ 115 ∷ 99 ∷ 97 ∷ 110 ∷ 32 ∷ []

abbrev pub spent_is : List ℕ
spent_is = 32 ∷ 115 ∷ 112 ∷ 101 ∷ 110 ∷ 116 ∷ 32 ∷ []

abbrev pub no_is : List ℕ
no_is = 32 ∷ 110 ∷ 111 ∷ 32 ∷ []

-- the most bytes of a number, of a word with its spaces, of the start of a line, of an entry and of a line
abbrev pub number_room : ℕ
number_room = 20

abbrev pub word_room : ℕ
word_room = 7

abbrev pub start_room : ℕ
start_room = number_room + word_room + number_room

abbrev pub entry_room : ℕ
entry_room = 1 + hex_size report_size

abbrev pub room : ℕ
room = start_room + entry_room * nodes + 1

-- an event, a word and a number
unfoldable pub start : ℕ → List ℕ → ℕ → List ℕ
start e w c = decimal e ++ w ++ decimal c

-- after a space the digits of a report's number, or `-` beside tag 0: no report
unfoldable pub entry : (tag report : ℕ) → List ℕ
entry tag x = 32 ∷ pick (eqb tag 0) (45 ∷ []) (hex_text report_size (be report_size x))

abbrev pub entry_at : View → ℕ → List ℕ
entry_at v i = entry (get_or v.tags i 0) (report_number (get_or v.reports i no_report))

unfoldable pub entries : ℕ → View → List ℕ
entries n v = join (min n nodes) (entry_at v)

abbrev pub feed : List ℕ
feed = 10 ∷ []

-- what event e prints, if anything, in a cluster of n nodes; v is the view of a scan that ended
unfoldable pub line : (e : ℕ) → Option Printed → (n : ℕ) → View → List ℕ
line e (Some (Done c)) n v = start e done_is c ++ feed
line e (Some (Scan c)) n v = start e scan_is c ++ entries n v ++ feed
line e (Some (Spent c)) n v = start e spent_is c ++ feed
line e (Some (No k)) n v = start e no_is k ++ feed
line e None n v = []
