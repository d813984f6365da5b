-- The lines of a session, without their line feed, as document 01's section on the bench program and request [4] of
-- document 02 have them: `n f` on the first line, n nodes of which f may stop, then one event a line, `u c h`, `s c`,
-- `d a b` or `x c`, where u, s and d may end in `cut m`. Spaces are single. A report h has sixteen hexadecimal digits
-- with small letters, every other number one to four digits. What is not of this form is a bad line.
use Rattle.std.specs.Prelude.{ℕ, suc, ◌-◌, Bool, Option, Some, None, List, [], ◌∷◌, length, take, drop, get_or}
use Rattle.std.specs.Prelude.{leb, eqb}
use Rattle.std.specs.List.{position_or_len}
use Rattle.std.specs.Str.{bytes_eq}
use Rattle.octets.specs.Test.{pick, both}
use Rattle.view.specs.Size.{report_size}
use Rattle.view.specs.Report.{report_of}
use Rattle.table.specs.Quorum.{tolerates}
use Rattle.digits.specs.Decimal.{all_digits, value}
use Rattle.digits.specs.Hex.{all_hex, hex_bytes, hex_size}
use Rattle.view.specs.declared.Report.{Report}
use Rattle.outgoing.specs.declared.Extent.{Extent}
use Rattle.outgoing.specs.declared.Extent.TheVariants.{Whole, Cut}
use Rattle.lines.specs.declared.Opening.{Opening}
use Rattle.lines.specs.declared.Command.{Command}
use Rattle.lines.specs.declared.Command.TheVariants.{Update, Scan, Deliver, Stop}

-- ---- words

-- one to four digits
abbrev pub is_number : List ℕ → Bool
is_number w = both (both (leb 1 (length w)) (leb (length w) 4)) (all_digits w)

unfoldable pub number_of : List ℕ → Option ℕ
number_of w = pick (is_number w) (Some (value w)) None

-- the hexadecimal digits of a report
abbrev pub is_report : List ℕ → Bool
is_report w = both (eqb (length w) (hex_size report_size)) (all_hex w)

unfoldable pub report_in : List ℕ → Option Report
report_in w = pick (is_report w) (Some (report_of (hex_bytes report_size w))) None

-- ---- fields: a space, and the bytes up to the next space or the end

abbrev pub space : ℕ
space = 32

-- the place of the first x, or the end
abbrev pub place_of : ℕ → List ℕ → ℕ
place_of x s = position_or_len (λ y. eqb y x) s

-- 0 where what comes first is no space
unfoldable pub field_length : List ℕ → ℕ
field_length [] = 0
field_length (x ∷ s) = pick (eqb x space) (suc (place_of space s)) 0

-- the first field's word, and what comes after the field
unfoldable pub word : List ℕ → List ℕ
word t = take (field_length t - 1) (drop 1 t)

unfoldable pub after : List ℕ → List ℕ
after t = drop (field_length t) t

-- ---- what comes after an event's numbers: nothing, or `cut m`

abbrev pub cut_by : Bool → Option ℕ → Bool → Option Extent
cut_by t None e = None
cut_by t (Some m) e = pick (both t e) (Some (Cut m)) None

abbrev pub cut_is : List ℕ
cut_is = 99 ∷ 117 ∷ 116 ∷ []

unfoldable pub tail_of : List ℕ → Option Extent
tail_of t =
    pick (eqb (length t) 0) (Some Whole)
    (cut_by (bytes_eq (word t) cut_is) (number_of (word (after t))) (eqb (length (after (after t))) 0))

-- ---- events, from what comes after their letter

abbrev pub update_by : Option ℕ → Option Report → Option Extent → Option Command
update_by (Some c) (Some p) (Some x) = Some (Update c p x)
update_by (Some c) (Some p) None = None
update_by (Some c) None x = None
update_by None p x = None

abbrev pub update_in : List ℕ → Option Command
update_in t = update_by (number_of (word t)) (report_in (word (after t))) (tail_of (after (after t)))

abbrev pub scan_by : Option ℕ → Option Extent → Option Command
scan_by (Some c) (Some x) = Some (Scan c x)
scan_by (Some c) None = None
scan_by None x = None

abbrev pub scan_in : List ℕ → Option Command
scan_in t = scan_by (number_of (word t)) (tail_of (after t))

abbrev pub deliver_by : Option ℕ → Option ℕ → Option Extent → Option Command
deliver_by (Some a) (Some b) (Some x) = Some (Deliver a b x)
deliver_by (Some a) (Some b) None = None
deliver_by (Some a) None x = None
deliver_by None b x = None

abbrev pub deliver_in : List ℕ → Option Command
deliver_in t = deliver_by (number_of (word t)) (number_of (word (after t))) (tail_of (after (after t)))

abbrev pub stop_by : Option ℕ → Bool → Option Command
stop_by None e = None
stop_by (Some c) e = pick e (Some (Stop c)) None

abbrev pub stop_in : List ℕ → Option Command
stop_in t = stop_by (number_of (word t)) (eqb (length (after t)) 0)

abbrev pub event_by : ℕ → List ℕ → Option Command
event_by letter t =
    pick (eqb letter 117) (update_in t) (pick (eqb letter 115) (scan_in t) (pick (eqb letter 100) (deliver_in t)
    (pick (eqb letter 120) (stop_in t) None)))

-- an event's line
unfoldable pub event_of : List ℕ → Option Command
event_of s = event_by (get_or s 0 0) (drop 1 s)

-- ---- the first line: n from 1 to 5, and an f that n nodes tolerate

abbrev pub opening_by : Option ℕ → Option ℕ → Bool → Option Opening
opening_by (Some n) (Some f) e =
    pick (both e (both (leb n 5) (tolerates n f))) (Some (record { nodes = n; faults = f })) None
opening_by (Some n) None e = None
opening_by None b e = None

-- n before the first space; then a field, which is f, and nothing after it
abbrev pub first_by : List ℕ → List ℕ → Option Opening
first_by w t = opening_by (number_of w) (number_of (word t)) (eqb (length (after t)) 0)

unfoldable pub first_of : List ℕ → Option Opening
first_of s = first_by (take (place_of space s) s) (drop (place_of space s) s)
