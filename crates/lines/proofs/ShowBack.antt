-- An event's own line is read back as that event, so that different events have different lines.
use Prim.Native.Nat.{ℕ}
use mathlib.Core.Path.{◌≡◌, refl, sym, ap, ◌∙◌}
use mathlib.Core.Bool.{true}
use Rattle.std.specs.Prelude.{Some}
use native.Mathlib.Omega.{arith}
use lib.ListN.{length}
use borrow.Author.Tests.{le-leb, eq-eqb}
use Rattle.octets.proofs.Test.{both_true}
use Rattle.view.specs.Size.{report_size}
use Rattle.view.specs.Report.{Counts, report_bytes, report_of}
use Rattle.view.specs.declared.Report.{Report}
use Rattle.view.proofs.ReportBytes.{report-back, report-bytes}
use Rattle.digits.specs.Decimal.{value, decimal}
use Rattle.digits.specs.Hex.{hex_bytes, hex_text, hex_size}
use Rattle.digits.proofs.DecimalBack.{value-decimal, digits-fewest, fewest-some, fewest-most}
use Rattle.digits.proofs.HexBack.{bytes_back, text-hex, length-text}
use Rattle.lines.specs.Grammar.{is_number, is_report, event_of}
use Rattle.lines.specs.Legal.{End, whole, cut, Legal, update, scan, deliver, stop}
use Rattle.lines.specs.Show.{show_extent, show, Small, SmallCut, HasLine}
use Rattle.outgoing.specs.declared.Extent.{Extent}
use Rattle.outgoing.specs.declared.Extent.TheVariants.{Whole, Cut}
use Rattle.lines.specs.declared.Command.{Command}
use Rattle.lines.specs.declared.Command.TheVariants.{Update, Scan, Deliver, Stop}
use Rattle.lines.proofs.Reading.{legal-read}

number-shown : (x : ℕ) → Small x → is_number (decimal x) ≡ true
number-shown x h =
    both_true
    (both_true (le-leb 1 (length (decimal x)) (fewest-some 19 x))
    (le-leb (length (decimal x)) 4 (fewest-most 20 x 4 h (omega arith))))
    (digits-fewest 20 x)

number_same : (x : ℕ) → Small x → value (decimal x) ≡ x
number_same x h = value-decimal x (omega arith)

report-shown : (p : Report) → Counts p → is_report (hex_text report_size (report_bytes p)) ≡ true
report-shown p h =
    both_true (eq-eqb (length (hex_text report_size (report_bytes p))) (hex_size report_size)
    (length-text report_size (report_bytes p)))
    (text-hex report_size (report_bytes p) (report-bytes p h))

report-same : (p : Report) → Counts p → report_of (hex_bytes report_size (hex_text report_size (report_bytes p))) ≡ p
report-same p h = ap report_of (bytes_back report_size (report_bytes p) (report-bytes p h) refl) ∙ report-back p

end-shown : (x : Extent) → SmallCut x → End (show_extent x) x
end-shown Whole h = whole
end-shown (Cut m) h = rw (number_same m h) at (cut (decimal m) (number-shown m h))

-- an event's line is legal and says that event
pub show-legal : (l : Command) → HasLine l → Legal (show l) l
show-legal (Update c p x) h =
    rw (number_same c h.0, report-same p h.1) at
    (update (decimal c) (hex_text report_size (report_bytes p)) (number-shown c h.0) (report-shown p h.1)
    (end-shown x
    h.2))
show-legal (Scan c x) h = rw (number_same c h.0) at (scan (decimal c) (number-shown c h.0) (end-shown x h.1))
show-legal (Deliver a b x) h =
    rw (number_same a h.0, number_same b h.1) at
    (deliver (decimal a) (decimal b) (number-shown a h.0) (number-shown b h.1) (end-shown x h.2))
show-legal (Stop c) h = rw (number_same c h) at (stop (decimal c) (number-shown c h))

pub show-back : (l : Command) → HasLine l → event_of (show l) ≡ Some l
show-back l h = legal-read (show-legal l h)

pub show-injective : (k l : Command) → HasLine k → HasLine l → show k ≡ show l → k ≡ l
show-injective k l h i e = let both : Some k ≡ Some l = sym (show-back k h) ∙ ap event_of e ∙ show-back l i in cc
