-- The legal lines once more, as the grammar that the documents write down: which bytes are a line, and what they say.
-- proofs/Reading shows that `first_of` and `event_of` read these lines so, and proofs/OnlyLegal that they answer bad
-- for all others.
use Rattle.std.specs.Prelude.{ℕ, ◌≤◌, ◌≡◌, true, List, [], ◌∷◌, ◌++◌}
use Rattle.view.specs.Size.{report_size}
use Rattle.view.specs.Report.{report_of}
use Rattle.table.specs.Quorum.{tolerates}
use Rattle.digits.specs.Decimal.{value}
use Rattle.digits.specs.Hex.{hex_bytes}
use Rattle.lines.specs.Grammar.{space, cut_is, is_number, is_report}
use Rattle.outgoing.specs.declared.Extent.{Extent}
use Rattle.outgoing.specs.declared.Extent.TheVariants.{Whole, Cut}
use Rattle.lines.specs.declared.Opening.{Opening}
use Rattle.lines.specs.declared.Command.{Command}
use Rattle.lines.specs.declared.Command.TheVariants.{Update, Scan, Deliver, Stop}

abbrev pub field : List ℕ → List ℕ
field w = space ∷ w

-- `n f`
pub data Opens : List ℕ → Opening → Type 0 where
  opens : (n f : List ℕ) → is_number n ≡ true → is_number f ≡ true → value n ≤ 5 → tolerates (value n) (value f) ≡ true
      → Opens (n ++ field f) (record { nodes = value n; faults = value f })

-- nothing, or ` cut m`
pub data End : List ℕ → Extent → Type 0 where
  whole : End [] Whole
  cut : (m : List ℕ) → is_number m ≡ true → End (field cut_is ++ field m) (Cut (value m))

-- `u c h`, `s c`, `d a b` and `x c`; all but the last with an end
pub data Legal : List ℕ → Command → Type 0 where
  update : (c h : List ℕ) {t : List ℕ} {x : Extent} → is_number c ≡ true → is_report h ≡ true → End t x
      → Legal (117 ∷ (field c ++ (field h ++ t))) (Update (value c) (report_of (hex_bytes report_size h)) x)
  scan : (c : List ℕ) {t : List ℕ} {x : Extent} → is_number c ≡ true → End t x → Legal (115 ∷ (field c ++ t)) (Scan
      (value c) x)
  deliver : (a b : List ℕ) {t : List ℕ} {x : Extent} → is_number a ≡ true → is_number b ≡ true → End t x
      → Legal (100 ∷ (field a ++ (field b ++ t))) (Deliver (value a) (value b) x)
  stop : (c : List ℕ) → is_number c ≡ true → Legal (120 ∷ field c) (Stop (value c))
