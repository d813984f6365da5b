-- Every line that is printed fits in its room.
use Prim.Native.Nat.{ℕ, zero, suc, ◌*◌, ◌≤◌, min}
use mathlib.Core.Bool.{Bool, true, false}
use mathlib.Core.List.{List, [], ◌∷◌}
use native.Mathlib.Omega.{arith}
use lib.ListN.{length, length-append}
use lib.Dec.{eqb}
use Rattle.std.specs.Prelude.{Option, Some, None}
use Rattle.octets.specs.Test.{pick}
use Rattle.octets.specs.Bytes.{be}
use Rattle.octets.specs.Loop.{join}
use Rattle.view.specs.Size.{nodes, report_size}
use Rattle.view.specs.declared.View.{View}
use Rattle.digits.specs.Hex.{hex_text}
use Rattle.digits.proofs.DecimalBack.{length-decimal}
use Rattle.digits.proofs.HexBack.{length-text}
use Rattle.answers.specs.Answer.{done_is, scan_is, spent_is, no_is, start, entry, entry_at, entries, line, room}
use Rattle.answers.specs.Answer.{word_room, start_room, entry_room}
use Rattle.answers.specs.declared.Printed.{Printed}
use Rattle.answers.specs.declared.Printed.TheVariants.{Done, Scan, Spent, No}

start-short : (e : ℕ) (w : List ℕ) (c : ℕ) → length w ≤ word_room → length (start e w c) ≤ start_room
unfolding start
start-short e w c h = simp length-append (omega (arith, length-decimal e, length-decimal c))

entry-short : (tag x : ℕ) → length (entry tag x) ≤ entry_room
unfolding entry
entry-short tag x = cases (eqb tag 0)
  where
    cases : (b : Bool) → length (32 ∷ pick b (45 ∷ []) (hex_text report_size (be report_size x))) ≤ entry_room
    cases true = omega arith
    cases false = omega (arith, length-text report_size (be report_size x))

join-short : (k m : ℕ) (f : ℕ → List ℕ) → ((i : ℕ) → length (f i) ≤ m) → length (join k f) ≤ m * k
unfolding join
join-short zero m f h = omega arith
join-short (suc k) m f h = simp length-append (omega (arith, join-short k m f h, h k))

entries-short : (n : ℕ) (v : View) → length (entries n v) ≤ entry_room * nodes
unfolding entries
entries-short n v =
    let k : ℕ = min n nodes in
    let l : length (join k (entry_at v)) ≤ entry_room * k = join-short k entry_room (entry_at v) (λ i. entry-short _ _)
    in
    omega arith

pub line-short : (e : ℕ) (r : Option Printed) (n : ℕ) (v : View) → length (line e r n v) ≤ room
unfolding line
line-short e (Some (Done c)) n v = simp length-append (omega (arith, start-short e done_is c (omega arith)))
line-short e (Some (Scan c)) n v =
    simp length-append (omega (arith, start-short e scan_is c (omega arith), entries-short n v))
line-short e (Some (Spent c)) n v = simp length-append (omega (arith, start-short e spent_is c (omega arith)))
line-short e (Some (No k)) n v = simp length-append (omega (arith, start-short e no_is k (omega arith)))
line-short e None n v = omega arith
