-- Message calls in turn, none of them refused: what one adds to those before it, and what is known of what they left.
-- Assumes nothing.
use Prim.Native.Nat.{ℕ, ◌≤◌}
use mathlib.Core.Path.{◌≡◌, refl, ap₂, subst}
use mathlib.Core.Bool.{Bool, true, false}
use mathlib.Core.List.{List}
use native.Mathlib.Omega.{arith}
use lib.ListN.{length, take}
use Rattle.octets.specs.Answer.{returned, refused}
use Rattle.octets.specs.Test.{pick}
use Rattle.octets.proofs.Test.{true-false}
use Rattle.view.specs.Size.{nodes}
use Rattle.view.specs.View.{AbsentPast}
use Rattle.view.proofs.First.{none-absent}
use Rattle.record.specs.Usable.{usable, is_open}
use Rattle.record.proofs.Parts.{parts}
use Rattle.step.specs.declared.Ending.{Ending}
use Rattle.step.specs.declared.Ending.TheVariants.{None, Done, Scan, Spent}
use Rattle.step.specs.Told.{told, told_view}
use Rattle.region.specs.Record.{record_size, record_of, codes_known}
use Rattle.calls_bytes.specs.Entry.{LentResult}
use Rattle.calls_bytes.specs.Frame.{is_whole, is_ending, first_stands, and_then, at_start}
use Rattle.calls_bytes.specs.Walk.{walk_by}

-- ---- a call after others

module _ (p a : LentResult) {x y : Ending} (e : p.ending ≡ returned x) (f : a.ending ≡ returned y) where
  earlier : first_stands p.ending a.ending ≡ is_ending x
  earlier = ap₂ first_stands e f

  pub ending-then : (and_then p a).ending ≡ returned (pick (is_ending x) x y)
  ending-then = rw earlier (by (is_ending x))
    where
      by : (t : Bool) → pick t p.ending a.ending ≡ returned (pick t x y)
      by true = e
      by false = f

  pub answer-then : (and_then p a).answer ≡ pick (is_ending x) p.answer a.answer
  answer-then = rw earlier refl

-- a refusal of the later is told
pub refused-then : (p a : LentResult) {x : Ending} {k : ℕ} → p.ending ≡ returned x → a.ending ≡ refused k
    → (and_then p a).ending ≡ refused k
refused-then p a {x} {k} e f =
    let s : first_stands p.ending a.ending ≡ false = ap₂ first_stands e f in rw s f

pub not-ended : (x : Ending) → is_ending x ≡ false → x ≡ None
not-ended None h = refl
not-ended (Done r) h = true-false true refl h
not-ended (Scan r) h = true-false true refl h
not-ended Spent h = true-false true refl h

-- ---- what calls in turn have left, where none was refused: x is the ending that came, if any

pub record Stand (n : ℕ) (p : LentResult) (x : Ending) : Type 0 where
  pub ends : p.ending ≡ returned x
  pub tells : told (returned x) (told_view p.answer) ≡ p.answer
  pub long : length p.bytes ≡ record_size
  pub known : codes_known p.bytes ≡ true
  pub can-step : usable (record_of p.bytes) ≡ true
  pub n-is : (record_of p.bytes).n ≡ n
  pub closed : is_ending x ≡ true → is_open (record_of p.bytes).wait ≡ false
  pub inside : p.length ≤ length p.out
  pub sent : is_whole n (take p.length p.out) ≡ true
  pub shown : AbsentPast n (told_view p.answer)

-- before the first of them
pub stand-first : (r : List ℕ) (n : ℕ) (out : List ℕ) → length r ≡ record_size → codes_known r ≡ true
    → usable (record_of r) ≡ true → (record_of r).n ≡ n → Stand n (at_start r out) None
unfolding walk_by
stand-first r n out l k u e =
    record {
      ends = refl;
      tells = refl;
      long = l;
      known = k;
      can-step = u;
      n-is = e;
      closed = λ t. true-false false t refl;
      inside = omega arith;
      sent = refl;
      shown = none-absent n (subst (λ (j : ℕ). j ≤ nodes) e (parts (record_of r) u).n-high);
    }
