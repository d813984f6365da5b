-- Wrong calls that the point on calls waiting rules out, each by one of its clauses. That the figures of each view are
-- taken (`taken`) rules them out too, since the point follows from it.
use Prim.Native.Nat.{ℕ, zero, suc, ◌+◌, ◌<◌, max}
use native.Mathlib.Omega.{arith}
use mathlib.Core.Path.{◌≡◌, refl, ap}
use mathlib.Core.List.{List, ◌++◌}
use lib.Dec.{eqb}
use lib.ListN.{replicate}
use Rattle.octets.specs.Answer.{Answer, returned, refused}
use Rattle.octets.specs.Bytes.{part}
use Rattle.octets.specs.Loop.{up_to, all_to}
use Rattle.octets.specs.Test.{pick}
use Rattle.view.specs.Report.{report_of}
use Rattle.view.specs.View.{entry_bytes, tag_at, report_at, view_ok}
use Rattle.view.specs.declared.Report.{Report}
use Rattle.figures.specs.Figures.{total, totals, figures_of}
use Rattle.figures.specs.declared.Totals.{Totals}
use Rattle.points.specs.Figures.{Waiting}
use Rattle.points.proofs.RuledOut.{RuledOut, apart, value}
use Rattle.points.proofs.Wrong.{counts}

three : Report
three = record { extensions = 1; lines = 2; waiting = 3; wakeups = 4 }

five : Report
five = record { extensions = 10; lines = 20; waiting = 5; wakeups = 40 }

rising : Waiting (entry_bytes 1 three ++ entry_bytes 2 five) 3 5
unfolding three five view_ok all_to part report_of
rising = record {
  long = refl;
  ok = refl;
  first = (λ e. let z : ◌≡◌ {A = ℕ} 1 0 = e in omega arith, refl);
  second = (λ e. let z : ◌≡◌ {A = ℕ} 2 0 = e in omega arith, refl);
}

falling : Waiting (entry_bytes 1 five ++ entry_bytes 2 three) 5 3
unfolding three five view_ok all_to part report_of
falling = record {
  long = refl;
  ok = refl;
  first = (λ e. let z : ◌≡◌ {A = ℕ} 1 0 = e in omega arith, refl);
  second = (λ e. let z : ◌≡◌ {A = ℕ} 2 0 = e in omega arith, refl);
}

-- The figures, changed where there are some.
abbrev changed : (Totals → Totals) → Answer Totals → Answer Totals
changed f (returned t) = returned (f t)
changed f (refused k) = refused k

abbrev waiting_by : (ℕ → List ℕ → ℕ) → ℕ → List ℕ → Answer Totals
waiting_by f n v =
    changed (λ t. record { extensions = t.extensions; lines = t.lines; waiting = f n v; wakeups = t.wakeups })
    (figures_of n v)

abbrev calls_waiting : Totals → ℕ
calls_waiting t = t.waiting

-- Calls waiting are added; those of the first node are shown; those of the second.
added : RuledOut (counts (waiting_by (total ◌+◌ (λ p. p.waiting))))
unfolding three five figures_of view_ok up_to all_to totals part report_of
added P =
    let e : ◌≡◌ {A = ℕ} 8 5 = ap calls_waiting (value (P.three-and-five.three-five _ rising)) in omega arith

first-shown : RuledOut (counts (waiting_by (λ n v. (report_at v 0).waiting)))
unfolding three five figures_of view_ok up_to all_to totals part report_of
first-shown P =
    let e : ◌≡◌ {A = ℕ} 3 5 = ap calls_waiting (value (P.three-and-five.three-five _ rising)) in omega arith

second-shown : RuledOut (counts (waiting_by (λ n v. (report_at v 1).waiting)))
unfolding three five figures_of view_ok up_to all_to totals part report_of
second-shown P =
    let e : ◌≡◌ {A = ℕ} 3 5 = ap calls_waiting (value (P.three-and-five.five-three _ falling)) in omega arith

-- The largest is shown of lines too.
abbrev most_lines : ℕ → List ℕ → Totals → Totals
most_lines n v t =
    record {
      extensions = t.extensions;
      lines = total max (λ p. p.lines) n v;
      waiting = t.waiting;
      wakeups = t.wakeups;
    }

most-lines : RuledOut (counts (λ n v. changed (most_lines n v) (figures_of n v)))
unfolding three five figures_of view_ok up_to all_to totals part report_of
most-lines P =
    let e : ◌≡◌ {A = ℕ} 20 22 = ap (λ (t : Totals). t.lines) (value (P.three-and-five.three-five _ rising)) in
    omega arith

-- A view without a first report is refused.
none-refused : RuledOut (counts (λ n v. pick (eqb (tag_at v 0) 0) (refused 7) (figures_of n v)))
unfolding figures_of view_ok all_to part
none-refused P = apart (P.three-and-five.nobody 1 (omega arith, omega arith) (replicate 16 0) refl refl none) refl
  where
    none : (i : ℕ) → i < 1 → tag_at (replicate 16 0) i ≡ 0
    none zero l = refl
    none (suc i) l = absurd (omega arith)
