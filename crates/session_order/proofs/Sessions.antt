-- The claims of specs/Session hold.
use Prim.Native.Nat.{ℕ}
use mathlib.Core.Path.{◌≡◌, refl, sym, ap, subst, ◌∙◌}
use mathlib.Core.Bool.{Bool, true, false}
use mathlib.Core.List.{List, [], ◌∷◌, ◌++◌, map, append-nil}
use native.Mathlib.Omega.{arith}
use lib.ListN.{length, replicate, length-replicate}
use lib.Dec.{eqb, leb}
use borrow.Author.Tests.{ne_eqb}
use Rattle.octets.specs.Test.{pick}
use Rattle.octets.proofs.Test.{true-false}
use Rattle.layout.specs.Layout.{cluster_size}
use Rattle.lines.specs.Grammar.{event_of, first_of}
use Rattle.std.specs.Prelude.{Option, Some, None}
use Rattle.lines.specs.declared.Command.{Command}
use Rattle.lines.specs.declared.Opening.{Opening}
use Rattle.input.specs.Input.{lines_from, lines_of, rest_of}
use Rattle.input.specs.Carry.{carry_of}
use Rattle.input.proofs.Pieces.{lines-append}
use Rattle.answers.specs.Answer.{line}
use Rattle.history.specs.Order.{SingleOrder, Quiet}
use Rattle.mirror.specs.Run.{trace_from}
use Rattle.mirror.proofs.Demand3.{demand3}
use Rattle.session_progress.specs.Progress.{bad_line, ended_at, finished, is_over}
use Rattle.session_progress.specs.declared.Stage.{Stage}
use Rattle.session_progress.specs.declared.Progress.{Progress}
use Rattle.session_line.specs.Act.{printed}
use Rattle.session_byte.specs.Memory.{cluster}
use Rattle.session.specs.Text.{opening_first, opening_in, nodes_in, events_after, unended, events_in, left_by}
use Rattle.session.specs.Text.{printed_by, fresh_of, fresh_in, nodes_of, faults_of, output_of, output}
use Rattle.session.specs.Reading.{Reading}
use Rattle.session_order.specs.Lines.{Lines}
use Rattle.session_order.specs.Session.{code, Faithful, Sessions, events_from, trace_in}
use Rattle.session_order.proofs.Opening.{Within, opening-within}
use Rattle.session_order.proofs.Folds.{left-more, printed-more, left-events, fresh-is, left-states}
use Rattle.session_order.proofs.Stands.{Among, Stands, first, over, among}
use Rattle.session_order.proofs.Printed.{lines-print}
use Rattle.session_order.proofs.Pieces.{holds}

-- ---- from the lines that have ended, and the rest

abbrev output_at : List (List ℕ) → List ℕ → List ℕ
output_at ls r = output_of (opening_first ls) (events_after ls ++ unended r)

-- a line that has begun has a length
begun-size : (x : ℕ) (r : List ℕ) → (carry_of (x ∷ r)).size ≡ 0 → ⊥
unfolding carry_of
begun-size x r = cases (leb (length (x ∷ r)) 40)
  where
    cases : (b : Bool) → pick b (length (x ∷ r)) 41 ≡ 0 → ⊥
    cases true e = omega arith
    cases false e = omega arith

-- what the end prints among the events
ends : {n f e : ℕ} {ls : List (Option Command)} {m o : List ℕ} → Among n f e ls m o → (r : List ℕ)
    → o ++ pick (eqb (carry_of r).size 0) [] (bad_line e) ≡ printed_by 1 (fresh_of n f) (ls ++ unended r)
unfolding carry_of printed line
ends {n} {f} {e} {ls} {m} {o} a [] =
    append-nil o ∙ a.shown ∙ ap (λ (k : List (Option Command)). printed_by 1 (fresh_of n f) k) (sym (append-nil ls))
ends {n} {f} {e} {ls} {m} {o} a (x ∷ r) =
    ap (λ (b : Bool). o ++ pick b [] (bad_line e)) (ne_eqb (carry_of (x ∷ r)).size 0 (begun-size x r))
    ∙ rw (a.shown, a.number) (sym (printed-more 1 (fresh_of n f) ls None))

-- a bad line more leaves the cluster as it is
left-unended : (b : List ℕ) (ls : List (Option Command)) (r : List ℕ) → left_by b (ls ++ unended r) ≡ left_by b ls
left-unended b ls [] = ap (left_by b) (append-nil ls)
left-unended b ls (x ∷ r) = left-more b ls None

prints-of : {m o : List ℕ} {ls : List (List ℕ)} {s : Stage} → Stands m o ls s → (r : List ℕ)
    → o ++ ended_at s (carry_of r).size ≡ output_at ls r
prints-of (first e) r = ap (λ (v : List ℕ). v ++ bad_line 0) e
prints-of {o = o} (over z e) r = rw z (append-nil o ∙ e)
prints-of (among z a) r = rw z (ends a r)

over-of : {m o : List ℕ} {ls : List (List ℕ)} {s : Stage} → Stands m o ls s → (i : ℕ) → is_over s ≡ true
    → (k : List (List ℕ)) (r : List ℕ) → o ++ ended_at s i ≡ output_at (ls ++ k) r
over-of (first e) i q k r = absurd (true-false false q refl)
over-of {o = o} (over z e) i q k r = rw z (append-nil o ∙ e)
over-of (among z a) i q k r = absurd (true-false false q refl)

leaves_of : {m o : List ℕ} {ls : List (List ℕ)} {s : Stage} → Stands m o ls s
    → (nodes_of (opening_first ls) ≡ 0 → ⊥) → (r : List ℕ) → cluster (nodes_of (opening_first ls)) m
    ≡ left_by (fresh_of (nodes_of (opening_first ls)) (faults_of (opening_first ls))) (events_after ls ++ unended r)
leaves_of (first e) q r = absurd (q refl)
leaves_of (over z e) q r = absurd (q (ap nodes_of z))
leaves_of (among {ls = ls} {n = n} {f = f} z a) q r =
    rw z (a.bytes ∙ sym (left-unended (fresh_of n f) (map event_of ls) r))

-- ---- the claims

faithful : {t m o : List ℕ} {p : Progress} → Reading t p m o → Faithful code t p m o
unfolding finished output
faithful {t} {m} {o} {p} r =
    let h = holds r in
    let size : p.carry.size ≡ (carry_of (rest_of t)).size = ap (λ c. c.size) h.carry in
    record {
      prints = rw size (prints-of h.stands (rest_of t));
      over = λ q u. over-of h.stands p.carry.size q (lines_from (rest_of t) u) (rest_of (t ++ u))
          ∙ ap (λ (ls : List (List ℕ)). output_at ls (rest_of (t ++ u))) (sym (lines-append [] t u));
      leaves = λ q. leaves_of h.stands q (rest_of t);
    }

module _ (t : List ℕ) (q : nodes_in t ≡ 0 → ⊥) where
  abbrev n : ℕ
  n = nodes_in t

  abbrev f : ℕ
  f = faults_of (opening_in t)

  within : Within n f
  within = first-within (lines_of t) q
    where
      opened : (l : List ℕ) (k : Option Opening) → first_of l ≡ k → (nodes_of k ≡ 0 → ⊥)
          → Within (nodes_of k) (faults_of k)
      opened l None e z = absurd (z refl)
      opened l (Some o) e z = opening-within l o e

      first-within : (ls : List (List ℕ)) → (nodes_of (opening_first ls) ≡ 0 → ⊥)
          → Within (nodes_of (opening_first ls)) (faults_of (opening_first ls))
      first-within [] z = absurd (z refl)
      first-within (l ∷ ls) z = opened l (first_of l) refl z

  ordered : SingleOrder n (trace_in t) × Quiet n (trace_in t)
  ordered =
      let b : List ℕ = replicate (cluster_size n) 0 in
      let long : length b ≡ cluster_size n = length-replicate (cluster_size n) 0 in
      subst (λ (c : List ℕ). SingleOrder n (trace_from n c (events_from t)) × Quiet n (trace_from n c (events_from t)))
      (fresh-is n f within b long)
      (demand3 n f (within.low, omega (arith, within.high)) within.half b long (events_from t))

  printed-all : Lines 1 (events_in t) (trace_in t) (output t)
  unfolding output
  printed-all =
      subst (Lines 1 (events_in t) (trace_in t)) (sym (some (opening_in t) q))
      (lines-print n (omega (arith, within.high)) 1 (fresh_in t) (events_in t) (left-states n f within))
    where
      some : (k : Option Opening) → (nodes_of k ≡ 0 → ⊥)
          → output_of k (events_in t) ≡ printed_by 1 (fresh_of (nodes_of k) (faults_of k)) (events_in t)
      some None z = absurd (z refl)
      some (Some o) z = refl

pub sessions : Sessions
sessions = record {
  pieces = faithful;
  fold = λ t. left-events (fresh_in t) (events_in t);
  shows = λ t q. printed-all t q;
  order = λ t q. (ordered t q).0;
  quiet = λ t q. (ordered t q).1;
}
