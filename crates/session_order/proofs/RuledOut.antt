-- For each clause of specs/Session a program that it rules out; those for order and quiet are in RuledOutRuns. It is
-- the code's but for what the clause is on, so that the other clauses allow it.
use Prim.Native.Nat.{ℕ, ◌≤◌}
use native.Mathlib.Decide.{ℕ_discrete, dec_le, dec_lt}
use native.Mathlib.Omega.{arith}
use mathlib.Core.Path.{◌≡◌, refl, sym, ap, subst, ◌∙◌}
use mathlib.Core.Bool.{Bool, true, decide}
use mathlib.Core.List.{List, [], ◌∷◌, map}
use lib.Dec.{eqb}
use lib.ListN.{length, replicate, length-replicate, length-append}
use Rattle.octets.specs.Loop.{up_to}
use Rattle.octets.specs.Test.{pick}
use Rattle.logs.specs.Count.{count}
use Rattle.logs.specs.Update.{upd, upd2}
use Rattle.record.specs.declared.Operation.TheVariants.{Scan as ScanOf}
use Rattle.layout.specs.Layout.{cluster_size, faults_in, node}
use Rattle.events.specs.Event.{fresh}
use Rattle.outgoing.specs.declared.Extent.TheVariants.{Whole}
use Rattle.digits.specs.Decimal.{all_digits, value}
use Rattle.lines.specs.Grammar.{number_of, field_length, word, after, tail_of, event_of, first_of}
use Rattle.std.specs.Prelude.{Option, Some, None}
use Rattle.lines.specs.declared.Command.{Command}
use Rattle.lines.specs.declared.Command.TheVariants.{Scan}
use Rattle.outgoing.specs.declared.Extent.{Extent}
use Rattle.input.specs.Input.{lines_from, rest_from, joined}
use Rattle.answers.specs.Answer.{line}
use Rattle.history.specs.Event as H
use Rattle.history.specs.Trace.{Trace}
use Rattle.algorithm.specs.Algorithm.{limit, table, move_on}
use Rattle.eqaso.specs.Cluster as K
use Rattle.eqaso.specs.Cluster.{trace}
use Rattle.mirror.specs.Mirrors.{channel_room}
use Rattle.mirror.specs.Run as R
use Rattle.mirror.specs.Demand2.{Demand2}
use Rattle.mirror.proofs.Demand2.{demand2}
use Rattle.session_progress.specs.Progress.{bad_line, begun, finished}
use Rattle.session_progress.specs.declared.Progress.{Progress}
use Rattle.session_byte.specs.Memory.{memory_size, cluster}
use Rattle.session.specs.Text.{nodes_in, events_in, printed_by, fresh_of, fresh_in, cluster_after, output}
use Rattle.session.specs.Reading.{Reading, begins, takes}
use Rattle.session_order.specs.Lines.{Lines, bad}
use Rattle.session_order.specs.Session.{events_from, trace_in, Program, code, SessionsOf}
use Rattle.session_order.proofs.Folds.{fresh-is}
use Rattle.session_order.proofs.Sessions.{sessions}

-- ---- texts: a cluster of one node, which may not stop, and then an empty line, which is bad, or a scan

abbrev pub text : List (List ℕ) → List ℕ
text ls = joined ((49 ∷ 32 ∷ 48 ∷ []) ∷ ls)

abbrev odd : List ℕ
odd = text ([] ∷ [])

abbrev pub asks : List ℕ
asks = text ((115 ∷ 32 ∷ 49 ∷ []) ∷ [])

one-odd : (nodes_in odd ≡ 1) × (events_in odd ≡ None ∷ [])
unfolding lines_from rest_from first_of number_of all_digits value up_to event_of word field_length
    after
one-odd = (refl, refl)

abbrev scans : List (Option Command)
scans = Some (Scan 1 Whole) ∷ []

one-asks : (nodes_in asks ≡ 1) × (events_in asks ≡ scans)
unfolding lines_from rest_from first_of number_of all_digits value up_to event_of word field_length
    after tail_of
one-asks = (refl, refl)

-- ---- pieces: what is read

-- a bad line prints something
bad-some : (e : ℕ) → 1 ≤ length (bad_line e)
unfolding line
bad-some e = simp length-append (omega arith)

-- lent memory, by name: so long a list is not computed
memory : List ℕ
memory = replicate memory_size 0

long-memory : length memory ≡ memory_size
unfolding memory
long-memory = length-replicate {A = ℕ} memory_size 0

reading : Reading [] begun memory []
reading = begins long-memory

-- It prints a line feed before all else.
abbrev early : Program
early = record {
  reads = λ t p m o. (shown : List ℕ) × (Reading t p m shown × (o ≡ 10 ∷ shown));
  holds = cluster;
  over = code.over;
  ends = finished;
  prints = output;
  leaves = cluster_after;
  sees = trace_in;
}

pub pieces-out : ¬ SessionsOf early
unfolding output lines_from finished begun
pieces-out s =
    let r : early.reads [] begun memory (10 ∷ []) = ([], (reading, refl)) in
    omega (arith, ap length (s.pieces r).prints)

abbrev ending : (Progress → Bool) → (Progress → List ℕ) → Program
ending f g = record {
  reads = Reading;
  holds = cluster;
  over = f;
  ends = g;
  prints = output;
  leaves = cluster_after;
  sees = trace_in;
}

-- At the end of the input it prints nothing: a first line that never came is not refused.
pub prints-out : ¬ SessionsOf (ending code.over (λ p. []))
unfolding output lines_from
prints-out s = omega (arith, ap length (s.pieces reading).prints, bad-some 0)

-- It is over at once, and reads nothing.
pub over-out : ¬ SessionsOf (ending (λ p. true) finished)
unfolding output lines_from rest_from first_of number_of all_digits value up_to word field_length after
    finished
    begun printed_by
over-out s = omega (arith, ap length ((s.pieces reading).over refl (text [])), bad-some 0)

-- ---- the cluster

abbrev keeping : (ℕ → List ℕ → List ℕ) → (List ℕ → List ℕ) → Program
keeping f g = record {
  reads = Reading;
  holds = f;
  over = code.over;
  ends = finished;
  prints = output;
  leaves = g;
  sees = trace_in;
}

abbrev pub scanning : List R.Event
scanning = R.begin 1 ScanOf Whole ∷ []

-- a run of one node, on bytes and over sets
abbrev lent : List ℕ
lent = replicate (cluster_size 1) 0

long : length lent ≡ cluster_size 1
long = length-replicate {A = ℕ} (cluster_size 1) 0

made : (fresh 1 0 lent).bytes ≡ fresh_of 1 0
made = fresh-is 1 0 (record { low = omega arith; high = omega arith; half = omega arith }) lent long

demands : Demand2 1 0 lent
demands = demand2 1 0 (omega arith, omega arith) (omega arith) lent long

module _ (es : List R.Event) where
  requests : (node (R.after (fresh_of 1 0) es) 1).request
      ≡ ((K.after 1 0 channel_room K.start (map R.meaning es)).nodes 1).request
  requests = subst (λ b. (node (R.after b es) 1).request
      ≡ ((K.after 1 0 channel_room K.start (map R.meaning es)).nodes 1).request) made
      (demands.remembers es 1 (omega arith, omega arith)).request

  pub traced : R.trace_from 1 (fresh_of 1 0) es ≡ trace 1 0 channel_room (map R.meaning es)
  traced = subst (λ b. R.trace_from 1 b es ≡ trace 1 0 channel_room (map R.meaning es)) made (demands.same es)

asked : ((K.after 1 0 channel_room K.start (map R.meaning scanning)).nodes 1).request ≡ 1
unfolding K.after K.event K.roomy H.sent_to K.entries move_on table limit upd upd2 count ℕ_discrete dec_le dec_lt decide
asked = refl

-- the scan changes the cluster
moved : fresh_of 1 0 ≡ R.after (fresh_of 1 0) scanning → ⊥
unfolding K.after R.after
moved e =
    let wrong : ◌≡◌ {A = ℕ} 0 1 = sym (requests []) ∙ ap (λ b. (node b 1).request) e ∙ requests scanning ∙ asked in
    omega (arith, wrong)

moved-asks : fresh_in asks ≡ R.after (fresh_in asks) (events_from asks) → ⊥
unfolding lines_from rest_from first_of number_of all_digits value up_to event_of word field_length
    after tail_of
moved-asks = moved

pub some-asks : nodes_in asks ≡ 0 → ⊥
some-asks e = omega (arith, e, one-asks.0)

-- Its memory holds a fresh cluster of which no node may stop, and not the cluster as the events have left it.
pub leaves-out : ¬ SessionsOf (keeping (λ n m. fresh_of n 0) cluster_after)
unfolding lines_from rest_from first_of number_of all_digits value up_to word field_length after
leaves-out s = moved-asks ((s.pieces (takes reading asks)).leaves some-asks ∙ sessions.fold asks)

-- It leaves the cluster as it was fresh, whatever the events; in its memory too, with the f that stands there.
pub fold_out : ¬ SessionsOf (keeping (λ n m. fresh_of n (faults_in (cluster n m))) fresh_in)
fold_out s = moved-asks (s.fold asks)

-- ---- what is printed, beside the trace

abbrev pub seeing : (List ℕ → Trace) → Program
seeing f = record {
  reads = Reading;
  holds = cluster;
  over = code.over;
  ends = finished;
  prints = output;
  leaves = cluster_after;
  sees = f;
}

-- Nothing is seen of it.
no-trace : {e c : ℕ} {x : Extent} {ls : List (Option Command)} {o : List ℕ} → Lines e (Some (Scan c x) ∷ ls) [] o → ⊥
no-trace l = elim l [ ]

pub trace-out : ¬ SessionsOf (seeing (λ t. []))
trace-out s = no-trace (subst (λ ls. Lines 1 ls [] (output asks)) one-asks.1
    (s.shows asks some-asks))

-- It prints nothing but a bad first line.
abbrev mutters : List ℕ → List ℕ
mutters t = pick (eqb (nodes_in t) 0) (output t) []

abbrev mute : Program
mute = record {
  reads = λ t p m o. (shown : List ℕ) × (Reading t p m shown × (o ≡ mutters t));
  holds = cluster;
  over = code.over;
  ends = λ p. [];
  prints = mutters;
  leaves = cluster_after;
  sees = trace_in;
}

says : {e : ℕ} {ls : List (Option Command)} {tr : Trace} {o : List ℕ} → Lines e (None ∷ ls) tr o → 1 ≤ length o
says {e = e} (bad {o = o} l) = simp length-append (omega (arith, bad-some e))

some-odd : nodes_in odd ≡ 0 → ⊥
some-odd e = omega (arith, e, one-odd.0)

pub shows-out : ¬ SessionsOf mute
shows-out s =
    let l = subst (λ ls. Lines 1 ls (trace_in odd) (mutters odd)) one-odd.1 (s.shows odd some-odd) in
    omega (arith, says l, ap (λ n. length (pick (eqb n 0) (output odd) [])) one-odd.0)
