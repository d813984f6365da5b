-- Of every text that the bench program can be given: what it prints and what it leaves of the cluster do not depend on
-- the pieces in which the text comes, the cluster is that after the text's events, and demand 3 holds of them, for the
-- n and f of its first line. It is a claim about any program, so that wrong ones can be named: for each clause
-- proofs/RuledOut has one that it rules out.
use Rattle.std.specs.Prelude.{ℕ, ◌≡◌, Bool, true, List, ◌++◌}
use Rattle.history.specs.Trace.{Trace}
use Rattle.history.specs.Order.{SingleOrder, Quiet}
use Rattle.mirror.specs.Run.{Event, after, trace_from}
use Rattle.session_progress.specs.Progress.{finished, is_over}
use Rattle.session_progress.specs.declared.Progress.{Progress}
use Rattle.session_byte.specs.Memory.{cluster}
use Rattle.session.specs.Text.{nodes_in, events_in, fresh_in, cluster_after, output}
use Rattle.session.specs.Reading.{Reading}
use Rattle.session_order.specs.Lines.{events_of, Lines}

-- The events of a text, and what is seen of their run from a fresh cluster of the n and f that its first line says.
abbrev pub events_from : List ℕ → List Event
events_from t = events_of (events_in t)

abbrev pub trace_in : List ℕ → Trace
trace_in t = trace_from (nodes_in t) (fresh_in t) (events_from t)

-- What is seen of a program that plays sessions.
pub record Program : Type 1 where
  -- What it may have read, what it knows of it, its memory, and what it has printed.
  pub reads : (text : List ℕ) → Progress → (memory shown : List ℕ) → Type 0
  -- The cluster of n nodes in its memory.
  pub holds : (n : ℕ) → List ℕ → List ℕ
  -- Whether it reads no further, and what it prints if the input ends.
  pub over : Progress → Bool
  pub ends : Progress → List ℕ
  -- For a whole text what it prints, the cluster that it leaves, and the trace.
  pub prints : List ℕ → List ℕ
  pub leaves : List ℕ → List ℕ
  pub sees : List ℕ → Trace

-- The program of the code.
abbrev pub code : Program
code = record {
  reads = Reading;
  holds = cluster;
  over = λ p. is_over p.stage;
  ends = finished;
  prints = output;
  leaves = cluster_after;
  sees = trace_in;
}

-- The text t has been read, m is the memory, and o has been printed.
pub record Faithful (P : Program) (t : List ℕ) (p : Progress) (m o : List ℕ) : Type 0 where
  -- If the input ends here, what is printed is the text's output.
  pub prints : o ++ P.ends p ≡ P.prints t
  -- After a bad first line it is that whatever follows.
  pub over : P.over p ≡ true → (u : List ℕ) → o ++ P.ends p ≡ P.prints (t ++ u)
  -- The cluster is that after the text's events.
  pub leaves : (nodes_in t ≡ 0 → ⊥) → P.holds (nodes_in t) m ≡ P.leaves t

pub record SessionsOf (P : Program) : Type 0 where
  -- Whatever the pieces.
  pub pieces : {t m o : List ℕ} {p : Progress} → P.reads t p m o → Faithful P t p m o
  -- The cluster after a text is that after its events, from a fresh one.
  pub fold : (t : List ℕ) → P.leaves t ≡ after (fresh_in t) (events_from t)
  -- What is printed for a text are the endings and refusals of that run, and refusal 1 for each bad line.
  pub shows : (t : List ℕ) → (nodes_in t ≡ 0 → ⊥) → Lines 1 (events_in t) (P.sees t) (P.prints t)
  -- Of its operations there is one single order, and where no message waits for a standing node, no operation is open.
  pub order : (t : List ℕ) → (nodes_in t ≡ 0 → ⊥) → SingleOrder (nodes_in t) (P.sees t)
  pub quiet : (t : List ℕ) → (nodes_in t ≡ 0 → ⊥) → Quiet (nodes_in t) (P.sees t)

abbrev pub Sessions : Type 0
Sessions = SessionsOf code
