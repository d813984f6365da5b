-- Stops: of a cluster f nodes may stop; so of one none, and of three at most one.
use Prim.Native.Nat.{ℕ, zero, suc, ◌+◌, ◌≤◌, ◌<◌}
use native.Mathlib.Omega.{arith}
use native.Mathlib.Decide.{ℕ_discrete}
use mathlib.Core.Path.{◌≡◌, sym, ap, ◌∙◌, subst}
use mathlib.Core.Bool.{Bool, true, false}
use mathlib.Core.List.{List, []}
use lib.ListN.{length}
use borrow.Author.Tests.{le-leb, lt-ltb, le-ltb}
use Rattle.octets.specs.Answer.{returned}
use Rattle.octets.specs.Test.{pick, both}
use Rattle.octets.proofs.Test.{both_true, not-true-false}
use Rattle.view.specs.Size.{nodes}
use Rattle.logs.proofs.Count.{count_none}
use Rattle.logs.proofs.Update.{upd_same}
use Rattle.view.specs.View.{no_view}
use Rattle.table.specs.Loop.{count}
use Rattle.step.specs.declared.Ending.TheVariants.{None}
use Rattle.block.specs.Block.{halt}
use Rattle.layout.specs.Layout.{cluster_size, faults_in, stopped, on_block, is_node}
use Rattle.layout.proofs.Check.{sound-half, sound-few}
use Rattle.events.specs.Event.{Result, refuse, fresh}
use Rattle.events.specs.Stop.{stop_in, stop}
use Rattle.events.proofs.Admitted.{is-stopped, is-admitted, stop-refused, stop_is, stop-many, stop_halts}
use Rattle.history.specs.Event as H
use Rattle.history.specs.Order.{OneTo}
use Rattle.algorithm.specs.Algorithm as A
use Rattle.eqaso.specs.Cluster as K
use Rattle.mirror.specs.Mirrors.{Mirrors}
use Rattle.mirror.specs.Run.{after}
use Rattle.mirror.proofs.Checks.{is-fit, is-sound, same-stopped}
use Rattle.mirror.proofs.Run.{run-mirrors}
use Rattle.mirror.proofs.Stops.{stop-mirrors}
use Rattle.points.specs.Calls.{Calls, code}
use Rattle.points.specs.Stops.{IsCluster, OneStopped, Standing, Stops}

pub node-is : (n c : ℕ) → OneTo n c → is_node n c ≡ true
node-is n c (lo, hi) = both_true (le-leb 1 c lo) (le-leb c n hi)

-- Fresh bytes mirror the cluster at its start.
pub start-mirrors : (n f : ℕ) → OneTo nodes n → f + f < n → (b : List ℕ) → length b ≡ cluster_size n
    → Mirrors n f (fresh n f b).bytes K.start
unfolding after K.after
start-mirrors n f (low, small) half b long = run-mirrors n f low small half b long []

-- Bytes that mirror a cluster are those of a cluster.
pub is-cluster : {n f : ℕ} → OneTo nodes n → {b : List ℕ} {σ : K.Cluster} → Mirrors n f b σ → IsCluster n b
is-cluster (low, small) M = record {
  states = M.shows.states;
  fit = is-fit low small M;
  usable = is-sound low small M;
}

-- A test that holds of one of 1 to n is counted, and so are two.
module _ (p : ℕ → Bool) where
  more : (n : ℕ) (t : Bool) → count n p ≤ pick t (count n p + 1) (count n p)
  more n true = omega arith
  more n false = omega arith

  count-some : (n a : ℕ) → OneTo n a → p a ≡ true → 1 ≤ count n p
  unfolding count
  count-some zero a o e = absurd (omega arith)
  count-some (suc n) a o e = elim (ℕ_discrete a (suc n)) [
    | yes h ↦ rw (ap p (sym h) ∙ e) (omega arith)
    | no h ↦ omega (arith, more n (p (suc n)), count-some n a (o.0, omega arith) e)
  ]

  count-two : (n a c : ℕ) → OneTo n a → OneTo n c → (c ≡ a → ⊥) → p a ≡ true → p c ≡ true → 2 ≤ count n p
  unfolding count
  count-two zero a c o q ne e h = absurd (omega arith)
  count-two (suc n) a c o q ne e h = elim (ℕ_discrete a (suc n)) [
    | yes z ↦ rw (ap p (sym z) ∙ e) (omega (arith, count-some n c (q.0, omega arith) h))
    | no z ↦ elim (ℕ_discrete c (suc n)) [
      | yes y ↦ rw (ap p (sym y) ∙ h) (omega (arith, count-some n a (o.0, omega arith) e))
      | no y ↦ omega (arith, more n (p (suc n)), count-two n a c (o.0, omega arith) (q.0, omega arith) ne e h)
    ]
  ]

-- A stop of node c of any cluster: 4, 10, or the stop.
module _ {n : ℕ} {b : List ℕ} (I : IsCluster n b) (c : ℕ) (o : OneTo n c) where
  pub few : count n (stopped b) ≤ faults_in b
  few = subst (λ k. count k (stopped b) ≤ faults_in b) I.states (sound-few b I.usable)

  pub half : faults_in b + faults_in b < n
  half = subst (λ k. faults_in b + faults_in b < k) I.states (sound-half b I.usable)

  here : both (is_node n c) (is_node n c) ≡ true
  here = both_true (node-is n c o) (node-is n c o)

  stopped-before : stopped b c ≡ true → stop c b ≡ refuse 4 b
  stopped-before e = stop-refused c b (is-stopped c c b n (sym I.states) I.fit I.usable here e)
      (λ q. omega arith)

  stops-in : stopped b c ≡ false → stop c b ≡ stop_in n c b
  stops-in e = stop_is c b n (sym I.states) (sym (is-admitted c c b n (sym I.states) I.fit I.usable here e))

  many-stopped : stopped b c ≡ false → count n (stopped b) ≡ faults_in b → stop c b ≡ refuse 10 b
  many-stopped e h = stops-in e ∙ stop-many c b n (le-ltb (count n (stopped b)) (faults_in b) (omega arith))

  stops-now : stopped b c ≡ false → count n (stopped b) < faults_in b
      → stop c b ≡ record { bytes = on_block c (halt n) b; answer = returned None; view = no_view; sent = [] }
  stops-now e h = stops-in e ∙ stop_halts c b n (lt-ltb (count n (stopped b)) (faults_in b) h)

-- The cases of a law that f stops are all.
module _ (calls : Calls) (full : (n c : ℕ) (b : List ℕ) → Standing n c b → count n (stopped b) ≡ faults_in b
    → calls.stop c b ≡ refuse 10 b) where
  -- Where none may, none has.
  pub none-stops : (n c : ℕ) (b : List ℕ) → IsCluster n b → faults_in b ≡ 0 → OneTo n c → calls.stop c b ≡ refuse 10 b
  none-stops n c b I z o = full n c b (record {
    cluster = I;
    node = o;
    stands = not-true-false (stopped b c) (λ e. omega (arith, few I c o, count-some (stopped b) n c o e));
  }) (omega (arith, few I c o))

  -- One node never stops.
  pub alone : (b : List ℕ) → IsCluster 1 b → calls.stop 1 b ≡ refuse 10 b
  alone b I = none-stops 1 1 b I (omega (arith, half I 1 (omega arith, omega arith))) (omega arith, omega arith)

  -- Of three nodes of which one has stopped the others stand.
  pub second-stop : (b : List ℕ) (a c : ℕ) → OneStopped b a → OneTo 3 c → (c ≡ a → ⊥) → calls.stop c b ≡ refuse 10 b
  second-stop b a c S o ne = full 3 c b (record {
    cluster = S.three;
    node = o;
    stands = not-true-false (stopped b c) (λ e. omega (
      arith,
      few S.three c o,
      half S.three c o,
      count-two (stopped b) 3 a c S.node o ne S.stop e,
    ));
  }) (omega (
    arith,
    few S.three c o,
    half S.three c o,
    count-some (stopped b) 3 a S.node S.stop,
  ))

all-stopped : (n c : ℕ) (b : List ℕ) → Standing n c b → count n (stopped b) ≡ faults_in b → stop c b ≡ refuse 10 b
all-stopped n c b S = many-stopped S.cluster c S.node S.stands

-- A fresh cluster of which a node may stop, and a does.
module _ (n f : ℕ) (size : OneTo nodes n) (half : f + f < n) (some : 1 ≤ f) (b : List ℕ)
    (long : length b ≡ cluster_size n) (a : ℕ) (at : OneTo n a) where
  abbrev made : List ℕ
  made = (fresh n f b).bytes

  start : Mirrors n f made K.start
  start = start-mirrors n f size half b long

  none-stopped : count n (stopped made) ≡ 0
  none-stopped = same-stopped size.0 size.1 start ∙ count_none n

  pub first-stop : stop a made
      ≡ record { bytes = on_block a (halt n) made; answer = returned None; view = no_view; sent = [] }
  first-stop = stops-now (is-cluster size start) a at (start.shows.says a at).stop
      (omega (arith, none-stopped, start.shows.faults))

  abbrev left : List ℕ
  left = (stop a made).bytes

  pub one-stopped : Mirrors n f left (K.commit a (H.cut 0) (A.still A.fresh) [] (λ c d. []) K.start).cluster
  one-stopped = subst (λ (r : Result). Mirrors n f r.bytes
      (K.commit a (H.cut 0) (A.still A.fresh) [] (λ c d. []) K.start).cluster) (sym first-stop)
      (stop-mirrors size.1 start a at (omega (arith, count_none n)))

  pub has-stopped : stopped left a ≡ true
  has-stopped = (one-stopped.shows.says a at).stop ∙ upd_same (λ k. false) a true

-- Of three, with f = 1.
module _ (b : List ℕ) (long : length b ≡ cluster_size 3) (a : ℕ) (at : OneTo 3 a) where
  of_three : Mirrors 3 1 (stop a (fresh 3 1 b).bytes).bytes
      (K.commit a (H.cut 0) (A.still A.fresh) [] (λ c d. []) K.start).cluster
  of_three = one-stopped 3 1 (omega arith, omega arith) (omega arith) (omega arith) b long a at

  leaves-one : OneStopped (stop a (fresh 3 1 b).bytes).bytes a
  leaves-one = record {
    three = is-cluster (omega arith, omega arith) of_three;
    node = at;
    stop = has-stopped 3 1 (omega arith, omega arith) (omega arith) (omega arith) b long a at;
  }

pub stops-hold : Stops code
stops-hold = record {
  full = all-stopped;
  fewer = λ n c b S h. ap (λ (r : Result). r.answer) (stops-now S.cluster c S.node S.stands h);
  none = none-stops code all-stopped;
  single = alone code all-stopped;
  fresh-single = λ b long.
      is-cluster (omega arith, omega arith) (start-mirrors 1 0 (omega arith, omega arith) (omega arith) b long);
  second = second-stop code all-stopped;
  again = λ b a S. stopped-before S.three a S.node S.stop;
  first = λ b long a at. record {
    answer = ap (λ (r : Result). r.answer)
        (first-stop 3 1 (omega arith, omega arith) (omega arith) (omega arith) b long a at);
    leaves = leaves-one b long a at;
  };
}
