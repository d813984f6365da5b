-- The point on stops: a stop with n = 1 is 10; with n = 3 the second is 10. It goes by the f that is recorded.
use Rattle.std.specs.Prelude.{ℕ, ◌<◌, ◌≡◌, true, false, List, length}
use Rattle.octets.specs.Answer.{returned}
use Rattle.table.specs.Loop.{count}
use Rattle.step.specs.declared.Ending.TheVariants.{None}
use Rattle.layout.specs.Layout.{cluster_size, stated, faults_in, stopped, fits, sound}
use Rattle.events.specs.Event.{refuse}
use Rattle.history.specs.Order.{OneTo}
use Rattle.points.specs.Calls.{Calls, code}

-- The bytes of a usable cluster of n nodes: refusals 12 and 2 do not apply.
pub record IsCluster (n : ℕ) (b : List ℕ) : Type 0 where
  pub states : stated b ≡ n
  pub fit : fits b ≡ true
  pub usable : sound b ≡ true

-- A cluster of three nodes of which a has stopped.
pub record OneStopped (b : List ℕ) (a : ℕ) : Type 0 where
  pub three : IsCluster 3 b
  pub node : OneTo 3 a
  pub stop : stopped b a ≡ true

-- The stop of a, of three fresh nodes one of which may stop, is accepted.
pub record Stopped (calls : Calls) (b : List ℕ) (a : ℕ) : Type 0 where
  pub answer : (calls.stop a (calls.fresh 3 1 b).bytes).answer ≡ returned None
  pub leaves : OneStopped (calls.stop a (calls.fresh 3 1 b).bytes).bytes a

-- Of a cluster of n nodes c stands.
pub record Standing (n c : ℕ) (b : List ℕ) : Type 0 where
  pub cluster : IsCluster n b
  pub node : OneTo n c
  pub stands : stopped b c ≡ false

pub record Stops (calls : Calls) : Type 0 where
  -- Where f nodes have stopped, f as the cluster records it, no other may; where fewer have, each may.
  pub full : (n c : ℕ) (b : List ℕ) → Standing n c b → count n (stopped b) ≡ faults_in b → calls.stop c b ≡ refuse 10 b
  pub fewer : (n c : ℕ) (b : List ℕ) → Standing n c b → count n (stopped b) < faults_in b
      → (calls.stop c b).answer ≡ returned None
  -- The three after this are cases of `full`: they follow from it, and rule out no call that it does not. With f = 0 no
  -- stop is taken; nor in any cluster of one node; of any three nodes of which one has stopped the two others stand.
  pub none : (n c : ℕ) (b : List ℕ) → IsCluster n b → faults_in b ≡ 0 → OneTo n c → calls.stop c b ≡ refuse 10 b
  pub single : (b : List ℕ) → IsCluster 1 b → calls.stop 1 b ≡ refuse 10 b
  pub second : (b : List ℕ) (a c : ℕ) → OneStopped b a → OneTo 3 c → (c ≡ a → ⊥) → calls.stop c b ≡ refuse 10 b
  -- There is such a cluster of one node: the code's fresh one.
  pub fresh-single : (b : List ℕ) → length b ≡ cluster_size 1 → IsCluster 1 (code.fresh 1 0 b).bytes
  -- Of three nodes the one that has stopped is 4.
  pub again : (b : List ℕ) (a : ℕ) → OneStopped b a → calls.stop a b ≡ refuse 4 b
  -- The first stop of three fresh nodes is accepted, which follows from `fewer`, and leaves such a cluster.
  pub first : (b : List ℕ) → length b ≡ cluster_size 3 → (a : ℕ) → OneTo 3 a → Stopped calls b a
