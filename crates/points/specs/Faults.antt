-- The points on f: the largest is 0, 0, 1, 1, 2, 7 for n 1, 2, 3, 4, 5, 16. Document 02's request [4] has each f up to
-- it taken, as the point on n says, and here no other: 7 is taken for 15 and 16 and not for 14, 0 is taken for every n.
use Rattle.std.specs.Prelude.{ℕ, ◌+◌, ◌*◌, ◌^◌, ◌≤◌, ◌<◌, ◌≡◌, List, [], ◌∷◌, map, length}
use Rattle.octets.specs.Answer.{returned}
use Rattle.view.specs.Size.{nodes}
use Rattle.record.specs.Record.{blank}
use Rattle.step.specs.declared.Ending.TheVariants.{None}
use Rattle.step.specs.Told.{nothing}
use Rattle.calls.specs.Entry as N
use Rattle.events.specs.Event.{refuse}
use Rattle.history.specs.Order.{OneTo}
use Rattle.points.specs.Calls.{Calls}

-- A node, and a cluster, of n nodes with f is made, or refused.
pub record Made (calls : Calls) (n f : ℕ) : Type 0 where
  pub node : (own : ℕ) → OneTo n own → (calls.fresh-node n f own).answer ≡ nothing
  pub cluster : (b : List ℕ) → length b ≡ calls.size n → (calls.fresh n f b).answer ≡ returned None

pub record NotMade (calls : Calls) (n f : ℕ) : Type 0 where
  pub node : (own : ℕ) → calls.fresh-node n f own ≡ N.refuse 1 (blank 0 0 0) []
  pub cluster : (b : List ℕ) → calls.fresh n f b ≡ refuse 1 b

pub record Faults (calls : Calls) : Type 0 where
  -- These follow from `largest`, and rule out no call that it does not.
  pub values : map calls.most_faults (1 ∷ 2 ∷ 3 ∷ 4 ∷ 5 ∷ 16 ∷ []) ≡ 0 ∷ 0 ∷ 1 ∷ 1 ∷ 2 ∷ 7 ∷ []
  -- It is the largest number f with 2 f < n.
  pub largest : (n : ℕ) → 1 ≤ n → (2 * calls.most_faults n < n) × (n ≤ 2 * (calls.most_faults n + 1))
  -- An f with 2f not below n is refused, however large it is, by a node and by a cluster.
  pub refused : (n f : ℕ) → (f + f < n → ⊥) → NotMade calls n f
  -- Cases of this and of the point on n. They follow, and rule out no call that those do not.
  pub seven-of-15 : Made calls 15 7
  pub seven-of-16 : Made calls 16 7
  pub seven-of-14 : NotMade calls 14 7
  pub none-of-any : (n : ℕ) → OneTo nodes n → Made calls n 0
  pub wide : (n : ℕ) → n ≤ 2 ^ 64 → NotMade calls n (2 ^ 63)
