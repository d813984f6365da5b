-- When a step of the code and a step of the algorithm over sets are the same: the same messages in the same order, to
-- the same nodes and with the same views, the same ending with its rule and view, and records that follow.
use Rattle.std.specs.Prelude.{ℕ, ◌≡◌}
use Rattle.step.specs.declared.Step.{Step}
use Rattle.algorithm.specs.Algorithm as A
use Rattle.refine.specs.Meaning.{sent_of, ending_of}
use Rattle.refine.specs.Follows.{Follows}

-- Node i of n, f of which may stop, handles a message of node k; at a begin k is i.
pub record SameStep (n f i k : ℕ) (s : Step) (t : A.Step) : Type 0 where
  pub to : s.outbox.to ≡ k
  pub sent : sent_of n s.outbox ≡ t.sent
  pub ending : ending_of n s.view s.ending ≡ t.ending
  pub node : Follows n f i t.node s.node
