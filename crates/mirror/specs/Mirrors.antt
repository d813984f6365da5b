-- When a cluster's bytes mirror a cluster over sets: block by block, its stop flag, its record and what waits for it.
use Rattle.std.specs.Prelude.{ℕ, ◌+◌, ◌≤◌, ◌<◌, ◌≡◌, Bool, true, List, [], map, length}
use Rattle.logs.specs.Count as C
use Rattle.octets.specs.Answer.{Answer, returned, refused}
use Rattle.view.specs.View.{view_of}
use Rattle.view.specs.declared.View.{View}
use Rattle.wire.specs.Codec.{front, view_at}
use Rattle.wire.specs.declared.Message.{Message}
use Rattle.region.specs.Channel.{capacity, waiting}
use Rattle.block.specs.Block.{block_size, has_stopped, record_in, channel_in, node_in, record_sound}
use Rattle.outgoing.specs.Entries.{Entry}
use Rattle.layout.specs.Layout.{cluster_size, stated, faults_in, block}
use Rattle.outgoing.specs.declared.Extent.{Extent}
use Rattle.outgoing.specs.declared.Extent.TheVariants.{Whole, Cut}
use Rattle.history.specs.Message as M
use Rattle.history.specs.Event as H
use Rattle.history.specs.Event.{Sent}
use Rattle.history.specs.Order.{OneTo}
use Rattle.algorithm.specs.Algorithm as A
use Rattle.eqaso.specs.Cluster as K
use Rattle.eqaso.specs.Cluster.{Cluster}
use Rattle.refine.specs.Meaning.{message_of}
use Rattle.refine.specs.Follows.{Follows}

-- What a slot of a channel to node c says, read as a message for n nodes.
abbrev pub meant_by : (n c : ℕ) → View → Answer (Message × ℕ) → Answer M.Message
meant_by n c v (returned p) = returned (message_of n c v p.0)
meant_by n c v (refused k) = refused k

abbrev pub meant : (n c : ℕ) → List ℕ → Answer M.Message
meant n c s = meant_by n c (view_of n (view_at n s)) (front n s)

-- An entry that a step lets out.
abbrev pub mail : ℕ → Entry → Sent
mail n e = record { to = e.to; message = message_of n e.to e.view e.message }

-- What a channel in bytes has room for.
abbrev pub channel_room : ℕ → Bool
channel_room = K.at_most capacity

-- How much is let out.
abbrev pub extent_of : Extent → H.Extent
extent_of Whole = H.whole
extent_of (Cut m) = H.cut m

-- The block of node c: its sets, whether it has stopped, and what waits on its channel from each node, oldest first.
pub record Says (n f c : ℕ) (k : List ℕ) (ν : A.Node) (stopped : Bool) (channel : ℕ → List M.Message) : Type 0 where
  pub size : length k ≡ block_size
  pub node : Follows n f c ν (node_in k)
  pub sound : record_sound n f c (record_in k) ≡ true
  pub stop : has_stopped k ≡ stopped
  pub waits : (a : ℕ) → OneTo n a → waiting (meant n c) (channel_in k a) ≡ map returned (channel a)

-- The bytes of a cluster of n nodes, f of which may stop.
pub record Shows (n f : ℕ) (b : List ℕ) (nodes : ℕ → A.Node) (stopped : ℕ → Bool)
    (channel : ℕ → ℕ → List M.Message) : Type 0 where
  pub long : length b ≡ cluster_size n
  pub states : stated b ≡ n
  pub faults : faults_in b ≡ f
  pub says : (c : ℕ) → OneTo n c → Says n f c (block b c) (nodes c) (stopped c) (λ a. channel a c)

-- Bytes b mirror cluster σ: they show it, no channel holds more than its capacity, nothing waits for a node that has
-- stopped, at most f have, and 2f < n.
pub record Mirrors (n f : ℕ) (b : List ℕ) (σ : Cluster) : Type 0 where
  pub shows : Shows n f b σ.nodes σ.stopped σ.channel
  pub room : (a c : ℕ) → OneTo n a → OneTo n c → length (σ.channel a c) ≤ capacity
  pub gone : (a c : ℕ) → σ.stopped c ≡ true → σ.channel a c ≡ []
  pub few : C.count σ.stopped n ≤ f
  pub half : f + f < n
