-- Cited by inner contracts only: the places of channels and slots in a cluster's bytes, and the slot of a message whose
-- bytes stand at a place. Assumes nothing.
use Rattle.std.specs.Prelude.{ℕ, ◌+◌, ◌-◌, ◌≤◌, ◌≡◌, List, ◌++◌, replicate}
use Rattle.octets.specs.Bytes.{part}
use Rattle.view.specs.Size.{nodes}
use Rattle.region.specs.Channel.{slot_size, slot_at}
use Rattle.block.specs.Block.{channel_place}
use Rattle.layout.specs.Layout.{block_place}

-- the channel from node a to node c, and slot i of it
abbrev pub channel_at : (a c : ℕ) → ℕ
channel_at a c = block_place c + channel_place a

abbrev pub slot_place : (a c i : ℕ) → ℕ
slot_place a c i = channel_at a c + slot_at i

-- a place at which a slot begins, of a channel to a node from 1 to n
pub record IsSlot (n from : ℕ) : Type 0 where
  pub a : ℕ
  pub c : ℕ
  pub i : ℕ
  pub sender : (1 ≤ a) × (a ≤ nodes)
  pub receiver : (1 ≤ c) × (c ≤ n)
  pub place : from ≡ slot_place a c i

-- the slot of a message: its bytes, which stand at a place, and zeros after them
abbrev pub slot_from : List ℕ → (from len : ℕ) → List ℕ
slot_from b from len = part b from len ++ replicate (slot_size - len) 0
