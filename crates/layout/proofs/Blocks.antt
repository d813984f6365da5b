-- What a cluster's bytes say after a change of one block, in that block and in the others.
use Prim.Native.Nat.{ℕ, ◌≤◌}
use native.Mathlib.Omega.{arith}
use mathlib.Core.Path.{◌≡◌}
use mathlib.Core.List.{List}
use lib.ListN.{length}
use Rattle.octets.proofs.Put.{part-other, part_same, get_d-other, length-put, length_part}
use Rattle.view.specs.Size.{nodes}
use Rattle.region.specs.Channel.{channel_size, slot_size, slot_at, oldest, first}
use Rattle.block.specs.Block.{block_size, channel_place, channel_in}
use Rattle.layout.specs.Layout.{cluster_size, stated_place, faults_place, block_place, stated, faults_in, block}
use Rattle.layout.specs.Layout.{channel, on_block}

pub length-block : (b : List ℕ) (c : ℕ) → 1 ≤ c → cluster_size c ≤ length b → length (block b c) ≡ block_size
unfolding block
length-block b c l h = length_part b (block_place c) block_size (omega arith)

pub length-channel : (b : List ℕ) (a c : ℕ) → 1 ≤ a → a ≤ nodes → 1 ≤ c → cluster_size c ≤ length b
    → length (channel b a c) ≡ channel_size
unfolding channel_in
length-channel b a c i j l h = length_part (block b c) (channel_place a) channel_size
    (omega (arith, length-block b c l h))

pub length-first : (t : List ℕ) → length t ≡ channel_size → length (first t) ≡ slot_size
length-first t h = length_part t (slot_at (oldest t)) slot_size (omega arith)

-- A change f of block c that keeps its length.
module _ (b : List ℕ) (c : ℕ) (lo : 1 ≤ c) (there : cluster_size c ≤ length b) (f : List ℕ → List ℕ)
    (same : length (f (block b c)) ≡ block_size) where
  pub length-on_block : length (on_block c f b) ≡ length b
  unfolding on_block block
  length-on_block = length-put b (block_place c) (f (block b c)) (omega (arith, same))

  pub stated-on_block : stated (on_block c f b) ≡ stated b
  unfolding on_block block
  stated-on_block = get_d-other b (block_place c) (f (block b c)) stated_place (omega arith) (λ q. omega arith)

  pub faults-on_block : faults_in (on_block c f b) ≡ faults_in b
  unfolding on_block block
  faults-on_block = get_d-other b (block_place c) (f (block b c)) faults_place (omega arith) (λ q. omega arith)

  pub block_same : block (on_block c f b) c ≡ f (block b c)
  unfolding on_block block
  block_same = part_same b (block_place c) (f (block b c)) block_size (omega arith) same

  pub block-other : (d : ℕ) → 1 ≤ d → (d ≡ c → ⊥) → block (on_block c f b) d ≡ block b d
  unfolding on_block block
  block-other d l e =
      part-other b (block_place c) (f (block b c)) (block_place d) block_size (omega arith)
      (λ q. omega (arith, same)) (λ q. omega (arith, same))
