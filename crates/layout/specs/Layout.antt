-- A cluster in bytes (document 01's house): byte 0 states n, byte 1 states f, and then comes a block for each of the
-- nodes 1 to n.
use Rattle.std.specs.Prelude.{ℕ, ◌+◌, ◌-◌, ◌*◌, Bool, true, false, ◌≡◌, List, length, get_or, leb, eqb}
use Rattle.octets.specs.Test.{pick, both}
use Rattle.octets.specs.Bytes.{part}
use Rattle.view.specs.Size.{is_size}
use Rattle.table.specs.Loop.{all, count}
use Rattle.table.specs.Quorum.{can_be}
use Rattle.record.specs.declared.Node.{Node}
use Rattle.block.specs.Block.{block_size, has_stopped, node_in, channel_in, change, block_sound}

-- Where n and f are stated and where the blocks stand; the bytes of a cluster of n nodes, and what the library states
-- for any n: 0 where there may be no such cluster.
abbrev pub stated_place : ℕ
stated_place = 0

abbrev pub faults_place : ℕ
faults_place = stated_place + 1

abbrev pub blocks_place : ℕ
blocks_place = faults_place + 1

abbrev pub cluster_size : ℕ → ℕ
cluster_size n = blocks_place + block_size * n

unfoldable pub size_for : ℕ → ℕ
size_for n = pick (is_size n) (cluster_size n) 0

abbrev pub block_place : ℕ → ℕ
block_place c = blocks_place + block_size * (c - 1)

-- What the bytes say: n, f, and of each node its block, whether it has stopped, its record and its incoming channels.
abbrev pub stated : List ℕ → ℕ
stated b = get_or b stated_place 0

abbrev pub faults_in : List ℕ → ℕ
faults_in b = get_or b faults_place 0

unfoldable pub block : List ℕ → ℕ → List ℕ
block b c = part b (block_place c) block_size

abbrev pub stopped : List ℕ → ℕ → Bool
stopped b c = has_stopped (block b c)

abbrev pub node : List ℕ → ℕ → Node
node b c = node_in (block b c)

-- The channel from node a to node c.
abbrev pub channel : List ℕ → ℕ → ℕ → List ℕ
channel b a c = channel_in (block b c) a

-- The bytes with the block of node c changed.
unfoldable pub on_block : ℕ → (List ℕ → List ℕ) → List ℕ → List ℕ
on_block c f b = change (block_place c) block_size f b

-- What refusal 12 asks: n is stated, and the length is that for n, if n may be.
unfoldable pub fits : List ℕ → Bool
fits b = pick (eqb (length b) 0) false (pick (is_size (stated b)) (eqb (length b) (cluster_size (stated b))) true)

-- What refusal 2 asks: n and f may be, every block is sound with a record of this n and f, and at most f nodes have
-- stopped.
unfoldable pub sound : List ℕ → Bool
sound b =
    both (can_be (stated b) (faults_in b))
    (both (all (stated b) (λ c. block_sound (stated b) (faults_in b) c (block b c)))
    (leb (count (stated b) (stopped b)) (faults_in b)))

-- What refusal 3 asks of a number.
abbrev pub is_node : ℕ → ℕ → Bool
is_node n c = both (leb 1 c) (leb c n)

-- One f: every record of a cluster that can be used has the f that the cluster states.
abbrev pub OneF : Type 0
OneF = (b : List ℕ) → sound b ≡ true → (c : ℕ) → is_node (stated b) c ≡ true → (node b c).f ≡ faults_in b
