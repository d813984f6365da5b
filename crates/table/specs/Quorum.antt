-- Sets of nodes and quorums. A set of nodes is a number: node s is in it when bit s - 1 is 1.
-- Assumes nothing.
use Rattle.std.specs.Prelude.{Bool, List, ℕ, ◌+◌, ◌-◌, ◌/◌, ◌%◌, ◌^◌, leb, ltb, eqb}
use Rattle.std.specs.Int.Bits.{bit_or}
use Rattle.octets.specs.Test.{both}
use Rattle.view.specs.Size.{nodes, is_size}
use Rattle.table.specs.Loop.{either, all, count}
use Rattle.table.specs.Table.{at, heard_of}

-- node s is in the set m
unfoldable pub member : ℕ → ℕ → Bool
member m s = eqb (m / 2 ^ (s - 1) % 2) 1

-- the set m with node s
unfoldable pub with : ℕ → ℕ → ℕ
with m s = bit_or m (2 ^ (s - 1))

-- the set m has no node beyond n
unfoldable pub only : ℕ → ℕ → Bool
only n m = eqb (m / 2 ^ n) 0

-- how many of the nodes 1 to n are in the set m
unfoldable pub members_in : ℕ → ℕ → ℕ
members_in n m = count n (member m)

-- the largest f with 2f < n, for n at least 1
abbrev pub most_faults : ℕ → ℕ
most_faults n = (n - 1) / 2

-- n nodes tolerate the stop of f of them: f is 0 to 7, and 2f < n
abbrev pub tolerates : ℕ → ℕ → Bool
tolerates n f = both (leb f (most_faults nodes)) (ltb (f + f) n)

-- there may be a cluster of n nodes, f of which may stop
abbrev pub can_be : ℕ → ℕ → Bool
can_be n f = both (is_size n) (tolerates n f)

-- k nodes of n are a quorum when at most f are missing
abbrev pub is_quorum : ℕ → ℕ → ℕ → Bool
is_quorum n f k = leb (n - f) k

-- Sender s agrees: for each writer it has sent the report held for the round, or a later one.
-- The own node always agrees.
unfoldable pub agrees : ℕ → ℕ → List ℕ → List ℕ → ℕ → Bool
agrees n own heard held s = either (eqb s own) (all n (λ w. leb (at held w) (heard_of heard s w)))

-- how many nodes agree
unfoldable pub agreeing : ℕ → ℕ → List ℕ → List ℕ → ℕ
agreeing n own heard held = count n (agrees n own heard held)
