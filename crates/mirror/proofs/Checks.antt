-- Bytes that mirror a cluster pass the checks that every event begins with: 12 and 2 do not come up.
use Prim.Native.Nat.{ℕ, ◌≤◌}
use native.Mathlib.Omega.{arith}
use mathlib.Core.Path.{◌≡◌, refl, sym, ◌∙◌}
use mathlib.Core.Bool.{true, not}
use mathlib.Core.List.{List}
use lib.Dec.{leb, eqb}
use lib.ListN.{length}
use borrow.Author.Tests.{le-leb, eq-eqb, ne_eqb}
use Rattle.logs.specs.Count as C
use Rattle.octets.specs.Test.{both}
use Rattle.octets.proofs.Test.{both_left, both_right, both_true}
use Rattle.view.specs.Size.{is_size, nodes}
use Rattle.table.specs.Loop.{count}
use Rattle.table.proofs.Laws.{all-all}
use Rattle.table.proofs.Sets.{half-tolerates}
use Rattle.record.specs.Usable.{usable}
use Rattle.region.specs.Channel.{capacity}
use Rattle.region.specs.Record.{codes_known, record_of}
use Rattle.block.specs.Block.{waiting_in, record_in, node_in, block_sound}
use Rattle.layout.specs.Layout.{cluster_size, stated, block, stopped, fits, sound, is_node}
use Rattle.events.specs.Event as E
use Rattle.events.proofs.Admitted.{admitted-is}
use Rattle.history.specs.Order.{OneTo}
use Rattle.eqaso.specs.Cluster as K
use Rattle.refine.proofs.Quorums.{same_count}
use Rattle.mirror.specs.Mirrors.{Mirrors}
use Rattle.mirror.proofs.Says.{says-count}

module _ {n f : ℕ} (low : 1 ≤ n) (small : n ≤ nodes) {b : List ℕ} {σ : K.Cluster} (M : Mirrors n f b σ) where
  pub sized : is_size n ≡ true
  sized = both_true (le-leb 1 n low) (le-leb n nodes small)

  pub is-fit : fits b ≡ true
  unfolding fits
  is-fit = rw (ne_eqb (length b) 0 (λ e. omega (arith, M.shows.long)), M.shows.states, sized)
      (eq-eqb (length b) (cluster_size n) M.shows.long)

  -- As many have stopped.
  pub same-stopped : count n (stopped b) ≡ C.count σ.stopped n
  same-stopped = same_count n (stopped b) σ.stopped (λ c o. sym (M.shows.says c o).stop)

  block-sound : (c : ℕ) → 1 ≤ c → c ≤ n → block_sound n f c (block b c) ≡ true
  unfolding block_sound
  block-sound c lo hi = both_true (M.shows.says c (lo, hi)).sound
      (all-all n (λ a. leb (waiting_in (block b c) a) capacity) (λ a l h. le-leb (waiting_in (block b c) a) capacity
      (rw (says-count small (M.shows.says c (lo, hi)) a (l, h)) (M.room a c (l, h) (lo, hi)))))

  pub is-sound : sound b ≡ true
  unfolding sound
  is-sound = rw (M.shows.states, M.shows.faults) (both_true (both_true sized (half-tolerates n f small M.half))
      (both_true (all-all n (λ c. block_sound n f c (block b c)) block-sound)
      (le-leb (count n (stopped b)) f (rw same-stopped M.few))))

  -- The record of a node is usable.
  pub is-usable : (c : ℕ) → OneTo n c → usable (node_in (block b c)) ≡ true
  is-usable c o =
      let r = record_in (block b c) in
      both_right (codes_known r) (usable (record_of r)) (both_left (both (codes_known r) (usable (record_of r)))
      (both (both (eqb (record_of r).n n) (eqb (record_of r).f f)) (eqb (record_of r).own c))
      (M.shows.says c o).sound)

  -- Of the refusals before an event's own only 3 and 4 are left.
  pub is-admitted : (a c : ℕ) (next : ℕ → E.Result) → E.admitted a c b (next (stated b))
      ≡ E.demand (both (is_node n a) (is_node n c)) 3 b (E.demand (not (stopped b c)) 4 b (next n))
  is-admitted a c next = admitted-is a c b (next (stated b)) ∙ rw (is-fit, is-sound, M.shows.states) refl
