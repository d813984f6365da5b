-- Fresh bytes mirror the cluster at its start.
use Prim.Native.Nat.{ℕ, zero, suc, ◌+◌, ◌<◌, ◌≤◌}
use native.Mathlib.Omega.{arith}
use native.Mathlib.Decide.{ℕ_discrete}
use mathlib.Core.Path.{◌≡◌, refl, sym, ap, ◌∙◌, subst}
use mathlib.Core.Bool.{false}
use mathlib.Core.List.{List, []}
use lib.Dec.{ltb}
use borrow.Author.Tests.{le-leb}
use lib.ListN.{length, get_or, set, replicate, length-set, length-replicate}
use lib.Seq.{get_or-set_same, get_or-set_other}
use Rattle.logs.specs.Count as C
use Rattle.octets.specs.Bytes.{part}
use Rattle.octets.specs.Loop.{up_to, tab}
use Rattle.octets.proofs.Put.{get_d_part}
use Rattle.octets.proofs.Test.{both_true}
use Rattle.octets.proofs.Table.{tab-none}
use Rattle.view.specs.Size.{nodes}
use Rattle.table.proofs.Sets.{half-tolerates}
use Rattle.record.specs.Record.{blank}
use Rattle.record.proofs.Fresh.{fresh-usable}
use Rattle.region.specs.Channel.{slot_size, channel_size, count_of, oldest, slot_at, waiting}
use Rattle.block.specs.Block.{block_size, channel_place, has_stopped, channel_in, keep_record}
use Rattle.layout.specs.Layout.{cluster_size, stated_place, faults_place, block_place, stated, faults_in, block}
use Rattle.layout.specs.Layout.{on_block}
use Rattle.events.specs.Event as E
use Rattle.history.specs.Order.{OneTo}
use Rattle.algorithm.specs.Algorithm as A
use Rattle.eqaso.specs.Cluster as K
use Rattle.refine.proofs.Turned.{follows-fresh}
use Rattle.mirror.specs.Mirrors.{meant, Says, Mirrors}
use Rattle.layout.proofs.Blocks.{length-block, length-on_block, stated-on_block, faults-on_block, block_same}
use Rattle.layout.proofs.Blocks.{block-other}
use Rattle.mirror.proofs.Says.{says-new}

get_d-zero : (n i : ℕ) → ◌≡◌ {A = ℕ} (get_or (replicate n 0) i 0) 0
get_d-zero zero i = refl
get_d-zero (suc n) zero = refl
get_d-zero (suc n) (suc i) = get_d-zero n i

-- Nothing waits on a channel with count 0.
waiting_none : {X : Type 0} (g : List ℕ → X) (t : List ℕ) → count_of t ≡ 0 → waiting g t ≡ []
unfolding waiting
waiting_none g t e = ap (λ k. tab k (λ i. g (part t (slot_at (oldest t + i)) slot_size))) e ∙ tab-none _

module _ (n f : ℕ) (low : 1 ≤ n) (small : n ≤ nodes) (half : f + f < n) where
  -- A block of zeros.
  record Zeros (c : ℕ) (k : List ℕ) : Type 0 where
    size : length k ≡ block_size
    stop : has_stopped k ≡ false
    waits : (a : ℕ) → OneTo n a → waiting (meant n c) (channel_in k a) ≡ []

  -- The bytes when the records up to node m are written.
  record Made (m : ℕ) (b : List ℕ) : Type 0 where
    long : length b ≡ cluster_size n
    states : stated b ≡ n
    faults : faults_in b ≡ f
    made : (c : ℕ) → OneTo n c → c ≤ m → Says n f c (block b c) A.fresh false (λ a. [])
    zeros : (c : ℕ) → OneTo n c → m < c → Zeros c (block b c)

  start : List ℕ
  start = set (set (replicate (cluster_size n) 0) stated_place n) faults_place f

  start-long : length start ≡ cluster_size n
  unfolding start
  start-long = length-set (set (replicate (cluster_size n) 0) stated_place n) faults_place f
      ∙ length-set (replicate (cluster_size n) 0) stated_place n ∙ length-replicate {A = ℕ} (cluster_size n) 0

  start-zero : (i : ℕ) → faults_place < i → get_or start i 0 ≡ 0
  unfolding start
  start-zero i h = get_or-set_other (set (replicate (cluster_size n) 0) stated_place n) faults_place i f 0
      (λ e. omega arith)
      ∙ get_or-set_other (replicate (cluster_size n) 0) stated_place i n 0 (λ e. omega arith)
      ∙ get_d-zero (cluster_size n) i

  made_none : Made 0 start
  unfolding block channel_in start
  made_none = record {
    long = start-long;
    states = first;
    faults = second;
    made = λ c o h. absurd (omega arith);
    zeros = λ c o h. record {
      size = length-block start c o.0 (omega (arith, start-long));
      stop = ap (ltb 0) (get_d_part start (block_place c) block_size 0 (omega arith)
          ∙ start-zero (block_place c + 0) (omega arith));
      waits = λ a p. waiting_none (meant n c) (channel_in (block start c) a)
          (get_d_part (part start (block_place c) block_size) (channel_place a) channel_size 0 (omega arith)
          ∙ get_d_part start (block_place c) block_size (channel_place a + 0) (omega arith)
          ∙ start-zero (block_place c + (channel_place a + 0)) (omega arith));
    };
  }
    where
      first : stated start ≡ n
      first = get_or-set_other (set (replicate (cluster_size n) 0) stated_place n) faults_place stated_place f 0
          (λ e. omega arith) ∙ get_or-set_same (replicate (cluster_size n) 0) stated_place n 0
          (omega (arith, length-replicate {A = ℕ} (cluster_size n) 0))

      second : faults_in start ≡ f
      second = get_or-set_same (set (replicate (cluster_size n) 0) stated_place n) faults_place f 0
          (omega (
            arith,
            length-set (replicate (cluster_size n) 0) stated_place n,
            length-replicate {A = ℕ} (cluster_size n) 0,
          ))

  module _ (m : ℕ) (in-range : m < n) (b : List ℕ) (made : Made m b) where
    here : OneTo n (m + 1)
    here = (omega arith, omega arith)

    there : cluster_size (m + 1) ≤ length b
    there = omega (arith, made.long)

    written : List ℕ → List ℕ
    written = keep_record (blank n f (m + 1))

    block_made : Says n f (m + 1) (written (block b (m + 1))) A.fresh false (λ a. [])
    unfolding written
    block_made = let z = made.zeros (m + 1) here (omega arith) in
        says-new (block b (m + 1)) z.size z.stop z.waits (follows-fresh n f (m + 1))
        (fresh-usable n f (m + 1) (both_true (both_true (both_true (le-leb 1 n low) (le-leb n nodes small))
        (half-tolerates n f small half))
        (both_true (le-leb 1 (m + 1) here.0) (le-leb (m + 1) n here.1))))

    made_more : Made (suc m) (on_block (m + 1) written b)
    made_more = record {
      long = length-on_block b (m + 1) here.0 there written block_made.size ∙ made.long;
      states = stated-on_block b (m + 1) here.0 there written block_made.size ∙ made.states;
      faults = faults-on_block b (m + 1) here.0 there written block_made.size ∙ made.faults;
      made = λ c o h. elim (ℕ_discrete c (m + 1)) [
        | yes e ↦ subst (λ x. Says n f x (block (on_block (m + 1) written b) x) A.fresh false (λ a. [])) (sym e)
            (subst (λ k. Says n f (m + 1) k A.fresh false (λ a. []))
            (sym (block_same b (m + 1) here.0 there written block_made.size)) block_made)
        | no e ↦ subst (λ k. Says n f c k A.fresh false (λ a. []))
            (sym (block-other b (m + 1) here.0 there written block_made.size c o.0 e))
            (made.made c o (omega arith))
      ];
      zeros = λ c o h. subst (Zeros c)
          (sym (block-other b (m + 1) here.0 there written block_made.size c o.0 (λ e. absurd (omega arith))))
          (made.zeros c o (omega arith));
    }

  made_all : (m : ℕ) → m ≤ n → Made m (up_to m (λ i. on_block (i + 1) (keep_record (blank n f (i + 1)))) start)
  unfolding up_to written
  made_all zero h = made_none
  made_all (suc m) h = made_more m h (up_to m (λ i. on_block (i + 1) (keep_record (blank n f (i + 1)))) start)
      (made_all m (omega arith))

  none-stopped : (m : ℕ) → C.count (λ c. false) m ≡ 0
  unfolding C.count
  none-stopped zero = refl
  none-stopped (suc m) = omega (arith, none-stopped m)

  pub fresh-mirrors : (b : List ℕ) → length b ≡ cluster_size n → Mirrors n f (E.fresh_bytes n f (length b)) K.start
  unfolding E.fresh_bytes start
  fresh-mirrors b e = let z = made_all n (omega arith) in record {
    shows = rw e (record { long = z.long; states = z.states; faults = z.faults; says = λ c o. z.made c o o.1 });
    room = λ a c o p. omega arith;
    gone = λ a c h. refl;
    few = rw (none-stopped n) (omega arith);
    half = half;
  }
