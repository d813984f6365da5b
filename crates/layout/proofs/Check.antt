-- What the checks of refusals 12 and 2 tell of the bytes that passed them.
use Prim.Native.Nat.{ℕ, ◌+◌, ◌<◌, ◌≤◌}
use native.Mathlib.Omega.{arith}
use native.Mathlib.Decide.{ℕ_discrete}
use mathlib.Core.Path.{◌≡◌, sym, ap, ◌∙◌, subst}
use mathlib.Core.Bool.{Bool, true, false}
use mathlib.Core.List.{List}
use lib.ListN.{length}
use lib.Dec.{leb, eqb, T}
use borrow.Author.Tests.{eqb-true, eq-eqb, leb-true}
use Rattle.octets.specs.Test.{pick, both}
use Rattle.octets.proofs.Test.{both_left, both_right}
use Rattle.table.specs.Loop.{all, count}
use Rattle.table.specs.Quorum.{tolerates, can_be}
use Rattle.table.proofs.Sets.{tolerates-half}
use Rattle.table.proofs.Laws.{all-at}
use Rattle.view.specs.Size.{is_size, nodes}
use Rattle.record.specs.Usable.{usable}
use Rattle.region.specs.Channel.{count_of, capacity}
use Rattle.region.specs.Record.{record_of, codes_known}
use Rattle.block.specs.Block.{record_in, record_sound, channels_sound, block_sound}
use Rattle.layout.specs.Layout.{cluster_size, stated, faults_in, block, stopped, node, channel, fits, sound, is_node}
use Rattle.layout.specs.Layout.{OneF}

pub is-size : (n : ℕ) → is_size n ≡ true → (1 ≤ n) × (n ≤ nodes)
is-size n h = (
  leb-true 1 n (both_left (leb 1 n) (leb n nodes) h),
  leb-true n nodes
      (both_right (leb 1 n) (leb n nodes) h),
)

pub can-be : (n f : ℕ) → can_be n f ≡ true → (1 ≤ n) × (n ≤ nodes) × (f + f < n)
can-be n f h =
    let size = is-size n (both_left (is_size n) (tolerates n f) h) in (
      size.0,
      size.1,
      tolerates-half n f (both_right (is_size n) (tolerates n f) h),
    )

pub is-node : (n c : ℕ) → is_node n c ≡ true → (1 ≤ c) × (c ≤ n)
is-node n c h = (leb-true 1 c (both_left (leb 1 c) (leb c n) h), leb-true c n (both_right (leb 1 c) (leb c n) h))

-- bytes that fit are not empty
pub fits-some : (b : List ℕ) → fits b ≡ true → 1 ≤ length b
unfolding fits
fits-some b h = elim (ℕ_discrete (length b) 0) [ yes e ↦ absurd (empty e) | no e ↦ omega arith ]
  where
    empty : length b ≡ 0 → ⊥
    empty e =
        subst T (sym h ∙ ap (λ (t : Bool). pick t false (pick (is_size (stated b))
        (eqb (length b) (cluster_size (stated b))) true))
        (eq-eqb (length b) 0 e)) tt

pub fits-size : (b : List ℕ) → fits b ≡ true → is_size (stated b) ≡ true → length b ≡ cluster_size (stated b)
unfolding fits
fits-size b h s = eqb-true (length b) (cluster_size (stated b)) (go (eqb (length b) 0) (is_size (stated b)) s h)
  where
    go : (e t : Bool) → t ≡ true → pick e false (pick t (eqb (length b) (cluster_size (stated b))) true) ≡ true
        → eqb (length b) (cluster_size (stated b)) ≡ true
    go true t p q = absurd (subst T (sym q) tt)
    go false true p q = q
    go false false p q = absurd (subst T (sym p) tt)

pub fits-length : (b : List ℕ) (n : ℕ) → fits b ≡ true → n ≡ stated b → is_size n ≡ true → length b ≡ cluster_size n
fits-length b n h e s = fits-size b h (ap is_size (sym e) ∙ s) ∙ ap (λ (k : ℕ). cluster_size k) (sym e)

-- what refusal 2 asks, one by one
module _ (b : List ℕ) (h : sound b ≡ true) where
  abbrev n : ℕ
  n = stated b

  abbrev f : ℕ
  f = faults_in b

  abbrev blocks : Bool
  blocks = all n (λ c. block_sound n f c (block b c))

  abbrev few : Bool
  few = leb (count n (stopped b)) f

  pub sound-size : is_size (stated b) ≡ true
  unfolding sound
  sound-size = both_left (is_size n) (tolerates n f) (both_left (can_be n f) (both blocks few) h)

  pub sound-half : faults_in b + faults_in b < stated b
  unfolding sound
  sound-half = (can-be n f (both_left (can_be n f) (both blocks few) h)).2

  pub sound-few : count (stated b) (stopped b) ≤ faults_in b
  unfolding sound
  sound-few = leb-true (count n (stopped b)) f (both_right blocks few (both_right (can_be n f) (both blocks few) h))

  pub sound-block : (c : ℕ) → is_node (stated b) c ≡ true → block_sound (stated b) (faults_in b) c (block b c) ≡ true
  unfolding sound
  sound-block c k =
      all-at n (λ d. block_sound n f d (block b d)) c
      (both_left blocks few (both_right (can_be n f) (both blocks few) h))
      (is-node n c k).0 (is-node n c k).1

  module _ (c : ℕ) (k : is_node (stated b) c ≡ true) where
    abbrev r : List ℕ
    r = record_in (block b c)

    abbrev can : Bool
    can = both (codes_known r) (usable (record_of r))

    abbrev same : Bool
    same = both (eqb (record_of r).n n) (eqb (record_of r).f f)

    record-sound : record_sound n f c r ≡ true
    unfolding block_sound
    record-sound = both_left (record_sound n f c r) (channels_sound n (block b c)) (sound-block c k)

    pub sound-usable : usable (node b c) ≡ true
    sound-usable = both_right (codes_known r) (usable (record_of r))
        (both_left can (both same (eqb (record_of r).own c)) record-sound)

    same-cluster : same ≡ true
    same-cluster = both_left same (eqb (record_of r).own c)
        (both_right can (both same (eqb (record_of r).own c)) record-sound)

    -- the record has the cluster's n and f
    pub sound-n : (node b c).n ≡ stated b
    sound-n = eqb-true (record_of r).n n (both_left (eqb (record_of r).n n) (eqb (record_of r).f f) same-cluster)

    sound-f : (node b c).f ≡ faults_in b
    sound-f = eqb-true (record_of r).f f (both_right (eqb (record_of r).n n) (eqb (record_of r).f f) same-cluster)

  pub sound-channel : (a c : ℕ) → is_node (stated b) a ≡ true → is_node (stated b) c ≡ true
      → count_of (channel b a c) ≤ capacity
  unfolding block_sound
  sound-channel a c i k =
      leb-true (count_of (channel b a c)) capacity
      (all-at n (λ d. leb (count_of (channel b d c)) capacity) a
      (both_right (record_sound n f c (record_in (block b c))) (channels_sound n (block b c)) (sound-block c k))
      (is-node n a i).0 (is-node n a i).1)

pub one-f : OneF
one-f = sound-f
