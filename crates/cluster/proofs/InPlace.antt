-- The record of a node where it lies: a part of the cluster's bytes, and what it is when it was written there.
use Prim.Native.Nat.{ℕ, ◌+◌, ◌-◌, ◌≤◌}
use native.Mathlib.Omega.{arith}
use mathlib.Core.Path.{◌≡◌, refl, sym, ap, ap₂, ◌∙◌}
use mathlib.Core.Bool.{true, false}
use mathlib.Core.List.{List, [], ◌++◌}
use lib.ListN.{length, take, drop}
use Rattle.octets.specs.Bytes.{part, put}
use Rattle.octets.proofs.Lent.{lent, lent_back}
use Rattle.octets.proofs.Put.{part-part, part_same, length_part, length-put, put-inside, put-over, put-cover}
use Rattle.octets.proofs.Test.{true-false}
use Rattle.view.specs.Size.{nodes}
use Rattle.view.specs.declared.View.{View}
use Rattle.wire.specs.Codec.{is_good}
use Rattle.wire.specs.declared.Message.{Message}
use Rattle.wire.specs.declared.Message.TheVariants.{Read, ReadAnswer, Write, WriteAnswer, Echo, Value, Good}
use Rattle.table.specs.Table.{cells}
use Rattle.record.specs.declared.Node.{Node}
use Rattle.step.specs.React.{react}
use Rattle.region.specs.Record.{record_size, record_bytes}
use Rattle.region.proofs.Saved.{length-record_bytes}
use Rattle.block.specs.Block.{block_size, record_place, record_in, keep_record, take_off}
use Rattle.block.proofs.Changes.{take_off-length, take_off-record}
use Rattle.react_bytes.specs.Handled.{view_there}
use Rattle.layout.specs.Layout.{cluster_size, block_place, block, on_block}
use Rattle.layout.proofs.Blocks.{length-block, block_same}
use Rattle.cluster.specs.First.{record_at}

pub record-there : (b : List ℕ) (c : ℕ) → part b (record_at c) record_size ≡ record_in (block b c)
unfolding block record_in
record-there b c = sym (part-part b (block_place c) block_size record_place record_size (omega arith))

-- the record lent: what is read of it, and the bytes after a callee that changed it by f
pub record-lent : (b : List ℕ) (c : ℕ) {at : ℕ} → at ≡ record_at c
    → take (at + record_size - at) (drop at b) ≡ record_in (block b c)
record-lent b c {at} e =
    lent b at record_size refl ∙ ap (λ (k : ℕ). part b k record_size) e ∙ record-there b c

module _ (b : List ℕ) (c : ℕ) (lo : 1 ≤ c) (there : cluster_size c ≤ length b) where
  pub record-lent-back : (f : List ℕ → List ℕ) {at : ℕ} {t : List ℕ} → at ≡ record_at c
      → length t ≡ length (take (at + record_size - at) (drop at b)) → t ≡ f (take (at + record_size - at) (drop at b))
      → take at b ++ (t ++ drop (at + record_size - at) (drop at b)) ≡ put b (record_at c) (f (record_in (block b c)))
  record-lent-back f {at} e l q =
      lent_back b at record_size f refl (omega (arith, e)) l q
      ∙ ap₂ (λ (k : ℕ) (r : List ℕ). put b k (f r)) e (ap (λ (k : ℕ). part b k record_size) e ∙ record-there b c)

  -- bytes of a record's length, written there
  module _ (r : List ℕ) (long : length r ≡ record_size) where
    pub record-put : record_in (block (put b (record_at c) r) c) ≡ r
    record-put = sym (record-there (put b (record_at c) r) c) ∙ part_same b (record_at c) r record_size (omega arith)
        long

    pub length-there : length (put b (record_at c) r) ≡ length b
    length-there = length-put b (record_at c) r (omega (arith, long))

    -- and others over them
    pub record-over : (s : List ℕ) → length s ≡ record_size
        → put (put b (record_at c) r) (record_at c) s ≡ put b (record_at c) s
    record-over s h = put-cover b (record_at c) [] r s (record_at c) (omega (arith, h)) (omega arith) (omega (arith, h))
        refl refl

  pub record-kept : (d : Node) → length d.heard ≡ cells
      → put b (record_at c) (record_bytes d) ≡ on_block c (keep_record d) b
  unfolding on_block keep_record
  record-kept d heard =
      let k = part b (block_place c) block_size in
      let long : length (record_bytes d) ≡ record_size = length-record_bytes d heard in
      let lk : length k ≡ block_size = length_part b (block_place c) block_size (omega arith) in
      put-inside b (block_place c) block_size record_place (record_bytes d) (omega arith) (omega (arith, long))
      ∙ ap (λ (t : List ℕ). put b (block_place c) (put k record_place t))
      (sym (put-over (part k record_place record_size) (record_bytes d)
      (long ∙ sym (length_part k record_place record_size (omega arith)))))

-- The record stays when a message is taken off.
pub record-taken : (b : List ℕ) (a c : ℕ) → 1 ≤ a → a ≤ nodes → 1 ≤ c → cluster_size c ≤ length b
    → record_in (block (on_block c (take_off a) b) c) ≡ record_in (block b c)
record-taken b a c a-lo a-hi lo there =
    let own = length-block b c lo there in
    ap record_in (block_same b c lo there (take_off a) (take_off-length (block b c) own a a-lo a-hi))
    ∙ take_off-record (block b c) own a a-lo a-hi

-- A handler looks at the view of a good message alone.
pub react-blind : (c : Node) (s : ℕ) (m : Message) (v w : View) → is_good m ≡ false → react c s m v ≡ react c s m w
unfolding react
react-blind c s (Read q) v w e = refl
react-blind c s (ReadAnswer q t) v w e = refl
react-blind c s (Write q t) v w e = refl
react-blind c s (WriteAnswer q t) v w e = refl
react-blind c s (Echo t) v w e = refl
react-blind c s (Value t x p) v w e = refl
react-blind c s (Good t) v w e = true-false true refl e

pub no-view : (n : ℕ) (m : Message) (v : List ℕ) → is_good m ≡ false → view_there n m v ≡ true
no-view n m v e = rw e refl
