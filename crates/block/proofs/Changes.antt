-- What a block says after each of its changes, at the place changed and at the others.
use Prim.Native.Nat.{ℕ, zero, suc, ◌+◌, ◌≤◌}
use native.Mathlib.Omega.{arith}
use mathlib.Core.Path.{◌≡◌, refl, sym, ap, ◌∙◌}
use mathlib.Core.Bool.{Bool, true, false}
use mathlib.Core.List.{List}
use lib.ListN.{length, get_or, set, length-set}
use lib.Seq.{get_or-set_same}
use lib.Dec.{ltb}
use Rattle.octets.specs.Test.{pick}
use Rattle.octets.specs.Bytes.{part, put}
use Rattle.octets.specs.Loop.{up_to}
use Rattle.octets.proofs.Put.{part-other, part_same, get_d-other, length-put, length_part, put-over}
use Rattle.view.specs.Size.{nodes}
use Rattle.table.specs.Table.{cells}
use Rattle.record.specs.declared.Node.{Node}
use Rattle.region.specs.Channel.{channel_size, slot_size, push, pop, clear}
use Rattle.region.specs.Record.{record_size, record_bytes}
use Rattle.region.proofs.Waiting.{length_push, length-pop, length-clear}
use Rattle.region.proofs.Saved.{length-record_bytes}
use Rattle.block.specs.Block.{block_size, channel_place, has_stopped, record_in, channel_in, on_channel, keep_record}
use Rattle.block.specs.Block.{take_off, receive, halt}
use Rattle.block.specs.Block.{record_place}

-- A block of the right length, and a change of a channel that keeps its length.
module _ (k : List ℕ) (size : length k ≡ block_size) (f : List ℕ → List ℕ)
    (same : (t : List ℕ) → length t ≡ channel_size → length (f t) ≡ channel_size) (a : ℕ) (lo : 1 ≤ a) (hi : a ≤ nodes)
  where
    long : length (f (part k (channel_place a) channel_size)) ≡ channel_size
    long = same (part k (channel_place a) channel_size) (length_part k (channel_place a) channel_size (omega arith))

    pub channel-length : length (on_channel a f k) ≡ block_size
    channel-length =
        length-put k (channel_place a) (f (part k (channel_place a) channel_size)) (omega (arith, long)) ∙ size

    pub channel-flag : get_or (on_channel a f k) 0 0 ≡ get_or k 0 0
    channel-flag =
        get_d-other k (channel_place a) (f (part k (channel_place a) channel_size)) 0 (omega arith) (λ q. omega arith)

    pub channel-record : record_in (on_channel a f k) ≡ record_in k
    unfolding record_in
    channel-record =
        part-other k (channel_place a) (f (part k (channel_place a) channel_size)) record_place record_size
        (omega arith)
        (λ q. omega arith)
        (λ q. omega arith)

    pub channel-same : channel_in (on_channel a f k) a ≡ f (channel_in k a)
    unfolding channel_in
    channel-same = part_same k (channel_place a) (f (part k (channel_place a) channel_size)) channel_size (omega arith)
        long

    pub channel-other : (d : ℕ) → 1 ≤ d → (d ≡ a → ⊥) → channel_in (on_channel a f k) d ≡ channel_in k d
    unfolding channel_in
    channel-other d l e =
        part-other k (channel_place a) (f (part k (channel_place a) channel_size)) (channel_place d) channel_size
        (omega arith)
        (λ q. omega (arith, long)) (λ q. omega (arith, long))

-- The record written; its tables have their lengths.
module _ (k : List ℕ) (size : length k ≡ block_size) (d : Node) (heard : length d.heard ≡ cells) where
  over : put (part k record_place record_size) 0 (record_bytes d) ≡ record_bytes d
  over =
      put-over (part k record_place record_size) (record_bytes d)
      (length-record_bytes d heard ∙ sym (length_part k record_place record_size (omega arith)))

  kept : keep_record d k ≡ put k record_place (record_bytes d)
  unfolding keep_record
  kept = ap (λ (t : List ℕ). put k record_place t) over

  pub keep_record-length : length (keep_record d k) ≡ block_size
  keep_record-length =
      ap length kept ∙ length-put k record_place (record_bytes d) (omega (arith, length-record_bytes d heard))
      ∙ size

  pub keep_record-flag : get_or (keep_record d k) 0 0 ≡ get_or k 0 0
  keep_record-flag =
      ap (λ (t : List ℕ). get_or t 0 0) kept ∙ get_d-other k record_place (record_bytes d) 0 (omega arith)
      (λ q. omega arith)

  pub keep_record-record : record_in (keep_record d k) ≡ record_bytes d
  unfolding record_in
  keep_record-record =
      ap (λ (t : List ℕ). part t record_place record_size) kept
      ∙ part_same k record_place (record_bytes d) record_size (omega arith) (length-record_bytes d heard)

  pub keep_record-channel : (a : ℕ) → channel_in (keep_record d k) a ≡ channel_in k a
  unfolding channel_in
  keep_record-channel a =
      ap (λ (t : List ℕ). part t (channel_place a) channel_size) kept
      ∙ part-other k record_place (record_bytes d) (channel_place a) channel_size (omega arith) (λ q. omega arith)
      (λ q. omega (arith, length-record_bytes d heard))

-- One message less on the channel from a.
module _ (k : List ℕ) (size : length k ≡ block_size) (a : ℕ) (lo : 1 ≤ a) (hi : a ≤ nodes) where
  popped : (t : List ℕ) → length t ≡ channel_size → length (pop t) ≡ channel_size
  popped t e = length-pop t ∙ e

  pub take_off-length : length (take_off a k) ≡ block_size
  unfolding take_off
  take_off-length = channel-length k size pop popped a lo hi

  pub take_off-flag : get_or (take_off a k) 0 0 ≡ get_or k 0 0
  unfolding take_off
  take_off-flag = channel-flag k size pop popped a lo hi

  pub take_off-record : record_in (take_off a k) ≡ record_in k
  unfolding take_off
  take_off-record = channel-record k size pop popped a lo hi

  pub take_off-same : channel_in (take_off a k) a ≡ pop (channel_in k a)
  unfolding take_off
  take_off-same = channel-same k size pop popped a lo hi

  pub take_off-other : (d : ℕ) → 1 ≤ d → (d ≡ a → ⊥) → channel_in (take_off a k) d ≡ channel_in k d
  unfolding take_off
  take_off-other = channel-other k size pop popped a lo hi

-- A message m from a, for a node that has not stopped.
module _ (k : List ℕ) (size : length k ≡ block_size) (a : ℕ) (lo : 1 ≤ a) (hi : a ≤ nodes) (m : List ℕ)
    (fits : length m ≤ slot_size) where
  pushed : (t : List ℕ) → length t ≡ channel_size → length (push m t) ≡ channel_size
  pushed t e = length_push m t e fits

  pub receive-length : length (receive a m k) ≡ block_size
  unfolding receive
  receive-length = go (has_stopped k)
    where
      go : (s : Bool) → length (pick s k (on_channel a (push m) k)) ≡ block_size
      go true = size
      go false = channel-length k size (push m) pushed a lo hi

  pub receive-flag : get_or (receive a m k) 0 0 ≡ get_or k 0 0
  unfolding receive
  receive-flag = go (has_stopped k)
    where
      go : (s : Bool) → get_or (pick s k (on_channel a (push m) k)) 0 0 ≡ get_or k 0 0
      go true = refl
      go false = channel-flag k size (push m) pushed a lo hi

  pub receive-record : record_in (receive a m k) ≡ record_in k
  unfolding receive
  receive-record = go (has_stopped k)
    where
      go : (s : Bool) → record_in (pick s k (on_channel a (push m) k)) ≡ record_in k
      go true = refl
      go false = channel-record k size (push m) pushed a lo hi

  pub receive-same : has_stopped k ≡ false → channel_in (receive a m k) a ≡ push m (channel_in k a)
  unfolding receive
  receive-same e = rw e (channel-same k size (push m) pushed a lo hi)

  pub receive-stopped : has_stopped k ≡ true → receive a m k ≡ k
  unfolding receive
  receive-stopped e = rw e refl

  pub receive_other : (d : ℕ) → 1 ≤ d → (d ≡ a → ⊥) → channel_in (receive a m k) d ≡ channel_in k d
  unfolding receive
  receive_other d l e = go (has_stopped k)
    where
      go : (s : Bool) → channel_in (pick s k (on_channel a (push m) k)) d ≡ channel_in k d
      go true = refl
      go false = channel-other k size (push m) pushed a lo hi d l e

-- The stop.
module _ (k : List ℕ) (size : length k ≡ block_size) where
  cleared : (t : List ℕ) → length t ≡ channel_size → length (clear t) ≡ channel_size
  cleared t e = length-clear t ∙ e

  flagged : length (set k 0 1) ≡ block_size
  flagged = length-set k 0 1 ∙ size

  emptied : ℕ → List ℕ
  emptied n = up_to n (λ i. on_channel (i + 1) clear) (set k 0 1)

  emptied-length : (n : ℕ) → n ≤ nodes → length (emptied n) ≡ block_size
  unfolding up_to emptied
  emptied-length zero h = flagged
  emptied-length (suc n) h =
      channel-length (emptied n) (emptied-length n (omega arith)) clear cleared (n + 1) (omega arith) (omega arith)

  emptied-flag : (n : ℕ) → n ≤ nodes → get_or (emptied n) 0 0 ≡ 1
  unfolding up_to emptied
  emptied-flag zero h = get_or-set_same k 0 1 0 (omega arith)
  emptied-flag (suc n) h =
      channel-flag (emptied n) (emptied-length n (omega arith)) clear cleared (n + 1) (omega arith) (omega arith)
      ∙ emptied-flag n (omega arith)

  pub halt-length : (n : ℕ) → n ≤ nodes → length (halt n k) ≡ block_size
  unfolding halt emptied
  halt-length n h = emptied-length n h

  pub halt-stops : (n : ℕ) → n ≤ nodes → has_stopped (halt n k) ≡ true
  unfolding halt emptied
  halt-stops n h = ap (λ (x : ℕ). ltb 0 x) (emptied-flag n h)
