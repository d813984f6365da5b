-- What a slot holds stays through every change of an event: a message taken off, a record written, a stop, and a
-- message that comes in. That one may come into the very slot, with the bytes that stand there.
use Prim.Native.Nat.{ℕ, zero, suc, ◌+◌, ◌-◌, ◌%◌, ◌<◌, ◌≤◌}
use native.Mathlib.Omega.{arith}
use native.Mathlib.Decide.{dec_lt, ℕ_discrete}
use mathlib.Core.Path.{◌≡◌, refl, sym, ap, ◌∙◌}
use mathlib.Core.Bool.{Bool, true, false}
use mathlib.Core.List.{List, [], ◌∷◌}
use lib.Dec.{ltb}
use lib.ListN.{length, set, take, length-set}
use Rattle.octets.specs.Test.{pick}
use Rattle.octets.specs.Bytes.{part, put}
use Rattle.octets.specs.Loop.{up_to}
use Rattle.octets.proofs.Put.{part-part, part_same, part-other, length_part, length-put, put_one}
use Rattle.view.specs.Size.{nodes}
use Rattle.table.specs.Table.{cells}
use Rattle.record.specs.declared.Node.{Node}
use Rattle.region.specs.Channel.{capacity, slot_size, slots_place, slot_at, channel_size, count_of, oldest, push, pop}
use Rattle.region.specs.Channel.{clear}
use Rattle.region.proofs.Waiting.{length-clear}
use Rattle.block.specs.Block.{block_size, channel_place, has_stopped, channel_in, on_channel, keep_record, take_off}
use Rattle.block.specs.Block.{receive}
use Rattle.block.specs.Block.{halt}
use Rattle.block.proofs.Changes.{channel-length, channel-same, channel-other, keep_record-length, keep_record-channel}
use Rattle.block.proofs.Changes.{take_off-length, take_off-same, receive-length, receive-same, receive-stopped}
use Rattle.block.proofs.Changes.{receive_other}
use Rattle.layout.specs.Layout.{cluster_size, block, on_block}
use Rattle.layout.specs.Slot.{slot_place}
use Rattle.layout.proofs.Blocks.{length-block, block_same, block-other}
use Rattle.layout.proofs.Received.{slot-in}

-- ---- one channel

module _ (i len : ℕ) (short : len ≤ slot_size) where
  -- A byte before the slots.
  byte-before : (t : List ℕ) (j x : ℕ) → length t ≡ channel_size → j < slots_place
      → part (set t j x) (slot_at i) len ≡ part t (slot_at i) len
  byte-before t j x size h =
      ap (λ (u : List ℕ). part u (slot_at i) len) (put_one t j x (omega arith))
      ∙ part-other t j (x ∷ []) (slot_at i) len (omega arith) (λ q. omega arith) (λ q. omega arith)

  clear-keeps : (t : List ℕ) → length t ≡ channel_size → part (clear t) (slot_at i) len ≡ part t (slot_at i) len
  unfolding clear
  clear-keeps t size = byte-before t 0 0 size (omega arith)

  pop-keeps : (t : List ℕ) → length t ≡ channel_size → part (pop t) (slot_at i) len ≡ part t (slot_at i) len
  unfolding pop
  pop-keeps t size = go (ltb 0 (count_of t))
    where
      u : List ℕ
      u = set t 0 (count_of t - 1)

      go : (y : Bool) → part (pick y (set u 1 ((oldest t + 1) % capacity)) t) (slot_at i) len ≡ part t (slot_at i) len
      go true =
          byte-before u 1 ((oldest t + 1) % capacity) (length-set t 0 (count_of t - 1) ∙ size) (omega arith)
          ∙ byte-before t 0 (count_of t - 1) size (omega arith)
      go false = refl

  -- A message that is put into a slot, this one or another.
  put_keeps : (s t : List ℕ) (j : ℕ) → length t ≡ channel_size → length s ≡ slot_size
      → take len s ≡ part t (slot_at i) len → part (put t (slot_at j) s) (slot_at i) len ≡ part t (slot_at i) len
  unfolding part
  put_keeps s t j size full e = elim (dec_lt (i % capacity) (j % capacity)) [
    | yes l ↦ part-other t (slot_at j) s (slot_at i) len (omega arith) (λ q. omega arith) (λ q. omega arith)
    | no l ↦ elim (dec_lt (j % capacity) (i % capacity)) [
      | yes m ↦ part-other t (slot_at j) s (slot_at i) len (omega arith) (λ q. omega arith) (λ q. omega arith)
      | no m ↦
          let same : slot_at i ≡ slot_at j + 0 = omega arith in
          ap (λ (k : ℕ). part (put t (slot_at j) s) k len) same
          ∙ sym (part-part (put t (slot_at j) s) (slot_at j) slot_size 0 len (omega arith))
          ∙ ap (λ (u : List ℕ). part u 0 len) (part_same t (slot_at j) s slot_size (omega arith) full)
          ∙ e
    ]
  ]

  push-keeps : (s t : List ℕ) → length t ≡ channel_size → length s ≡ slot_size → take len s ≡ part t (slot_at i) len
      → part (push s t) (slot_at i) len ≡ part t (slot_at i) len
  unfolding push
  push-keeps s t size full e = go (ltb (count_of t) capacity)
    where
      u : List ℕ
      u = put t (slot_at (oldest t + count_of t)) s

      go : (y : Bool) → part (pick y (set u 0 (count_of t + 1)) t) (slot_at i) len ≡ part t (slot_at i) len
      go true =
          byte-before u 0 (count_of t + 1) (length-put t (slot_at (oldest t + count_of t)) s (omega arith) ∙ size)
          (omega arith)
          ∙ put_keeps s t (oldest t + count_of t) size full e
      go false = refl

  -- ---- a block

  module _ (a : ℕ) (lo : 1 ≤ a) (hi : a ≤ nodes) where
    channel-size : (k : List ℕ) → length k ≡ block_size → length (channel_in k a) ≡ channel_size
    unfolding channel_in
    channel-size k size = length_part k (channel_place a) channel_size (omega arith)

    cleared : (t : List ℕ) → length t ≡ channel_size → length (clear t) ≡ channel_size
    cleared t e = length-clear t ∙ e

    halt-keeps : (k : List ℕ) → length k ≡ block_size → (n : ℕ) → n ≤ nodes
        → (length (halt n k) ≡ block_size)
        × (part (channel_in (halt n k) a) (slot_at i) len ≡ part (channel_in k a) (slot_at i) len)
    unfolding halt up_to channel_in
    halt-keeps k size zero h = (
      length-set k 0 1 ∙ size,
      ap (λ (u : List ℕ). part (part u (channel_place a) channel_size) (slot_at i) len) (put_one k 0 1 (omega arith))
          ∙ ap (λ (u : List ℕ). part u (slot_at i) len)
          (part-other k 0 (1 ∷ []) (channel_place a) channel_size (omega arith) (λ q. omega arith) (λ q. omega arith)),
    )
    halt-keeps k size (suc n) h = step (halt-keeps k size n (omega arith))
      where
        before : List ℕ
        before = up_to n (λ j. on_channel (j + 1) clear) (set k 0 1)

        step : (length before ≡ block_size)
            × (part (channel_in before a) (slot_at i) len ≡ part (channel_in k a) (slot_at i) len)
            → (length (on_channel (n + 1) clear before) ≡ block_size)
            × (part (channel_in (on_channel (n + 1) clear before) a) (slot_at i) len
            ≡ part (channel_in k a) (slot_at i) len)
        step (l, e) =
            let low : 1 ≤ n + 1 = omega arith in
            let high : n + 1 ≤ nodes = omega arith in (
              channel-length before l clear cleared (n + 1) low high,
              elim (ℕ_discrete a (n + 1)) [
                | yes z ↦
                    let same : channel_in (on_channel (n + 1) clear before) a ≡ clear (channel_in before a) =
                    rw z (channel-same before l clear cleared (n + 1) low high) in
                    ap (λ (u : List ℕ). part u (slot_at i) len) same
                    ∙ clear-keeps (channel_in before a) (channel-size before l) ∙ e
                | no z ↦ ap (λ (u : List ℕ). part u (slot_at i) len)
                    (channel-other before l clear cleared (n + 1) low high a lo z) ∙ e
              ],
            )

    receive-keeps : (k : List ℕ) → length k ≡ block_size → (d : ℕ) → 1 ≤ d → d ≤ nodes → (s : List ℕ)
        → length s ≡ slot_size → take len s ≡ part (channel_in k a) (slot_at i) len
        → part (channel_in (receive d s k) a) (slot_at i) len ≡ part (channel_in k a) (slot_at i) len
    receive-keeps k size d low high s full e = go (has_stopped k) refl (ℕ_discrete a d)
      where
        fits : length s ≤ slot_size
        fits = omega (arith, full)

        go : (y : Bool) → has_stopped k ≡ y → Dec (a ≡ d)
            → part (channel_in (receive d s k) a) (slot_at i) len ≡ part (channel_in k a) (slot_at i) len
        go true h z = ap (λ (u : List ℕ). part (channel_in u a) (slot_at i) len)
            (receive-stopped k size d low high s fits h)
        go false h (yes z) =
            let same : channel_in (receive d s k) a ≡ push s (channel_in k a) =
            rw z (receive-same k size d low high s fits h) in
            ap (λ (u : List ℕ). part u (slot_at i) len) same
            ∙ push-keeps s (channel_in k a) (channel-size k size) full e
        go false h (no z) = ap (λ (u : List ℕ). part u (slot_at i) len) (receive_other k size d low high s fits a lo z)

    -- ---- the cluster: slot i of the channel from a to c

    module _ (c : ℕ) (from : 1 ≤ c) (b : List ℕ) (there : cluster_size c ≤ length b) where
      size : length (block b c) ≡ block_size
      size = length-block b c from there

      -- A change of its own block.
      on-keeps : (f : List ℕ → List ℕ) → length (f (block b c)) ≡ block_size
          → part (channel_in (f (block b c)) a) (slot_at i) len ≡ part (channel_in (block b c) a) (slot_at i) len
          → part (on_block c f b) (slot_place a c i) len ≡ part b (slot_place a c i) len
      on-keeps f same e =
          slot-in (on_block c f b) a c lo hi i len short
          ∙ ap (λ (k : List ℕ). part (channel_in k a) (slot_at i) len) (block_same b c from there f same) ∙ e
          ∙ sym (slot-in b a c lo hi i len short)

      pub stays-taken : part (on_block c (take_off a) b) (slot_place a c i) len ≡ part b (slot_place a c i) len
      stays-taken = on-keeps (take_off a) (take_off-length (block b c) size a lo hi)
          (ap (λ (t : List ℕ). part t (slot_at i) len) (take_off-same (block b c) size a lo hi)
          ∙ pop-keeps (channel_in (block b c) a) (channel-size (block b c) size))

      pub stays-kept : (d : Node) → length d.heard ≡ cells
          → part (on_block c (keep_record d) b) (slot_place a c i) len ≡ part b (slot_place a c i) len
      stays-kept d h = on-keeps (keep_record d) (keep_record-length (block b c) size d h)
          (ap (λ (t : List ℕ). part t (slot_at i) len) (keep_record-channel (block b c) size d h a))

      pub stays-halted : (n : ℕ) → n ≤ nodes
          → part (on_block c (halt n) b) (slot_place a c i) len ≡ part b (slot_place a c i) len
      stays-halted n h =
          let kept = halt-keeps (block b c) size n h in
          on-keeps (halt n) kept.0 kept.1

      -- A message from d that node e receives, of which so many bytes are those in the slot.
      pub stays-received : (d e : ℕ) → 1 ≤ d → d ≤ nodes → 1 ≤ e → cluster_size e ≤ length b → (s : List ℕ)
          → length s ≡ slot_size → take len s ≡ part b (slot_place a c i) len
          → part (on_block e (receive d s) b) (slot_place a c i) len ≡ part b (slot_place a c i) len
      stays-received d e low high one long s full is = elim (ℕ_discrete c e) [
        | yes z ↦
            let own : part (on_block c (receive d s) b) (slot_place a c i) len ≡ part b (slot_place a c i) len =
            on-keeps (receive d s) (receive-length (block b c) size d low high s (omega (arith, full)))
            (receive-keeps (block b c) size d low high s full (is ∙ slot-in b a c lo hi i len short)) in
            ap (λ (k : ℕ). part (on_block k (receive d s) b) (slot_place a c i) len) (sym z) ∙ own
        | no z ↦
            slot-in (on_block e (receive d s) b) a c lo hi i len short
            ∙ ap (λ (k : List ℕ). part (channel_in k a) (slot_at i) len)
            (block-other b e one long (receive d s)
            (receive-length (block b e) (length-block b e one long) d low high s (omega (arith, full))) c from z)
            ∙ sym (slot-in b a c lo hi i len short)
      ]
