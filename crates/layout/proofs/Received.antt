-- A message received within a cluster's bytes, by the places of its channel and its slot; and that what a slot holds
-- stays through every change of an event but another message in its place.
use Prim.Native.Nat.{ℕ, ◌+◌, ◌%◌, ◌<◌, ◌≤◌}
use native.Mathlib.Omega.{arith}
use native.Mathlib.Decide.{dec_lt}
use mathlib.Core.Path.{◌≡◌, refl, sym, ap, ◌∙◌}
use mathlib.Core.Bool.{true, false}
use mathlib.Core.List.{List, [], ◌∷◌, ◌++◌, append-nil}
use lib.ListN.{length, take, drop, get_or, set, length-set, drop_of_length-le}
use lib.Seq.{drop_at, length-take-le}
use borrow.Author.Tests.{lt-ltb, le-ltb}
use Rattle.octets.specs.Bytes.{part, put}
use Rattle.octets.proofs.Put.{part-part, part_same, get_d_part, length_part, length-put, put-inside, put_one}
use Rattle.octets.proofs.Put.{put-cover}
use Rattle.octets.proofs.Run.{put-part}
use Rattle.view.specs.Size.{nodes}
use Rattle.region.specs.Channel.{capacity, slot_size, slot_at, channel_size, count_place, oldest_place, count_of}
use Rattle.region.specs.Channel.{oldest, push}
use Rattle.block.specs.Block.{block_size, channel_place, channel_in, receive}
use Rattle.layout.specs.Layout.{cluster_size, block_place, block, stopped, channel, on_block}
use Rattle.layout.specs.Slot.{channel_at, slot_place, IsSlot}

module _ (b : List ℕ) (a c : ℕ) (lo : 1 ≤ a) (hi : a ≤ nodes) where
  -- what stands in a slot, and the count and the oldest of a channel, by the channel
  pub slot-in : (i len : ℕ) → len ≤ slot_size → part b (slot_place a c i) len ≡ part (channel b a c) (slot_at i) len
  unfolding block channel_in
  slot-in i len h =
      let e : slot_place a c i ≡ block_place c + (channel_place a + slot_at i) = omega arith in
      ap (λ (k : ℕ). part b k len) e
      ∙ sym (part-part (part b (block_place c) block_size) (channel_place a) channel_size (slot_at i) len (omega arith)
      ∙ part-part b (block_place c) block_size (channel_place a + slot_at i) len (omega arith))

  byte-in : (i : ℕ) → i < channel_size → get_or b (channel_at a c + i) 0 ≡ get_or (channel b a c) i 0
  unfolding block channel_in
  byte-in i h =
      let e : channel_at a c + i ≡ block_place c + (channel_place a + i) = omega arith in
      ap (λ (k : ℕ). get_or b k 0) e
      ∙ sym (get_d_part (part b (block_place c) block_size) (channel_place a) channel_size i h
      ∙ get_d_part b (block_place c) block_size (channel_place a + i) (omega arith))

  pub count_at : get_or b (channel_at a c + count_place) 0 ≡ count_of (channel b a c)
  count_at = byte-in count_place (omega arith)

  pub oldest-at : get_or b (channel_at a c + oldest_place) 0 ≡ oldest (channel b a c)
  oldest-at = byte-in oldest_place (omega arith)

-- A region with a region in it, of which the inner one is changed to v.
inner : (b : List ℕ) (at len j : ℕ) (v : List ℕ) → at + len ≤ length b → j + length v ≤ len
    → put b at (put (part b at len) j v) ≡ put b (at + j) v
inner b at len j v h l = sym (put-inside b at len j v h l)

-- A run and then a byte written into a region.
run-and-byte : (b : List ℕ) (q len at x : ℕ) (s : List ℕ) → q + len ≤ length b → at + length s ≤ len → 1 ≤ len
    → put b q (set (put (part b q len) at s) 0 x) ≡ set (put b (q + at) s) (q + 0) x
run-and-byte b q len at x s h k some =
    let t = part b q len in
    let t' = put t at s in
    let b' = put b (q + at) s in
    let lt : length t ≡ len = length_part b q len h in
    let lt' : length t' ≡ len = length-put t at s (omega arith) ∙ lt in
    let lb' : length b' ≡ length b = length-put b (q + at) s (omega arith) in
    let is : b' ≡ put b q t' = put-inside b q len at s h k in
    let there : part b' q len ≡ t' = ap (λ (y : List ℕ). part y q len) is
    ∙ part_same b q t' len (omega arith) lt' in
    let y = put t' 0 (x ∷ []) in
    let ly : length y ≡ len = length-put t' 0 (x ∷ []) (omega arith) ∙ lt' in
    ap (λ (u : List ℕ). put b q u) (put_one t' 0 x (omega arith))
    ∙ sym (put-cover b q [] t' y q (omega arith) (omega arith) (omega arith) is refl)
    ∙ ap (λ (u : List ℕ). put b' q (put u 0 (x ∷ []))) (sym there)
    ∙ inner b' q len 0 (x ∷ []) (omega arith) (omega arith)
    ∙ sym (put_one b' (q + 0) x (omega arith))

module _ (b : List ℕ) (a c : ℕ) (lo : 1 ≤ a) (hi : a ≤ nodes) (from : 1 ≤ c) (there : cluster_size c ≤ length b)
    (s : List ℕ) where
  region : cluster_size c ≤ length b → block_place c + block_size ≤ length b
  region h = omega arith

  -- A node that has stopped receives nothing, and a channel that is full takes nothing.
  pub pass-stopped : stopped b c ≡ true → on_block c (receive a s) b ≡ b
  unfolding on_block receive block
  pass-stopped e = rw e (put-part b (block_place c) block_size (region there))

  pub pass-full : stopped b c ≡ false → capacity ≤ count_of (channel b a c) → on_block c (receive a s) b ≡ b
  unfolding on_block receive block channel_in push
  pass-full e h = rw (e, le-ltb (count_of (channel b a c)) capacity h)
      (ap (λ (t : List ℕ). put b (block_place c) t)
      (put-part (part b (block_place c) block_size) (channel_place a) channel_size
      (omega (arith, length_part b (block_place c) block_size (region there))))
      ∙ put-part b (block_place c) block_size (region there))

  -- Else the message stands in the slot after those that wait, and is counted.
  pub pass-in : stopped b c ≡ false → count_of (channel b a c) < capacity → length s ≤ slot_size
      → on_block c (receive a s) b
      ≡ set (put b (slot_place a c (oldest (channel b a c) + count_of (channel b a c))) s)
      (channel_at a c + count_place)
      (count_of (channel b a c) + 1)
  unfolding on_block receive block channel_in push
  pass-in e h l =
      let k = part b (block_place c) block_size in
      let t = part k (channel_place a) channel_size in
      let at = slot_at (oldest t + count_of t) in
      let lk : length k ≡ block_size = length_part b (block_place c) block_size (region there) in
      let same : t ≡ part b (channel_at a c) channel_size
      = part-part b (block_place c) block_size (channel_place a) channel_size (omega arith) in
      let lt : length t ≡ channel_size = length_part k (channel_place a) channel_size (omega arith) in
      rw (e, lt-ltb (count_of t) capacity h)
      (inner b (block_place c) block_size (channel_place a) (set (put t at s) 0 (count_of t + 1)) (region there)
      (omega (arith, length-set (put t at s) 0 (count_of t + 1), length-put t at s (omega arith)))
      ∙ ap (λ (u : List ℕ). put b (channel_at a c) (set (put u at s) 0 (count_of t + 1))) same
      ∙ run-and-byte b (channel_at a c) channel_size at (count_of t + 1) s (omega arith) (omega arith) (omega arith))

-- Two slots are one, or apart.
pub slots_apart : {x : ℕ} → IsSlot nodes x → (a c i : ℕ) → 1 ≤ a → a ≤ nodes → 1 ≤ c → x < slot_place a c i
    → x + slot_size ≤ slot_place a c i
slots_apart {x} X a c i lo hi low l =
    let e = X.place in
    let s = X.sender in
    let r = X.receiver in
    elim (dec_lt X.c c) [
      | yes p ↦ omega (arith, e, s.0, s.1, r.0)
      | no p ↦ elim (dec_lt c X.c) [
        | yes o ↦ absurd (omega (arith, e, s.0, s.1, r.0))
        | no o ↦ elim (dec_lt X.a a) [
          | yes q ↦ omega (arith, e, s.0, s.1, r.0)
          | no q ↦ elim (dec_lt a X.a) [
            | yes y ↦ absurd (omega (arith, e, s.0, s.1, r.0))
            | no y ↦ elim (dec_lt (X.i % capacity) (i % capacity)) [
              | yes z ↦ omega (arith, e, s.0, s.1, r.0)
              | no z ↦ absurd (omega (arith, e, s.0, s.1, r.0))
            ]
          ]
        ]
      ]
    ]

pub slot_of : (a c i : ℕ) → 1 ≤ a → a ≤ nodes → 1 ≤ c → c ≤ nodes → IsSlot nodes (slot_place a c i)
slot_of a c i lo hi low high =
    record { a = a; c = c; i = i; sender = (lo, hi); receiver = (low, high); place = refl }

-- A run written before one that stands already: the two are one.
both_runs : (p u w : List ℕ) → length p ≡ length u + length w → put (put p (length u) w) 0 u ≡ u ++ w
unfolding put
both_runs p u w l =
    let k : 0 + length u ≡ length u = omega arith in
    let q = take (length u) p in
    let lq : length q ≡ length u = length-take-le (length u) p (omega arith) in
    let short : length p ≤ length u + length w = omega arith in
    ap (λ (j : ℕ). u ++ drop j (q ++ w ++ drop (length u + length w) p)) k
    ∙ ap (λ (t : List ℕ). u ++ drop (length u) (q ++ w ++ t)) (drop_of_length-le p short)
    ∙ ap (λ (t : List ℕ). u ++ drop (length u) t) (append-nil (q ++ w))
    ∙ ap (λ (t : List ℕ). u ++ t) (drop_at q w (length u) lq)

pub put_front : (b : List ℕ) (at : ℕ) (u w : List ℕ) (k : ℕ) → k + length w ≤ length b → at + length u ≡ k
    → put (put b k w) at u ≡ put b at (u ++ w)
put_front b at u w k h e =
    let len : ℕ = length u + length w in
    let p = part b at len in
    let lp : length p ≡ len = length_part b at len (omega arith) in
    let y = put p (length u) w in
    let ly : length y ≡ len = length-put p (length u) w (omega (arith, lp)) ∙ lp in
    let is : put b k w ≡ put b at y = ap (λ (j : ℕ). put b j w) (sym e)
    ∙ put-inside b at len (length u) w (omega arith) (omega arith) in
    let b' = put b k w in
    let lb : length b' ≡ length b = length-put b k w h in
    let there : part b' at len ≡ y = ap (λ (t : List ℕ). part t at len) is
    ∙ part_same b at y len (omega arith) ly in
    let z : at ≡ at + 0 = omega arith in
    let lz : length (put y 0 u) ≡ len = length-put y 0 u (omega (arith, ly)) ∙ ly in
    ap (λ (j : ℕ). put b' j u) z
    ∙ put-inside b' at len 0 u (omega (arith, lb)) (omega arith)
    ∙ ap (λ (t : List ℕ). put b' at (put t 0 u)) there
    ∙ put-cover b at [] y (put y 0 u) at (omega (arith, lz)) (omega arith) (omega (arith, ly, lz)) is refl
    ∙ ap (put b at) (both_runs p u w lp)
