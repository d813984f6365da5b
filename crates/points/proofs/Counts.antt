-- How many messages wait on the channels of a cluster after each change of its bytes.
use Prim.Native.Nat.{ℕ, zero, suc, ◌+◌, ◌≤◌, ◌<◌}
use native.Mathlib.Omega.{arith}
use native.Mathlib.Decide.{ℕ_discrete, dec_lt}
use mathlib.Core.Path.{◌≡◌, refl, sym, ap, ◌∙◌, subst}
use mathlib.Core.Bool.{Bool, true, false}
use mathlib.Core.List.{List, [], ◌∷◌, ◌++◌}
use lib.ListN.{length, take, replicate, length-replicate}
use lib.Seq.{get_or-set_same}
use lib.Dec.{leb, ltb, eqb}
use borrow.Author.Tests.{lt-ltb, le-ltb, leb-true, eq-eqb, ne_eqb}
use Rattle.octets.specs.Answer.{returned, refused}
use Rattle.octets.specs.Bytes.{put}
use Rattle.octets.specs.Loop.{each}
use Rattle.octets.specs.Test.{pick}
use Rattle.octets.proofs.Put.{length-put}
use Rattle.table.specs.Table.{cells}
use Rattle.view.specs.Size.{is_size}
use Rattle.view.specs.View.{view_bytes}
use Rattle.view.specs.declared.View.{View}
use Rattle.wire.specs.Codec.{answer, after}
use Rattle.wire.specs.Layout.{encode, allowed}
use Rattle.wire.specs.declared.Message.{Message}
use Rattle.table.specs.Loop.{numbered}
use Rattle.record.specs.declared.Node.{Node}
use Rattle.region.specs.Channel.{capacity, channel_size, slot_size, slot_at, oldest, count_of, push, pop}
use Rattle.region.proofs.Waiting.{waiting-pop, length-waiting}
use Rattle.block.specs.Block.{block_size, has_stopped, channel_in, keep_record, take_off, receive, halt}
use Rattle.block.proofs.Changes.{keep_record-length, keep_record-channel, take_off-length, take_off-same}
use Rattle.block.proofs.Changes.{take_off-other}
use Rattle.block.proofs.Changes.{receive-length, receive-flag, receive-same, receive-stopped, receive_other}
use Rattle.outgoing.specs.Entries.{Entry, entry, is_answer, addressed, entries_of, go_to, slot}
use Rattle.layout.specs.Layout.{cluster_size, block, stopped, channel, on_block}
use Rattle.layout.proofs.Blocks.{length-block, length-channel, length-on_block, block_same, block-other}
use Rattle.outgoing.specs.Outgoing.{let_out}
use Rattle.history.specs.Order.{OneTo}
use Rattle.mirror.proofs.Halted.{halted}

-- ---- one channel

count-push : (m t : List ℕ) → length t ≡ channel_size → length m ≤ slot_size → count_of t < capacity
    → count_of (push m t) ≡ count_of t + 1
unfolding push
count-push m t size short room =
    let long : length (put t (slot_at (oldest t + count_of t)) m) ≡ channel_size
    = length-put t (slot_at (oldest t + count_of t)) m (omega arith) ∙ size in
    rw (lt-ltb (count_of t) capacity room)
    (get_or-set_same (put t (slot_at (oldest t + count_of t)) m) 0 (count_of t + 1) 0 (omega arith))

push-most : (m t : List ℕ) → length t ≡ channel_size → length m ≤ slot_size → count_of t ≤ capacity
    → count_of (push m t) ≤ capacity
unfolding push
push-most m t size short h = elim (dec_lt (count_of t) capacity) [
  | yes l ↦ omega (arith, count-push m t size short l)
  | no l ↦ rw (le-ltb (count_of t) capacity (omega arith)) h
]

pub count-pop : (t : List ℕ) → length t ≡ channel_size → 0 < count_of t → count_of (pop t) + 1 ≡ count_of t
count-pop t size some = omega (
  arith,
  ap length (waiting-pop (λ s. s) t size some),
  length-waiting (λ s. s) t,
  length-waiting (λ s. s) (pop t),
)

-- The slot of any message.
pub slot-size : (n : ℕ) (m : Message) (v : View) → length (slot n m v) ≡ slot_size
unfolding slot answer
slot-size n m v = go (is_size n) (allowed n m (view_bytes n v)) (leb (length e) slot_size) refl
  where
    e : List ℕ
    e = encode m (view_bytes n v)

    zeros : length {A = ℕ} (replicate slot_size 0) ≡ slot_size
    zeros = length-replicate {A = ℕ} slot_size 0

    go : (s a l : Bool) → leb (length e) slot_size ≡ l → length (after
        (pick s (pick a (pick l (returned (length e)) (refused 12)) (refused 7)) (refused 1)) e (replicate slot_size 0))
        ≡ slot_size
    go true true true h = length-put (replicate slot_size 0) 0 e
        (omega (arith, leb-true (length e) slot_size h, length-replicate {A = ℕ} slot_size 0)) ∙ zeros
    go true true false h = zeros
    go true false l h = zeros
    go false a l h = zeros

pub short : (n : ℕ) (m : Message) (v : View) → length (slot n m v) ≤ slot_size
short n m v = omega (arith, slot-size n m v)

-- ---- the entries of a step go to the nodes

abbrev pub ToNodes : ℕ → List Entry → Type 0
ToNodes n [] = Unit {0}
ToNodes n (e ∷ l) = OneTo n e.to × ToNodes n l

to-append : (n : ℕ) (k l : List Entry) → ToNodes n k → ToNodes n l → ToNodes n (k ++ l)
to-append n [] l g h = h
to-append n (e ∷ k) l (o, g) h = (o, to-append n k l g h)

pub to_take : (n m : ℕ) (l : List Entry) → ToNodes n l → ToNodes n (take m l)
to_take n zero l h = tt
to_take n (suc m) [] h = tt
to_take n (suc m) (e ∷ l) (o, h) = (o, to_take n m l h)

to-numbered : (n k : ℕ) → k ≤ n → (v : View) (m : Message) → ToNodes n (numbered k (entry v m))
unfolding numbered
to-numbered n zero h v m = tt
to-numbered n (suc k) h v m =
    to-append n (numbered k (entry v m)) (entry v m (suc k) ∷ []) (to-numbered n k (omega arith) v m)
    ((omega arith, omega arith), tt)

pub to-nodes : (n a : ℕ) → OneTo n a → (v : View) (ms : List Message) → ToNodes n (entries_of n a v ms)
unfolding entries_of addressed
to-nodes n a o v [] = tt
to-nodes n a o v (m ∷ ms) = to-append n (addressed n a v m) (entries_of n a v ms) (go (is_answer m))
    (to-nodes n a o v ms)
  where
    go : (t : Bool) → ToNodes n (pick t (entry v m a ∷ []) (numbered n (entry v m)))
    go true = (o, tt)
    go false = to-numbered n n (omega arith) v m

-- ---- the bytes of a cluster

module _ (n : ℕ) (small : n ≤ 16) where
  -- Bytes of the length for n in which no channel holds more than it can.
  pub record Held (t : List ℕ) : Type 0 where
    pub long : length t ≡ cluster_size n
    pub most : (a k : ℕ) → OneTo n a → OneTo n k → count_of (channel t a k) ≤ capacity

  -- A change of the block of node d.
  module _ {t : List ℕ} (H : Held t) (d : ℕ) (o : OneTo n d) where
    there : cluster_size d ≤ length t
    there = omega (arith, H.long)

    pub own : length (block t d) ≡ block_size
    own = length-block t d o.0 there

    pub size_of : (a : ℕ) → OneTo n a → length (channel t a d) ≡ channel_size
    size_of a p = length-channel t a d p.0 (omega arith) o.0 there

    module _ (f : List ℕ → List ℕ) (same : length (f (block t d)) ≡ block_size) where
      pub on_same : block (on_block d f t) d ≡ f (block t d)
      on_same = block_same t d o.0 there f same

      pub on-other : (k : ℕ) → OneTo n k → (k ≡ d → ⊥) → block (on_block d f t) k ≡ block t k
      on-other k q e = block-other t d o.0 there f same k q.0 e

      held_on : ((a : ℕ) → OneTo n a → count_of (channel_in (f (block t d)) a) ≤ capacity) → Held (on_block d f t)
      held_on h = record {
        long = length-on_block t d o.0 there f same ∙ H.long;
        most = λ a k p q. elim (ℕ_discrete k d) [
          | yes e ↦ rw (e, on_same) (h a p)
          | no e ↦ rw (on-other k q e) (H.most a k p q)
        ];
      }

    pub held-keep_record : (r : Node) → length r.heard ≡ cells → Held (on_block d (keep_record r) t)
    held-keep_record r h = held_on (keep_record r) (keep_record-length (block t d) own r h)
        (λ a p. rw (keep_record-channel (block t d) own r h a) (H.most a d p o))

    pub held-take : (a : ℕ) → OneTo n a → 0 < count_of (channel t a d) → Held (on_block d (take_off a) t)
    held-take a p some = held_on (take_off a) (take_off-length (block t d) own a p.0 (omega arith))
        (λ k q. elim (ℕ_discrete k a) [
          | yes e ↦ rw (e, take_off-same (block t d) own a p.0 (omega arith))
              (omega (arith, count-pop (channel t a d) (size_of a p) some, H.most a d p o))
          | no e ↦ rw (take_off-other (block t d) own a p.0 (omega arith) k q.0 e) (H.most k d q o)
        ])

    pub held-halt : Held (on_block d (halt n) t)
    held-halt = let h = halted (λ s. s) (block t d) own n small in
        held_on (halt n) h.size (λ a (lo, hi). omega (
          arith,
          length-waiting (λ s. s) (channel_in (halt n (block t d)) a),
          ap length (h.empty a lo hi),
        ))

    -- A message from c comes in, unless d has stopped.
    module _ (c : ℕ) (p : OneTo n c) (m : List ℕ) (fits : length m ≤ slot_size) where
      pub in_size : length (receive c m (block t d)) ≡ block_size
      in_size = receive-length (block t d) own c p.0 (omega arith) m fits

      pub held-receive : Held (on_block d (receive c m) t)
      held-receive = held_on (receive c m) in_size (λ k q. go k q (stopped t d) refl (ℕ_discrete k c))
        where
          go : (k : ℕ) → OneTo n k → (y : Bool) → stopped t d ≡ y → Dec (k ≡ c)
              → count_of (channel_in (receive c m (block t d)) k) ≤ capacity
          go k q true e z = rw (receive-stopped (block t d) own c p.0 (omega arith) m fits e) (H.most k d q o)
          go k q false e (yes z) = rw (z, receive-same (block t d) own c p.0 (omega arith) m fits e)
              (push-most m (channel t c d) (size_of c p) fits (H.most c d p o))
          go k q false e (no z) = rw (receive_other (block t d) own c p.0 (omega arith) m fits k q.0 z)
              (H.most k d q o)

  -- Node k stands, and w messages wait for it from c.
  module _ (c : ℕ) (p : OneTo n c) where
    pub record Waits (t : List ℕ) (k w : ℕ) : Type 0 where
      pub stands : stopped t k ≡ false
      pub holds : count_of (channel t c k) ≡ w

    pub waits-here : {t : List ℕ} (H : Held t) (m : List ℕ) → length m ≤ slot_size → (k w : ℕ) (q : OneTo n k)
        → Waits t k w → w < capacity → Waits (on_block k (receive c m) t) k (w + 1)
    waits-here {t} H m fits k w q W l =
        let same = on_same H k q (receive c m) (in_size H k q c p m fits) in
        let room : count_of (channel t c k) < capacity = omega (arith, W.holds) in
        record {
          stands = ap has_stopped same ∙ ap (ltb 0) (receive-flag (block t k) (own H k q) c p.0 (omega arith) m fits)
              ∙ W.stands;
          holds = ap (λ x. count_of (channel_in x c)) same
              ∙ ap count_of (receive-same (block t k) (own H k q) c p.0 (omega arith) m fits W.stands)
              ∙ count-push m (channel t c k) (size_of H k q c p) fits room ∙ ap (λ x. x + 1) W.holds;
        }

    pub waits_there : {t : List ℕ} (H : Held t) (m : List ℕ) → length m ≤ slot_size → (d : ℕ) (o : OneTo n d) (k w : ℕ)
        → OneTo n k → (k ≡ d → ⊥) → Waits t k w → Waits (on_block d (receive c m) t) k w
    waits_there H m fits d o k w q e W =
        let same = on-other H d o (receive c m) (in_size H d o c p m fits) k q e in
        record { stands = ap has_stopped same ∙ W.stands; holds = ap (λ x. count_of (channel_in x c)) same ∙ W.holds }

    -- All entries are let out.
    pub held_out : (l : List Entry) → ToNodes n l → {t : List ℕ} → Held t → Held (let_out n c l t)
    unfolding let_out each
    held_out [] h H = H
    held_out (e ∷ l) (o, h) H =
        held_out l h (held-receive H e.to o c p (slot n e.message e.view) (short n e.message e.view))

    pub waits-out : (l : List Entry) → ToNodes n l → {t : List ℕ} → Held t → (k w : ℕ) → OneTo n k → Waits t k w
        → w + go_to k l ≤ capacity → Waits (let_out n c l t) k (w + go_to k l)
    unfolding let_out each go_to
    waits-out [] h {t} H k w q W room = let e : w ≡ w + 0 = omega arith in subst (Waits t k) e W
    waits-out (x ∷ l) (o, h) {t} H k w q W room = elim (ℕ_discrete x.to k) [
      | yes e ↦
          let z : eqb x.to k ≡ true = eq-eqb x.to k e in
          let room' : w + (go_to k l + 1) ≤ capacity = rw z at room in
          let f : w + 1 + go_to k l ≡ w + (go_to k l + 1) = omega arith in
          rw z (subst (Waits (let_out n c l next) k) f (waits-out l h H' k (w + 1) q
          (subst (λ d. Waits (on_block d (receive c s) t) k (w + 1)) (sym e)
          (waits-here H s fits k w q W (omega arith))) (omega arith)))
      | no e ↦
          let z : eqb x.to k ≡ false = ne_eqb x.to k e in
          let room' : w + go_to k l ≤ capacity = rw z at room in
          rw z (waits-out l h H' k w q (waits_there H s fits x.to o k w q (λ y. e (sym y)) W) room')
    ]
      where
        s : List ℕ
        s = slot n x.message x.view

        fits : length s ≤ slot_size
        fits = short n x.message x.view

        next : List ℕ
        next = on_block x.to (receive c s) t

        H' : Held next
        H' = held-receive H x.to o c p s fits
