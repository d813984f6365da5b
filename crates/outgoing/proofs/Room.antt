-- The test of refusal 11 before anything is written is the one on the cluster as the event would leave it.
use Prim.Native.Nat.{ℕ, zero, suc, ◌+◌, ◌-◌, ◌%◌, ◌≤◌}
use native.Mathlib.Omega.{arith}
use native.Mathlib.Decide.{ℕ_discrete}
use mathlib.Core.Path.{◌≡◌, refl, sym, ap, ap₂, ◌∙◌}
use mathlib.Core.Bool.{Bool, true, false}
use mathlib.Core.List.{List}
use lib.ListN.{length, get_or, set}
use lib.Seq.{get_or-set_same, get_or-set_other}
use lib.Dec.{leb, ltb, eqb}
use borrow.Author.Tests.{eq-eqb, ne_eqb, ltb-false}
use Rattle.octets.specs.Test.{pick, both}
use Rattle.table.specs.Table.{cells}
use Rattle.view.specs.Size.{nodes}
use Rattle.table.specs.Loop.{either, all}
use Rattle.record.specs.declared.Node.{Node}
use Rattle.region.specs.Channel.{channel_size, capacity, count_of, oldest, pop}
use Rattle.block.specs.Block.{block_size, has_stopped, channel_in, keep_record, take_off, halt}
use Rattle.block.proofs.Changes.{keep_record-length, keep_record-flag, keep_record-channel, take_off-length}
use Rattle.block.proofs.Changes.{take_off-flag}
use Rattle.block.proofs.Changes.{take_off-same, take_off-other, halt-length, halt-stops}
use Rattle.outgoing.specs.Entries.{Entry, go_to}
use Rattle.layout.specs.Layout.{cluster_size, block, stopped, channel, on_block}
use Rattle.layout.proofs.Blocks.{length-block, length-channel, length-on_block, block_same, block-other}
use Rattle.outgoing.specs.Outgoing.{halt_if, room_at, roomy}
use Rattle.outgoing.specs.Room.{room_before, gone_in}

-- The bytes as a step of node c finds them: a delivery has taken off the message from a.
abbrev pub found_in : (took : Bool) (a c : ℕ) → List ℕ → List ℕ
found_in took a c b = pick took (on_block c (take_off a) b) b

-- one message less
count-pop : (t : List ℕ) → length t ≡ channel_size → count_of (pop t) ≡ count_of t - 1
unfolding pop
count-pop t size = go (ltb 0 (count_of t)) refl
  where
    go : (s : Bool) → ltb 0 (count_of t) ≡ s
        → count_of (pick s (set (set t 0 (count_of t - 1)) 1 ((oldest t + 1) % capacity)) t) ≡ count_of t - 1
    go true e =
        get_or-set_other (set t 0 (count_of t - 1)) 1 0 ((oldest t + 1) % capacity) 0 (λ q. omega arith)
        ∙ get_or-set_same t 0 (count_of t - 1) 0 (omega arith)
    go false e = omega (arith, ltb-false 0 (count_of t) e)

all_same : (n : ℕ) (p q : ℕ → Bool) → ((k : ℕ) → 1 ≤ k → k ≤ n → p k ≡ q k) → all n p ≡ all n q
unfolding all
all_same zero p q h = refl
all_same (suc n) p q h =
    ap₂ both (h (suc n) (omega arith) (omega arith)) (all_same n p q (λ k i j. h k i (omega arith)))

module _ (n a c : ℕ) (b : List ℕ) (most : n ≤ nodes) (a-lo : 1 ≤ a) (a-hi : a ≤ n) (lo : 1 ≤ c) (hi : c ≤ n)
    (size : length b ≡ cluster_size n) (d : Node) (heard : length d.heard ≡ cells) where
  own : length (block b c) ≡ block_size
  own = length-block b c lo (omega arith)

  -- the block of c, and the others, as the step finds them
  found-size : (took : Bool) → length (found_in took a c b) ≡ cluster_size n
  found-size true = length-on_block b c lo (omega arith) (take_off a)
      (take_off-length (block b c) own a a-lo (omega arith)) ∙ size
  found-size false = size

  found-other : (took : Bool) (k : ℕ) → 1 ≤ k → (k ≡ c → ⊥) → block (found_in took a c b) k ≡ block b k
  found-other true k l e =
      block-other b c lo (omega arith) (take_off a) (take_off-length (block b c) own a a-lo (omega arith)) k l e
  found-other false k l e = refl

  found-own : (took : Bool) → block (found_in took a c b) c ≡ pick took (take_off a (block b c)) (block b c)
  found-own true = block_same b c lo (omega arith) (take_off a) (take_off-length (block b c) own a a-lo (omega arith))
  found-own false = refl

  found-flag : (took : Bool) → get_or (block (found_in took a c b) c) 0 0 ≡ get_or (block b c) 0 0
  found-flag true =
      ap (λ (t : List ℕ). get_or t 0 0) (found-own true) ∙ take_off-flag (block b c) own a a-lo (omega arith)
  found-flag false = refl

  found-count : (took : Bool) → count_of (channel_in (block (found_in took a c b) c) c)
      ≡ count_of (channel b c c) - gone_in took a c
  found-count false = omega arith
  found-count true = ap (λ (t : List ℕ). count_of (channel_in t c)) (found-own true)
      ∙ elim (ℕ_discrete a c) [ yes e ↦ here e | no e ↦ away e ]
    where
      here : a ≡ c → count_of (channel_in (take_off a (block b c)) c) ≡ count_of (channel b c c) - pick (eqb a c) 1 0
      here e =
          ap (λ (j : ℕ). count_of (channel_in (take_off j (block b c)) c)) e
          ∙ ap (λ (t : List ℕ). count_of t) (take_off-same (block b c) own c lo (omega arith))
          ∙ count-pop (channel b c c) (length-channel b c c lo (omega arith) lo (omega arith))
          ∙ sym (ap (λ (t : Bool). count_of (channel b c c) - pick t 1 0) (eq-eqb a c e))

      away : (a ≡ c → ⊥) → count_of (channel_in (take_off a (block b c)) c) ≡ count_of (channel b c c) - pick (eqb a c)
          1 0
      away e =
          ap (λ (t : List ℕ). count_of t) (take_off-other (block b c) own a a-lo (omega arith) c lo (λ q. e (sym q)))
          ∙ sym (ap (λ (t : Bool). count_of (channel b c c) - pick t 1 0) (ne_eqb a c e)
          ∙ zero-less (count_of (channel b c c)))
        where
          zero-less : (k : ℕ) → k - 0 ≡ k
          zero-less k = omega arith

  -- after the record was written, and the stop
  module _ (took : Bool) where
    found : List ℕ
    found = found_in took a c b

    found-length : length (block found c) ≡ block_size
    unfolding found
    found-length = length-block found c lo (omega (arith, found-size took))

    kept-length : length (keep_record d (block found c)) ≡ block_size
    kept-length = keep_record-length (block found c) found-length d heard

    wrote : List ℕ
    wrote = on_block c (keep_record d) found

    wrote-size : length wrote ≡ cluster_size n
    unfolding wrote found
    wrote-size = length-on_block found c lo (omega (arith, found-size took)) (keep_record d) kept-length
        ∙ found-size took

    wrote-own : block wrote c ≡ keep_record d (block found c)
    unfolding wrote found
    wrote-own = block_same found c lo (omega (arith, found-size took)) (keep_record d) kept-length

    wrote-other : (k : ℕ) → 1 ≤ k → (k ≡ c → ⊥) → block wrote k ≡ block b k
    unfolding wrote found
    wrote-other k l e =
        block-other found c lo (omega (arith, found-size took)) (keep_record d) kept-length k l e
        ∙ found-other took k l e

    wrote-flag : has_stopped (block wrote c) ≡ stopped b c
    unfolding wrote found
    wrote-flag =
        ap (λ (t : List ℕ). has_stopped t) wrote-own
        ∙ ap (λ (x : ℕ). ltb 0 x) (keep_record-flag (block found c) found-length d heard ∙ found-flag took)

    wrote_count : count_of (channel wrote c c) ≡ count_of (channel b c c) - gone_in took a c
    unfolding wrote found
    wrote_count =
        ap (λ (t : List ℕ). count_of (channel_in t c)) wrote-own
        ∙ ap (λ (t : List ℕ). count_of t) (keep_record-channel (block found c) found-length d heard c)
        ∙ found-count took

    halted-length : length (halt n (block wrote c)) ≡ block_size
    halted-length = halt-length (block wrote c) (length-block wrote c lo (omega (arith, wrote-size))) n most

    -- at c itself
    own_room : (cut : Bool) (l : List Entry) → room_before cut (gone_in took a c) c l b c
        ≡ room_at c l (halt_if cut n c wrote) c
    unfolding room_before
    own_room true l =
        rw (eq-eqb c c refl) (always (stopped b c))
        ∙ sym (ap (λ (t : Bool). either t (leb (count_of (channel (on_block c (halt n) wrote) c c) + go_to c l)
        capacity))
        (ap (λ (t : List ℕ). has_stopped t) (block_same wrote c lo (omega (arith, wrote-size)) (halt n) halted-length)
        ∙ halt-stops (block wrote c) (length-block wrote c lo (omega (arith, wrote-size))) n most))
      where
        always : (t : Bool) → either t true ≡ true
        always true = refl
        always false = refl
    own_room false l =
        rw (eq-eqb c c refl)
        (sym (ap₂ (λ (t : Bool) (w : ℕ). either t (leb (w + go_to c l) capacity)) wrote-flag wrote_count))

    -- at the others
    other_block : (cut : Bool) (k : ℕ) → 1 ≤ k → (k ≡ c → ⊥) → block (halt_if cut n c wrote) k ≡ block b k
    other_block true k l e =
        block-other wrote c lo (omega (arith, wrote-size)) (halt n) halted-length k l e ∙ wrote-other k l e
    other_block false k l e = wrote-other k l e

    other-room : (cut : Bool) (l : List Entry) (k : ℕ) → 1 ≤ k → (k ≡ c → ⊥)
        → room_before cut (gone_in took a c) c l b k ≡ room_at c l (halt_if cut n c wrote) k
    unfolding room_before
    other-room cut l k i e =
        rw (ne_eqb k c e)
        (sym (ap (λ (t : List ℕ). either (has_stopped t) (leb (count_of (channel_in t c) + go_to k l) capacity))
        (other_block cut k i e)))

    pub room-before : (cut : Bool) (l : List Entry) → all n (room_before cut (gone_in took a c) c l b)
        ≡ roomy n c l (halt_if cut n c (on_block c (keep_record d) (found_in took a c b)))
    unfolding roomy wrote found
    room-before cut l =
        all_same n (room_before cut (gone_in took a c) c l b) (room_at c l (halt_if cut n c wrote))
        (λ k i j. elim (ℕ_discrete k c) [
          | yes e ↦ ap (λ (m : ℕ). room_before cut (gone_in took a c) c l b m) e ∙ own_room cut l
              ∙ ap (λ (m : ℕ). room_at c l (halt_if cut n c wrote) m) (sym e)
          | no e ↦ other-room cut l k i e
        ])
