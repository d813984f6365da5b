-- A value forwarded from its slot: one node more has it, and the slot is as it was.
use Prim.Native.Nat.{ℕ, ◌+◌, ◌-◌, ◌≤◌}
use native.Mathlib.Omega.{arith}
use mathlib.Core.Path.{◌≡◌, sym, ap, ◌∙◌}
use mathlib.Core.Bool.{Bool, true, false}
use mathlib.Core.List.{List, ◌++◌}
use lib.ListN.{length, take, replicate, length-append, length-replicate}
use lib.Seq.{take_at}
use Rattle.octets.specs.Bytes.{part}
use Rattle.octets.specs.Loop.{up_to}
use Rattle.octets.proofs.Put.{length_part}
use Rattle.octets.proofs.Loop.{up_to-more}
use Rattle.view.specs.Size.{nodes}
use Rattle.view.specs.declared.View.{View}
use Rattle.table.specs.Table.{cells}
use Rattle.record.specs.declared.Node.{Node}
use Rattle.step.specs.Forward.{is_forward}
use Rattle.step.specs.declared.Sent.{Sent}
use Rattle.wire.specs.Layout.{value_size}
use Rattle.region.specs.Channel.{slot_size}
use Rattle.block.specs.Block.{take_off, keep_record, receive}
use Rattle.layout.specs.Layout.{cluster_size, on_block}
use Rattle.layout.specs.Slot.{slot_place, slot_from, IsSlot}
use Rattle.layout.proofs.Stays.{stays-taken, stays-kept, stays-halted, stays-received}
use Rattle.outgoing.specs.Outgoing.{halt_if}
use Rattle.outgoing.specs.Forward.{ReceivedAt}
use Rattle.outgoing.proofs.Forwarded.{received-still}

-- A slot lies within the cluster, and is one of at most sixteen nodes.
module _ {n from : ℕ} (small : n ≤ nodes) (at : IsSlot n from) where
  pub slot-within : (b : List ℕ) → length b ≡ cluster_size n → from + value_size ≤ length b
  slot-within b size = omega (arith, at.sender.0, at.sender.1, at.receiver.0, at.receiver.1, at.place)

  pub slot-any : IsSlot nodes from
  slot-any = record {
    a = at.a;
    c = at.c;
    i = at.i;
    sender = at.sender;
    receiver = (at.receiver.0, omega (arith, at.receiver.1));
    place = at.place;
  }

slot-long : (b : List ℕ) (from : ℕ) → from + value_size ≤ length b → length (slot_from b from value_size) ≡ slot_size
slot-long b from h = simp (length-append, length-replicate, length_part b from value_size h) (omega arith)

slot-front : (b : List ℕ) (from : ℕ) → from + value_size ≤ length b
    → take value_size (slot_from b from value_size) ≡ part b from value_size
slot-front b from h = take_at (part b from value_size) (replicate (slot_size - value_size) 0) value_size
    (length_part b from value_size h)

-- t is b after k nodes have received the value.
module _ (n c k from : ℕ) (small : n ≤ nodes) (lo : 1 ≤ c) (hi : c ≤ n) (at : IsSlot n from) (most : k + 1 ≤ n)
    (b t : List ℕ) (long : length t ≡ cluster_size n) (same : part t from value_size ≡ part b from value_size) where
  alike : slot_from t from value_size ≡ slot_from b from value_size
  alike = ap (λ (u : List ℕ). u ++ replicate (slot_size - value_size) 0) same

  pub one_more : {u : List ℕ} → t ≡ up_to k (λ i. on_block (i + 1) (receive c (slot_from b from value_size))) b
      → u ≡ on_block (k + 1) (receive c (slot_from t from value_size)) t
      → u ≡ up_to (k + 1) (λ i. on_block (i + 1) (receive c (slot_from b from value_size))) b
  one_more e q =
      q ∙ ap (λ (s : List ℕ). on_block (k + 1) (receive c s) t) alike
      ∙ ap (λ (u : List ℕ). on_block (k + 1) (receive c (slot_from b from value_size)) u) e
      ∙ sym (up_to-more k (λ i. on_block (i + 1) (receive c (slot_from b from value_size))) b)

  pub still-there : {u : List ℕ} → u ≡ on_block (k + 1) (receive c (slot_from t from value_size)) t
      → part u from value_size ≡ part b from value_size
  still-there {u} q =
      let s = slot_from t from value_size in
      let within : from + value_size ≤ length t = slot-within small at t long in
      let place = at.place in
      let front : take value_size s ≡ part t (slot_place at.a at.c at.i) value_size =
      slot-front t from within ∙ ap (λ (j : ℕ). part t j value_size) place in
      ap (λ (y : List ℕ). part y from value_size) q
      ∙ ap (λ (j : ℕ). part (on_block (k + 1) (receive c s) t) j value_size) place
      ∙ stays-received at.i value_size (omega arith) at.a at.sender.0 at.sender.1 at.c
      at.receiver.0 t (omega (arith, long, at.receiver.1)) c (k + 1) lo (omega arith) (omega arith)
      (omega (arith, long)) s (slot-long t from within) front
      ∙ ap (λ (j : ℕ). part t j value_size) (sym place) ∙ same

-- Where the handler forwards a value, it stands in a slot of the channel from a to c; and it does so still when the
-- message was taken off, a record was written and the node has stopped.
module _ (n a c : ℕ) (small : n ≤ nodes) (a-lo : 1 ≤ a) (a-hi : a ≤ n) (lo : 1 ≤ c) (hi : c ≤ n) (v : View) (s : Sent)
    (b : List ℕ) (long : length b ≡ cluster_size n) (from : ℕ) (r : ReceivedAt n a c v s b from) where
  pub received-slot : is_forward s ≡ true → IsSlot n from
  received-slot h = record {
    a = a;
    c = c;
    i = (r h).0.0;
    sender = (a-lo, omega arith);
    receiver = (lo, hi);
    place = (r h).0.1;
  }

  pub received-taken : {t : List ℕ} → t ≡ on_block c (take_off a) b → ReceivedAt n a c v s t from
  received-taken {t} e = received-still n a c v s b t from
      (λ i. ap (λ (y : List ℕ). part y (slot_place a c i) value_size) e
      ∙ stays-taken i value_size (omega arith) a a-lo (omega arith) c lo b (omega (arith, long))) r

  pub received-kept : (d : Node) → length d.heard ≡ cells → {t : List ℕ} → t ≡ on_block c (keep_record d) b
      → ReceivedAt n a c v s t from
  received-kept d h {t} e = received-still n a c v s b t from
      (λ i. ap (λ (y : List ℕ). part y (slot_place a c i) value_size) e
      ∙ stays-kept i value_size (omega arith) a a-lo (omega arith) c lo b (omega (arith, long)) d h) r

  pub received-halted : (cut : Bool) → {t : List ℕ} → t ≡ halt_if cut n c b → ReceivedAt n a c v s t from
  received-halted true {t} e = received-still n a c v s b t from
      (λ i. ap (λ (y : List ℕ). part y (slot_place a c i) value_size) e
      ∙ stays-halted i value_size (omega arith) a a-lo (omega arith) c lo b (omega (arith, long)) n small) r
  received-halted false {t} e = received-still n a c v s b t from
      (λ i. ap (λ (y : List ℕ). part y (slot_place a c i) value_size) e) r
