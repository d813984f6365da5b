-- A value that is forwarded: its entries, and its slot.
use Prim.Native.Nat.{ℕ, ◌+◌, ◌-◌, ◌≤◌, min}
use native.Mathlib.Omega.{arith}
use mathlib.Core.Path.{◌≡◌, refl, sym, ap, ap₂, ◌∙◌}
use mathlib.Core.Bool.{true, false}
use mathlib.Core.List.{List, [], ◌++◌, append-nil}
use lib.ListN.{length, take, drop, replicate}
use Rattle.octets.specs.Bytes.{part, put}
use Rattle.octets.specs.Loop.{up_to}
use Rattle.octets.proofs.Table.{drop-replicate}
use Rattle.octets.proofs.Test.{true-false}
use Rattle.view.specs.Size.{is_size, nodes}
use Rattle.view.specs.View.{view_bytes}
use Rattle.view.specs.declared.Report.{Report}
use Rattle.view.specs.declared.View.{View}
use Rattle.wire.specs.Layout.{encode, allowed, value_size, message_size}
use Rattle.wire.specs.declared.Message.TheVariants.{Read, ReadAnswer, Write, WriteAnswer, Echo, Value, Good}
use Rattle.wire.proofs.Laws.{lengths}
use Rattle.wire_put.proofs.Allowed.{any-view}
use Rattle.step.specs.Forward.{is_forward}
use Rattle.step.specs.Step.{listed}
use Rattle.step.specs.declared.Sent.{Sent}
use Rattle.step.specs.declared.Sent.TheVariants.{Nothing, One, Two}
use Rattle.step.specs.declared.Outbox.{Outbox}
use Rattle.region.specs.Channel.{slot_size}
use Rattle.block.specs.Block.{receive}
use Rattle.layout.specs.Layout.{on_block}
use Rattle.layout.specs.Slot.{slot_place, slot_from}
use Rattle.outgoing.specs.Entries.{Entry, entries_of, entries, slot}
use Rattle.outgoing.specs.Outgoing.{let_out, shortened, most}
use Rattle.outgoing.specs.Forward.{SlotIs, ReceivedAt}
use Rattle.outgoing.proofs.Laws.{entries-one}
use Rattle.outgoing.specs.declared.Extent.{Extent}
use Rattle.outgoing.proofs.Out.{let-others, shortened-most}
use Rattle.outgoing.proofs.Slot.{slot-put}

-- It goes to each of 1 to n, as far as the entries reach.
pub let-forwarded : (n a c : ℕ) (v : View) (s : Sent) (left : ℕ) (b x : List ℕ) → is_forward s ≡ true
    → SlotIs n v s x
    → let_out n c (take left (entries_of n a v (listed s))) b ≡ up_to (min left n) (λ i. on_block (i + 1)
    (receive c x)) b
let-forwarded n a c v (One (Value t w p)) left b x e is =
    ap (λ (l : List Entry). let_out n c (take left l) b) (entries-one n a v (Value t w p))
    ∙ let-others n a c v (Value t w p) left b refl
    ∙ ap (λ (y : List ℕ). up_to (min left n) (λ i. on_block (i + 1) (receive c y)) b) is
let-forwarded n a c v (One (Read q)) left b x e is = true-false false e refl
let-forwarded n a c v (One (ReadAnswer q t)) left b x e is = true-false false e refl
let-forwarded n a c v (One (Write q t)) left b x e is = true-false false e refl
let-forwarded n a c v (One (WriteAnswer q t)) left b x e is = true-false false e refl
let-forwarded n a c v (One (Echo t)) left b x e is = true-false false e refl
let-forwarded n a c v (One (Good t)) left b x e is = true-false false e refl
let-forwarded n a c v Nothing left b x e is = true-false false e refl
let-forwarded n a c v (Two m k) left b x e is = true-false false e refl

-- Its slot is its bytes, and zeros after them.
padded : (k : ℕ) (e : List ℕ) → put (replicate k 0) 0 e ≡ e ++ replicate (k - length e) 0
unfolding put
padded k e =
    let at : 0 + length e ≡ length e = omega arith in
    ap (λ (j : ℕ). e ++ drop j (replicate {A = ℕ} k 0)) at
    ∙ ap (λ (t : List ℕ). e ++ t) (drop-replicate {A = ℕ} (length e) k 0)

pub value-slot : (n t w : ℕ) (p : Report) (v : View) (e : List ℕ) → is_size n ≡ true → allowed n (Value t w p) e ≡ true
    → slot n (Value t w p) v ≡ encode (Value t w p) e ++ replicate (slot_size - value_size) 0
unfolding message_size
value-slot n t w p v e size ok =
    let m = Value t w p in
    let u = view_bytes n v in
    let same = any-view n m u e refl in
    let long : length (encode m u) ≡ value_size = lengths n m u (same.1 ∙ ok) in
    slot-put n m v size (same.1 ∙ ok) ∙ padded slot_size (encode m u)
    ∙ ap₂ (λ (x : List ℕ) (k : ℕ). x ++ replicate (slot_size - k) 0) same.0 long

-- Where only the handler sends, an event lets out so many entries of its messages.
pub handled-entries : (n a to : ℕ) (v : View) (s : Sent)
    → entries n a (record { to = to; handler = s; reading = Nothing; comparing = Nothing; view = v })
    ≡ entries_of n a v (listed s)
handled-entries n a to v s = ap (entries_of n a v) (append-nil (listed s ++ []) ∙ append-nil (listed s))

pub handled-most : (n a : ℕ) (x : Extent) (v : View) (s : Sent) → 1 ≤ n → n ≤ nodes
    → take (most x) (entries_of n a v (listed s)) ≡ shortened x (entries_of n a v (listed s))
handled-most n a x v s lo hi =
    let o : Outbox = record { to = a; handler = s; reading = Nothing; comparing = Nothing; view = v } in
    let same : entries n a o ≡ entries_of n a v (listed s) = handled-entries n a a v s in
    ap (take (most x)) (sym same) ∙ shortened-most n a x o lo hi ∙ ap (shortened x) same

-- What stands in the slot still stands there.
pub received-still : (n a c : ℕ) (v : View) (s : Sent) (b b' : List ℕ) (from : ℕ)
    → ((i : ℕ) → part b' (slot_place a c i) value_size ≡ part b (slot_place a c i) value_size)
    → ReceivedAt n a c v s b from → ReceivedAt n a c v s b' from
received-still n a c v s b b' from stays r h = ((r h).0, still s (r h).1)
  where
    same : slot_from b from value_size ≡ slot_from b' from value_size
    same = ap (λ (j : ℕ). slot_from b j value_size) (r h).0.1
        ∙ ap (λ (y : List ℕ). y ++ replicate (slot_size - value_size) 0) (sym (stays (r h).0.0))
        ∙ ap (λ (j : ℕ). slot_from b' j value_size) (sym (r h).0.1)

    still : (s : Sent) → SlotIs n v s (slot_from b from value_size) → SlotIs n v s (slot_from b' from value_size)
    still Nothing h = tt
    still (One m) h = h ∙ same
    still (Two m k) h = tt
