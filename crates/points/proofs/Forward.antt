-- What a cluster forwards is the value message received, byte for byte.
use Prim.Native.Nat.{ℕ, ◌-◌}
use mathlib.Core.Path.{◌≡◌, sym, ap, ap₂, ◌∙◌}
use mathlib.Core.Bool.{Bool, true, false}
use mathlib.Core.List.{List, ◌∷◌, ◌++◌}
use lib.ListN.{take, replicate}
use Rattle.octets.specs.Answer.{returned}
use Rattle.octets.specs.Test.{pick}
use Rattle.view.specs.View.{view_of}
use Rattle.view.specs.declared.Report.{Report}
use Rattle.view.specs.declared.View.{View}
use Rattle.wire.specs.Codec.{front, view_at}
use Rattle.wire.specs.Layout.{message_size}
use Rattle.wire.specs.declared.Message.TheVariants.{Value}
use Rattle.wire.proofs.Laws.{lengths}
use Rattle.wire.proofs.RoundTrip.{front-only}
use Rattle.table.specs.Loop.{numbered}
use Rattle.record.specs.declared.Node.{Node}
use Rattle.step.specs.Move.{message_step}
use Rattle.step.specs.React.{is_new, react}
use Rattle.step.specs.Step.{listed}
use Rattle.step.specs.declared.Outbox.{Outbox}
use Rattle.step.specs.declared.Sent.{Sent}
use Rattle.step.specs.declared.Sent.TheVariants.{Nothing, One}
use Rattle.step.proofs.Exclusive.{handler-first}
use Rattle.region.specs.Channel.{slot_size, first}
use Rattle.block.specs.Block.{take_off}
use Rattle.outgoing.specs.Entries.{Entry, entry, addressed, entries_of, entries, slot}
use Rattle.outgoing.specs.Outgoing.{shortened}
use Rattle.outgoing.specs.declared.Extent.{Extent}
use Rattle.outgoing.proofs.Forwarded.{value-slot}
use Rattle.layout.specs.Layout.{stated, faults_in, node, channel, on_block}
use Rattle.events.specs.Event.{deliver}
use Rattle.points.specs.Forward.{slots_on, slots_to, past, moved_on, operation_sent, Handed, Forwards}
use Rattle.points.proofs.Delivered.{sent_is, still-stands, holds-slots}
use Rattle.points.proofs.Slots.{slots-first}
use Rattle.points.proofs.ValueHad.{value-waits}

-- ---- what the handler of a value sends

module _ (n f : ℕ) (d : Node) (a t w : ℕ) (p : Report) (v : View) where
  abbrev outbox : Outbox
  outbox = (message_step f d a (Value t w p) v).outbox

  handles : {y : Bool} → is_new d w t ≡ y → outbox.handler ≡ pick y (One (Value t w p)) Nothing
  unfolding message_step react
  handles e = handler-first f (react d a (Value t w p) v) ∙ ap (λ y. pick y (One (Value t w p)) Nothing) e

  abbrev listed_with : Sent → List Entry
  listed_with h = entries_of n a outbox.view (listed h ++ listed outbox.reading ++ listed outbox.comparing)

  sends-new : is_new d w t ≡ true
      → entries n a outbox ≡ numbered n (entry outbox.view (Value t w p)) ++ moved_on n a outbox
  unfolding entries_of addressed
  sends-new new = ap listed_with (handles new)

  sends-old : is_new d w t ≡ false → entries n a outbox ≡ moved_on n a outbox
  sends-old old = ap listed_with (handles old)

-- The slot of a value that was read is what was read, and zeros.
slot_read : (n : ℕ) (s : List ℕ) (t w : ℕ) (p : Report) (k : ℕ) (v : View) → front n s ≡ returned (Value t w p, k)
    → slot n (Value t w p) v ≡ take k s ++ replicate (slot_size - k) 0
unfolding message_size
slot_read n s t w p k v e =
    let F = front-only n s (Value t w p) k e in
    value-slot n t w p v (view_at n s) F.sized F.allowed-is
    ∙ ap₂ (λ z j. z ++ replicate (slot_size - j) 0) (sym F.bytes)
    (sym (F.long ∙ lengths n (Value t w p) (view_at n s) F.allowed-is))

-- ---- the request

module _ (b : List ℕ) (a c : ℕ) (x : Extent) (t w : ℕ) (p : Report) (k : ℕ) (T : Handed b a c x (Value t w p) k) where
  abbrev beside : View
  beside = view_of (stated b) (view_at (stated b) (first (channel b a c)))

  sent-new : is_new (node b c) w t ≡ true → (deliver a c x b).sent
      ≡ shortened x (numbered (stated b)
      (entry (message_step (faults_in b) (node b c) a (Value t w p) beside).outbox.view (Value t w p))
      ++ operation_sent b a c (Value t w p))
  sent-new new = sent_is b a c x (Value t w p) k T
      ∙ ap (shortened x) (sends-new (stated b) (faults_in b) (node b c) a t w p beside new)

  sent-old : is_new (node b c) w t ≡ false → (deliver a c x b).sent ≡ shortened x (operation_sent b a c (Value t w p))
  sent-old old = sent_is b a c x (Value t w p) k T
      ∙ ap (shortened x) (sends-old (stated b) (faults_in b) (node b c) a t w p beside old)

pub forwards : Forwards
forwards = record {
  forwarded = λ b a c x t w p k T new d o r up.
      let v = (message_step (faults_in b) (node b c) a (Value t w p) (beside b a c x t w p k T)).outbox.view in
      holds-slots b a c x (Value t w p) k T d o up
      ∙ ap (λ l. slots_on (on_block c (take_off a) b) c d ++ l)
      (ap (slots_to (stated b) d) (sent-new b a c x t w p k T new)
      ∙ slots-first (stated b) d v (Value t w p) x (operation_sent b a c (Value t w p)) o r
      ∙ ap (λ s. s ∷ slots_to (stated b) d (shortened (past (stated b) x) (operation_sent b a c (Value t w p))))
      (slot_read (stated b) (first (channel b a c)) t w p k v T.says));
  not_new = sent-old;
  holds = holds-slots;
  stands = still-stands;
  met = λ n f a c x t w p new size half from at may ok. value-waits n f size half a c from at t w p ok x may new;
}
