-- What a delivery sends, and one that is stepped where the record lies. The message is m, the oldest from a to c in
-- bytes b; t is the bytes when it was taken off and handled, y what the handler sends.
use Prim.Native.Nat.{ℕ, ◌+◌, ◌-◌, ◌<◌, ◌≤◌}
use native.Mathlib.Omega.{arith}
use mathlib.Core.Path.{◌≡◌, refl, sym, ap, ap₂, ◌∙◌, subst}
use mathlib.Core.Bool.{Bool, true, false}
use mathlib.Core.List.{List, [], ◌++◌, append-nil}
use lib.Dec.{ltb}
use lib.ListN.{length, take, replicate}
use Rattle.octets.specs.Answer.{returned}
use Rattle.octets.specs.Bytes.{part, put}
use Rattle.octets.proofs.Put.{part-part}
use Rattle.octets.proofs.Test.{true-false}
use Rattle.view.specs.Size.{limit, nodes}
use Rattle.view.specs.View.{no_view, view_of}
use Rattle.view.specs.declared.Report.{Report}
use Rattle.view.specs.declared.View.{View}
use Rattle.wire.specs.Codec.{front, view_at}
use Rattle.wire.specs.Layout.{value_size, message_size}
use Rattle.wire.specs.declared.Message.{Message}
use Rattle.wire.specs.declared.Message.TheVariants.{Read, ReadAnswer, Write, WriteAnswer, Echo, Value, Good}
use Rattle.wire.proofs.Laws.{lengths}
use Rattle.wire.proofs.RoundTrip.{front-only}
use Rattle.table.specs.Table.{cells}
use Rattle.record.specs.Usable.{usable}
use Rattle.record.specs.declared.Node.{Node}
use Rattle.step.specs.Allowed.{lawful}
use Rattle.step.specs.Claims.{AllLawful}
use Rattle.step.specs.Move.{move_on, message_step}
use Rattle.step.specs.React.{react, is_new}
use Rattle.step.specs.Step.{listed, messages, started}
use Rattle.step.specs.declared.Sent.{Sent}
use Rattle.step.specs.declared.Step.{Step}
use Rattle.step.proofs.Exclusive.{handler-first}
use Rattle.step.proofs.Numbers.{on-pick}
use Rattle.step.proofs.Theorems.{message-lawful}
use Rattle.region.specs.Channel.{slot_size, slot_at, oldest, first}
use Rattle.region.specs.Record.{record_size, record_bytes}
use Rattle.region.proofs.Back.{Sized, sized-view, sized_of}
use Rattle.region.proofs.Saved.{length-record_bytes}
use Rattle.block.specs.Block.{record_in, keep_record, take_off}
use Rattle.block.proofs.Changes.{take_off-length}
use Rattle.react_bytes.proofs.Handling.{sized-react, reacted, reacted-step}
use Rattle.step_bytes.specs.Moved.{effect, followed, rests, plan_tag, Leads}
use Rattle.step_bytes.specs.declared.Effect.{Effect}
use Rattle.step_bytes.specs.declared.Plan.{Plan}
use Rattle.step_bytes.specs.declared.Plan.TheVariants.{Rest, Read as PlanRead, Compare, Agree, Borrow}
use Rattle.step_bytes.proofs.Moved.{sized-moved, long_of}
use Rattle.step_bytes.proofs.Planned.{can-plan, can-follow}
use Rattle.layout.specs.Layout.{cluster_size, faults_in, block, node, channel, on_block}
use Rattle.layout.specs.Slot.{slot_place, slot_from}
use Rattle.layout.proofs.Blocks.{length-block, length-on_block}
use Rattle.layout.proofs.Received.{slot-in}
use Rattle.outgoing.specs.Entries.{Entry, entries_of, entries, slot}
use Rattle.outgoing.specs.Forward.{ReceivedAt}
use Rattle.outgoing.specs.Outgoing.{shortened, is_cut, halt_if, let_out, has_room, released}
use Rattle.outgoing.specs.Room.{spare}
use Rattle.outgoing.specs.declared.Extent.{Extent}
use Rattle.outgoing.proofs.Forwarded.{value-slot, handled-entries}
use Rattle.outgoing.proofs.Spare.{spare-room}
use Rattle.release.proofs.Passed.{received-taken, received-kept}
use Rattle.events.specs.Ready.{Ready}
use Rattle.cluster.specs.First.{record_at, react_to, Oldest}
use Rattle.cluster.proofs.InPlace.{record-put, length-there, record-over, record-kept}

-- ---- the value that a handler forwards stands in the slot that it came in

-- a part that is not one value alone
none : {X : Type 0} → ◌≡◌ {A = Bool} false true → X
none h = true-false false h refl

module _ (n a c : ℕ) (b : List ℕ) (from i : ℕ) (at : from ≡ slot_place a c i) (v : View) where
  abbrev Holds : Sent → Type 0
  Holds s = ReceivedAt n a c v s b from

  holds : (d : Node) (s : ℕ) (m : Message) (w : View)
      → ((t x : ℕ) (p : Report) → m ≡ Value t x p → slot n (Value t x p) v ≡ slot_from b from value_size)
      → Holds (react d s m w).outbox.handler
  unfolding react
  holds d s (Read q) w is = none
  holds d s (ReadAnswer q t) w is = none
  holds d s (Write q t) w is = on-pick Holds (ltb d.maxtag t) _ _ (λ z. none) (λ z. none)
  holds d s (WriteAnswer q t) w is = none
  holds d s (Echo t) w is = on-pick Holds (ltb d.maxtag t) _ _ (λ z. none) (λ z. none)
  holds d s (Value t x p) w is = on-pick Holds (is_new d x t) _ _ (λ z h. ((i, at), is t x p refl)) (λ z. none)
  holds d s (Good t) w is = none

-- the front of the slot in which the oldest message lies
first-front : (b : List ℕ) (a c : ℕ) → 1 ≤ a → a ≤ nodes
    → part b (slot_place a c (oldest (channel b a c))) value_size ≡ take value_size (first (channel b a c))
unfolding part
first-front b a c lo hi =
    let t = channel b a c in
    let at = slot_at (oldest t) in
    let z : at + 0 ≡ at = omega arith in
    slot-in b a c lo hi (oldest t) value_size (omega arith)
    ∙ sym (part-part t at slot_size 0 value_size (omega arith) ∙ ap (λ (k : ℕ). part t k value_size) z)

-- ---- the step of a message

module _ (n a c : ℕ) (m : Message) (b : List ℕ) (h : Ready n a c b) where
  abbrev pub at : ℕ
  at = slot_place a c (oldest (channel b a c))

  abbrev pub view : View
  view = view_of n (view_at n (first (channel b a c)))

  abbrev pub step : Step
  step = message_step (faults_in b) (node b c) a m view

  abbrev pub taken : List ℕ
  taken = on_block c (take_off a) b

  a-high : a ≤ nodes
  a-high = omega (arith, h.from-high, h.small)

  c-high : c ≤ nodes
  c-high = omega (arith, h.high, h.small)

  there : cluster_size c ≤ length b
  there = omega (arith, h.long, h.high)

  taken-long : length taken ≡ length b
  taken-long = length-on_block b c h.low there (take_off a)
      (take_off-length (block b c) (length-block b c h.low there) a h.from_low a-high)

  there-taken : cluster_size c ≤ length taken
  there-taken = omega (arith, there, taken-long)

  sized : Sized view
  sized = sized-view n (view_at n (first (channel b a c))) h.small

  handled-heard : length (react_to n a c m b).node.heard ≡ cells
  handled-heard = (sized-react (node b c) (sized_of (record_in (block b c))) a m view sized).heard

  handled-long : length (record_bytes (react_to n a c m b).node) ≡ record_size
  handled-long = length-record_bytes (react_to n a c m b).node handled-heard

  -- all that it sends is lawful
  pub step-lawful : lawful n m view ≡ true → AllLawful n step.outbox.view (messages step.outbox)
  step-lawful l = subst (λ (k : ℕ). AllLawful k step.outbox.view (messages step.outbox)) h.same
      (message-lawful (faults_in b) (node b c) a m view h.can-step (ap (λ (k : ℕ). lawful k m view) h.same ∙ l)
      (long_of (record_in (block b c))) h.from_low (subst (λ (k : ℕ). a ≤ k) (sym h.same) h.from-high))

  module _ (old : Oldest n a c m b) where
    oldest-slot : (w : View) (t x : ℕ) (p : Report) → m ≡ Value t x p
        → slot n (Value t x p) w ≡ slot_from b at value_size
    unfolding message_size
    oldest-slot w t x p is =
        let s = first (channel b a c) in
        let k = old.0 in
        let e : front n s ≡ returned (Value t x p, k) = old.1 ∙ ap (λ (y : Message). returned (y, k)) is in
        let f = front-only n s (Value t x p) k e in
        let long : k ≡ value_size = f.long ∙ lengths n (Value t x p) (view_at n s) f.allowed-is in
        value-slot n t x p w (view_at n s) f.sized f.allowed-is
        ∙ ap (λ (y : List ℕ). y ++ replicate (slot_size - value_size) 0)
        (sym (first-front b a c h.from_low a-high ∙ ap (λ (j : ℕ). take j s) (sym long) ∙ f.bytes))

    -- a value that is forwarded stands in the slot
    pub handler-received : (w : View) → ReceivedAt n a c w (react_to n a c m b).outbox.handler b at
    handler-received w = holds n a c b at (oldest (channel b a c)) refl w (node b c) a m view (oldest-slot w)

    pub step-received : (w : View) → ReceivedAt n a c w step.outbox.handler b at
    unfolding message_step
    step-received w = subst (λ (y : Sent). ReceivedAt n a c w y b at)
        (sym (handler-first (faults_in b) (react (node b c) a m view))) (handler-received w)

    -- also when the message was taken off and a record was written
    kept-received : (w : View) (y : Sent) → ReceivedAt n a c w y b at → (d : Node) → length d.heard ≡ cells
        → {u : List ℕ} → u ≡ on_block c (keep_record d) taken → ReceivedAt n a c w y u at
    kept-received w y r d z e =
        received-kept n a c h.small h.from_low h.from-high h.low h.high w y taken (taken-long
        ∙ h.long) at
        (received-taken n a c h.small h.from_low h.from-high h.low h.high w y b
        h.long at r refl) d z e

    -- t is the bytes after the handler, y what it sends
    module _ (l : lawful n m view ≡ true) (t : List ℕ) (y : Sent) (q : y ≡ (react_to n a c m b).outbox.handler)
        (e : t ≡ put taken (record_at c) (record_bytes (react_to n a c m b).node)) where
      in-bytes : record_in (block t c) ≡ record_bytes (react_to n a c m b).node
      in-bytes = ap (λ (u : List ℕ). record_in (block u c)) e
          ∙ record-put taken c h.low there-taken (record_bytes (react_to n a c m b).node) handled-long

      pub t-long : length t ≡ length b
      t-long = ap (λ (u : List ℕ). length u) e
          ∙ length-there taken c h.low there-taken (record_bytes (react_to n a c m b).node) handled-long ∙ taken-long

      record-long : length (record_in (block t c)) ≡ record_size
      record-long = ap (λ (u : List ℕ). length u) in-bytes ∙ handled-long

      t-kept : t ≡ on_block c (keep_record (react_to n a c m b).node) taken
      t-kept = e ∙ record-kept taken c h.low there-taken (react_to n a c m b).node handled-heard

      pub plan-needs : (f : ℕ) → f ≡ faults_in b
          → (1 ≤ c) × (c ≤ nodes) × (cluster_size c ≤ length t) × ((node t c).n ≡ n) × (n ≤ nodes) × (f < n)
          × (usable (node t c) ≡ true)
      plan-needs f s =
          let p = can-plan (record_in (block b c)) (record_in (block t c)) n a m view sized in-bytes h.same
          h.can-step
          h.from_low h.from-high l record-long h.small f (omega (arith, s, h.half)) in
          (h.low, c-high, omega (arith, there, t-long), p.1, p.2, p.3, p.4)

      pub follow-needs : (p : Plan) → plan_tag p ≤ limit
          → (1 ≤ c) × (c ≤ nodes) × (cluster_size c ≤ length t) × ((node t c).n ≡ n) × (n ≤ nodes)
          × ((node t c).request ≤ limit) × (plan_tag p ≤ limit) × (record_in (block t c) ≡ record_bytes (node t c))
      follow-needs p s =
          let k = can-follow (record_in (block b c)) (record_in (block t c)) n a m view sized in-bytes h.same
          h.can-step h.from_low h.from-high l record-long h.small p s in
          (h.low, c-high, omega (arith, there, t-long), k.1, k.2, k.3, k.4, k.5)

      -- to follow the plan is the step
      begins : started (node t c) a y ≡ react_to n a c m b
      begins = reacted-step (record_in (block b c)) (record_in (block t c)) a m view sized in-bytes q

      pub follows : (f : ℕ) (p : Plan) → f ≡ faults_in b → Leads f p (node t c)
          → followed p (started (node t c) a y) ≡ step
      unfolding message_step
      follows f p s leads = sym (leads.0 a y) ∙ ap₂ (λ (k : ℕ) (u : Step). move_on k u) s begins

      step-heard : length step.node.heard ≡ cells
      unfolding message_step
      step-heard = (sized-moved (faults_in b) (react_to n a c m b)
          (sized-react (node b c) (sized_of (record_in (block b c))) a m view sized)).heard

      -- 11 does not come up
      pub has-room : (x : Extent) → spare n c b ≡ true → true ≡ has_room n a c x step.node step.outbox taken
      has-room x s = sym (spare-room n a c x step.node step.outbox b h.small h.from_low h.from-high
          h.low h.high h.long step-heard s)

      -- ---- a plan to rest: the handler's messages are all

      module _ (f : ℕ) (p : Plan) (s : f ≡ faults_in b) (leads : Leads f p (node t c)) (still : rests p ≡ true) where
        rested : (p : Plan) → rests p ≡ true → (u : Step) → followed p u ≡ u
        rested Rest z u = refl
        rested (PlanRead o k) z u = none z
        rested (Compare k i j) z u = none z
        rested (Agree k i j) z u = none z
        rested (Borrow k) z u = none z

        rest-step : step ≡ react_to n a c m b
        rest-step = sym (follows f p s leads) ∙ rested p still (started (node t c) a y) ∙ begins

        pub as-started : step ≡ started (react_to n a c m b).node a y
        as-started = rest-step ∙ sym begins
            ∙ ap (λ (d : Node). started d a y)
            (reacted (record_in (block b c)) (record_in (block t c)) a m view sized in-bytes)

        pub rest-lawful : AllLawful n no_view (listed y)
        rest-lawful = subst (AllLawful n no_view) (append-nil (listed y ++ []) ∙ append-nil (listed y))
            (subst (λ (u : Step). AllLawful n u.outbox.view (messages u.outbox)) as-started (step-lawful l))

        pub rest-received : (from : ℕ) → from ≡ at → ReceivedAt n a c no_view y t from
        rest-received from z = subst (λ (k : ℕ). ReceivedAt n a c no_view y t k) (sym z)
            (kept-received no_view y (subst (λ (u : Sent). ReceivedAt n a c no_view u b at) (sym q)
            (handler-received no_view))
            (react_to n a c m b).node handled-heard t-kept)

        pub rest-released : (x : Extent) {u : List ℕ}
            → u ≡ let_out n c (shortened x (entries_of n a no_view (listed y))) (halt_if (is_cut x) n c t)
            → u ≡ released n a c x step.node step.outbox taken
        rest-released x z =
            let d = (react_to n a c m b).node in
            z ∙ ap₂ (λ (k : List Entry) (r : List ℕ). let_out n c (shortened x k) (halt_if (is_cut x) n c r))
            (sym (handled-entries n a a no_view y)) t-kept
            ∙ ap (λ (u : Step). released n a c x u.node u.outbox taken) (sym as-started)

      -- ---- any other plan

      module _ (o : Effect) (r : List ℕ) (f : ℕ) (p : Plan) (s : f ≡ faults_in b) (leads : Leads f p (node t c))
          (does : o ≡ effect (followed p (started (node t c) a y)))
          (left : r ≡ put t (record_at c) (record_bytes (followed p (started (node t c) a y)).node)) where
        pub is-effect : o ≡ effect step
        is-effect = does ∙ ap effect (follows f p s leads)

        r-kept : r ≡ on_block c (keep_record step.node) taken
        r-kept = left ∙ ap₂ (λ (u : List ℕ) (k : Step). put u (record_at c) (record_bytes k.node)) e
            (follows f p s leads)
            ∙ record-over taken c h.low there-taken (record_bytes (react_to n a c m b).node) handled-long
            (record_bytes step.node) (length-record_bytes step.node step-heard)
            ∙ record-kept taken c h.low there-taken step.node step-heard

        pub r-lawful : AllLawful n o.outbox.view (messages o.outbox)
        r-lawful = subst (λ (k : Effect). AllLawful n k.outbox.view (messages k.outbox)) (sym is-effect)
            (step-lawful l)

        pub r-received : (from : ℕ) → from ≡ at → ReceivedAt n a c o.outbox.view o.outbox.handler r from
        r-received from z = subst (λ (k : ℕ). ReceivedAt n a c o.outbox.view o.outbox.handler r k) (sym z)
            (subst (λ (k : Effect). ReceivedAt n a c k.outbox.view k.outbox.handler r at) (sym is-effect)
            (kept-received step.outbox.view step.outbox.handler (step-received step.outbox.view)
            step.node
            step-heard r-kept))

        pub r-released : (x : Extent) {u : List ℕ}
            → u ≡ let_out n c (shortened x (entries n a o.outbox)) (halt_if (is_cut x) n c r)
            → u ≡ released n a c x step.node step.outbox taken
        r-released x z = z ∙ ap₂ (λ (k : Effect) (w : List ℕ).
            let_out n c (shortened x (entries n a k.outbox)) (halt_if (is_cut x) n c w)) is-effect r-kept
