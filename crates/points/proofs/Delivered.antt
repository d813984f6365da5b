-- A delivery that is accepted: what it passed, what it lets out, who stands after it, and what the channels hold then.
use Prim.Native.Nat.{ℕ, ◌+◌, ◌≤◌}
use native.Mathlib.Omega.{arith}
use native.Mathlib.Decide.{ℕ_discrete}
use mathlib.Core.Path.{◌≡◌, refl, sym, ap, ap₂, ◌∙◌, subst}
use mathlib.Core.Bool.{Bool, true, false, not}
use mathlib.Core.List.{List, ◌++◌}
use lib.ListN.{length}
use lib.Dec.{ltb}
use borrow.Author.Tests.{leb-true, ltb-true}
use Rattle.octets.specs.Answer.{Answer, returned, refused}
use Rattle.octets.specs.Test.{both}
use Rattle.octets.proofs.Test.{both_left, both_right, true-false}
use Rattle.view.specs.View.{view_of}
use Rattle.wire.specs.Codec.{front, view_at}
use Rattle.wire.specs.declared.Message.{Message}
use Rattle.table.specs.Loop.{count}
use Rattle.table.proofs.Laws.{all-at}
use Rattle.step.specs.Move.{message_step}
use Rattle.step.specs.Stale.{stale_message}
use Rattle.step.specs.Step.{messages}
use Rattle.step.specs.declared.Ending.{Ending}
use Rattle.step.specs.declared.Step.{Step}
use Rattle.region.specs.Channel.{capacity, count_of, first, waiting}
use Rattle.block.specs.Block.{block_size, has_stopped, channel_in, keep_record, take_off, halt}
use Rattle.block.proofs.Changes.{keep_record-length, keep_record-flag, keep_record-channel, take_off-length}
use Rattle.block.proofs.Changes.{take_off-flag}
use Rattle.block.proofs.Changes.{halt-length, halt-stops}
use Rattle.outgoing.specs.Entries.{Entry, entries, go_to}
use Rattle.outgoing.specs.Outgoing.{shortened, is_cut, may_cut, has_room, room_at, roomy, stepped}
use Rattle.outgoing.specs.declared.Extent.{Extent}
use Rattle.outgoing.specs.declared.Extent.TheVariants.{Whole, Cut}
use Rattle.layout.specs.Layout.{stated, faults_in, block, stopped, node, channel, on_block, fits, sound}
use Rattle.layout.specs.Layout.{is_node}
use Rattle.layout.proofs.Check.{is-size, is-node, sound-size, sound-channel, fits-size}
use Rattle.events.specs.Event.{Result, demand, settle, commit, deliver_in, deliver_message}
use Rattle.events.specs.Event.{hand_over, deliver}
use Rattle.events.proofs.Admitted.{admitted-is}
use Rattle.events.proofs.Settled.{settle-commits}
use Rattle.history.specs.Order.{OneTo}
use Rattle.points.specs.Channels.{MayCut, MayDeliver, StandsAfter}
use Rattle.points.specs.Forward.{slots_on, slots_to, Handed}
use Rattle.points.proofs.Stops.{node-is}
use Rattle.points.proofs.Counts.{ToNodes, to-nodes, to_take, Held, own, on_same, on-other}
use Rattle.points.proofs.Counts.{held-keep_record, held-take, held-halt}
use Rattle.points.proofs.Channels.{heard-after, delivers}
use Rattle.points.proofs.Slots.{stands-out, slots-out}

-- ---- an event that is accepted passed every demand

not-refused : {X : Type 0} {k : ℕ} {e : Ending} → refused k ≡ returned e → X
not-refused h = let z : ◌≡◌ {A = ℕ} 0 1 = cc h in absurd (omega arith)

passed : (t : Bool) (k : ℕ) (b : List ℕ) (next : Result) {e : Ending} → (demand t k b next).answer ≡ returned e
    → (t ≡ true) × (next.answer ≡ returned e)
passed true k b next h = (refl, h)
passed false k b next h = not-refused h

not-true : (t : Bool) → not t ≡ true → t ≡ false
not-true true h = sym h
not-true false h = refl

may-cut-is : (b : List ℕ) (x : Extent) → may_cut (stated b) x b ≡ true → MayCut b x
may-cut-is b Whole h e = true-false false e refl
may-cut-is b (Cut m) h e = ltb-true (count (stated b) (stopped b)) (faults_in b) h

module _ (b : List ℕ) (a c : ℕ) (x : Extent) (m : Message) (k : ℕ) (T : Handed b a c x m k) where
  abbrev n : ℕ
  n = stated b

  abbrev taken : List ℕ
  taken = first (channel b a c)

  abbrev step : Step
  step = message_step (faults_in b) (node b c) a m (view_of n (view_at n taken))

  abbrev found : List ℕ
  found = on_block c (take_off a) b

  told : MayDeliver b a c x m × (has_room n a c x step.node step.outbox found ≡ true)
  unfolding deliver settle
  told =
      let e = T.accepted.0 in
      let last = settle n a c x step found b in
      let cut = demand (may_cut n x b) 10 b last in
      let hand = hand_over n a c x b taken m in
      let reads = deliver_message n a c x b taken (front n taken) in
      let inner = deliver_in n a c x b in
      let up = demand (not (stopped b c)) 4 b inner in
      let two = demand (both (is_node n a) (is_node n c)) 3 b up in
      let h : (demand (fits b) 12 b (demand (sound b) 2 b two)).answer ≡ returned e =
      ap (λ (r : Result). r.answer) (sym (admitted-is a c b inner)) ∙ T.accepted.1 in
      let (fit, h1) = passed (fits b) 12 b (demand (sound b) 2 b two) h in
      let (usable, h2) = passed (sound b) 2 b two h1 in
      let (at, h3) = passed (both (is_node n a) (is_node n c)) 3 b up h2 in
      let (stands, h4) = passed (not (stopped b c)) 4 b inner h3 in
      let (some, h5) = passed (ltb 0 (count_of (channel b a c))) 8 b reads h4 in
      let h6 : hand.answer ≡ returned e =
      ap (λ (r : Answer (Message × ℕ)). (deliver_message n a c x b taken r).answer) (sym T.says) ∙ h5 in
      let (new, h7) = passed (not (stale_message (node b c) a m)) 9 b cut h6 in
      let (may, h8) = passed (may_cut n x b) 10 b last h7 in
      let (room, h9) = passed (has_room n a c x step.node step.outbox found) 11 b
      (commit n a c x step found) h8 in (
        record {
          fit = fit;
          usable = usable;
          sender = is-node n a (both_left (is_node n a) (is_node n c) at);
          receiver = is-node n c (both_right (is_node n a) (is_node n c) at);
          stands = not-true (stopped b c) stands;
          some = ltb-true 0 (count_of (channel b a c)) some;
          size = k;
          says = T.says;
          new = not-true (stale_message (node b c) a m) new;
          cut = may-cut-is b x may;
        },
        room,
      )

  abbrev M : MayDeliver b a c x m
  M = told.0

  abbrev l : List Entry
  l = shortened x (entries n a step.outbox)

  abbrev after : List ℕ
  after = stepped n c x step.node found

  commits : deliver a c x b ≡ commit n a c x step found
  commits = delivers b a c x m M ∙ settle-commits n a c x step found b told.1

  pub sent_is : (deliver a c x b).sent ≡ l
  sent_is = ap (λ (r : Result). r.sent) commits

  -- ---- the channels

  small : n ≤ 16
  small = (is-size n (sound-size b M.usable)).1

  held : Held n small b
  held = record {
    long = fits-size b M.fit (sound-size b M.usable);
    most = λ i j p o. sound-channel b M.usable i j (node-is n i p) (node-is n j o);
  }

  held_found : Held n small found
  held_found = held-take n small held c M.receiver a M.sender M.some

  abbrev wrote : List ℕ
  wrote = on_block c (keep_record step.node) found

  kept-size : length (keep_record step.node (block found c)) ≡ block_size
  kept-size = keep_record-length (block found c) (own n small held_found c M.receiver) step.node
      (heard-after b a c x m M)

  held-wrote : Held n small wrote
  held-wrote = held-keep_record n small held_found c M.receiver step.node (heard-after b a c x m M)

  halt-size : length (halt n (block wrote c)) ≡ block_size
  halt-size = halt-length (block wrote c) (own n small held-wrote c M.receiver) n small

  held_after : Held n small after
  held_after = go x
    where
      go : (y : Extent) → Held n small (stepped n c y step.node found)
      go Whole = held-wrote
      go (Cut j) = held-halt n small held-wrote c M.receiver

  to-all : ToNodes n l
  to-all = go x
    where
      all_of : ToNodes n (entries n a step.outbox)
      all_of = to-nodes n a M.sender step.outbox.view (messages step.outbox)

      go : (y : Extent) → ToNodes n (shortened y (entries n a step.outbox))
      go Whole = all_of
      go (Cut j) = to_take n j (entries n a step.outbox) all_of

  -- The record written, and the stop of a cut node, leave what waits for those that stand.
  slots-after : (d : ℕ) → OneTo n d → stopped after d ≡ false → slots_on after c d ≡ slots_on found c d
  slots-after d o up = go x (ℕ_discrete d c) up
    where
      same : slots_on wrote c c ≡ slots_on found c c
      same = ap (λ i. waiting (λ s. s) (channel_in i c))
          (on_same n small held_found c M.receiver (keep_record step.node) kept-size)
          ∙ ap (waiting (λ s. s)) (keep_record-channel (block found c) (own n small held_found c M.receiver)
          step.node (heard-after b a c x m M) c)

      other : (d ≡ c → ⊥) → slots_on wrote c d ≡ slots_on found c d
      other e = ap (λ i. waiting (λ s. s) (channel_in i c))
          (on-other n small held_found c M.receiver (keep_record step.node) kept-size d o e)

      go : (y : Extent) → Dec (d ≡ c) → stopped (stepped n c y step.node found) d ≡ false
          → slots_on (stepped n c y step.node found) c d ≡ slots_on found c d
      go Whole (yes e) up = subst (λ j. slots_on wrote c j ≡ slots_on found c j) (sym e) same
      go Whole (no e) up = other e
      go (Cut j) (yes e) up = true-false (stopped (on_block c (halt n) wrote) c)
          (ap has_stopped (on_same n small held-wrote c M.receiver (halt n) halt-size)
          ∙ halt-stops (block wrote c) (own n small held-wrote c M.receiver) n small)
          (subst (λ i. stopped (on_block c (halt n) wrote) i ≡ false) e up)
      go (Cut j) (no e) up = ap (λ i. waiting (λ s. s) (channel_in i c))
          (on-other n small held-wrote c M.receiver (halt n) halt-size d o e) ∙ other e

  -- Nobody stops but the node that is cut.
  up-after : (d : ℕ) → StandsAfter b c x d → stopped after d ≡ false
  up-after d S = go x S.uncut (ℕ_discrete d c)
    where
      took : length (take_off a (block b c)) ≡ block_size
      took = take_off-length (block b c) (own n small held c M.receiver) a M.sender.0
          (omega (arith, M.sender.1, small))

      same : stopped wrote c ≡ stopped b c
      same = ap has_stopped (on_same n small held_found c M.receiver (keep_record step.node) kept-size)
          ∙ ap (ltb 0) (keep_record-flag (block found c) (own n small held_found c M.receiver) step.node
          (heard-after b a c x m M))
          ∙ ap has_stopped (on_same n small held c M.receiver (take_off a) took)
          ∙ ap (ltb 0) (take_off-flag (block b c) (own n small held c M.receiver) a M.sender.0
          (omega (arith, M.sender.1, small)))

      other : (d ≡ c → ⊥) → stopped wrote d ≡ false
      other e = ap has_stopped
          (on-other n small held_found c M.receiver (keep_record step.node) kept-size d S.at e
          ∙ on-other n small held c M.receiver (take_off a) took d S.at e) ∙ S.stood

      go : (y : Extent) → (is_cut y ≡ true → d ≡ c → ⊥) → Dec (d ≡ c)
          → stopped (stepped n c y step.node found) d ≡ false
      go Whole u (yes e) = ap (stopped wrote) e ∙ same ∙ ap (stopped b) (sym e) ∙ S.stood
      go Whole u (no e) = other e
      go (Cut j) u (yes e) = absurd (u refl e)
      go (Cut j) u (no e) = ap has_stopped (on-other n small held-wrote c M.receiver (halt n) halt-size d S.at e)
          ∙ other e

  pub still-stands : (d : ℕ) → StandsAfter b c x d → stopped (deliver a c x b).bytes d ≡ false
  still-stands d S = ap (λ (r : Result). stopped r.bytes d) commits
      ∙ stands-out n small c M.receiver l to-all held_after d S.at ∙ up-after d S

  module _ (d : ℕ) (o : OneTo n d) (up : stopped (deliver a c x b).bytes d ≡ false) where
    still-up : stopped after d ≡ false
    still-up = sym (stands-out n small c M.receiver l to-all held_after d o)
        ∙ ap (λ (r : Result). stopped r.bytes d) (sym commits) ∙ up

    room : count_of (channel after c d) + go_to d l ≤ capacity
    unfolding roomy
    room = leb-true (count_of (channel after c d) + go_to d l) capacity
        (rw still-up at (all-at n (room_at c l after) d told.1 o.0 o.1))

    pub holds-slots : slots_on (deliver a c x b).bytes c d ≡ slots_on found c d ++ slots_to n d (deliver a c x b).sent
    holds-slots = ap (λ (r : Result). slots_on r.bytes c d) commits
        ∙ slots-out n small c M.receiver l to-all held_after d (count_of (channel after c d)) o
        (record { stands = still-up; holds = refl }) room
        ∙ ap₂ (λ i (r : Result). i ++ slots_to n d r.sent) (slots-after d o still-up) (sym commits)
