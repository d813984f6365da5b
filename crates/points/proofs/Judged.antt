-- Refusal 11 of an event that steps node c, in document 01's terms: it is given just if a channel would hold more than
-- sixteen messages; and what the channels hold after the event.
use Prim.Native.Nat.{ℕ, ◌+◌, ◌-◌, ◌≤◌, ◌<◌}
use native.Mathlib.Omega.{arith}
use native.Mathlib.Decide.{ℕ_discrete, dec_le}
use mathlib.Core.Path.{◌≡◌, refl, sym, ap, ◌∙◌, subst}
use mathlib.Core.Bool.{Bool, true, false}
use mathlib.Core.List.{List}
use lib.ListN.{length}
use lib.Dec.{ltb, eqb}
use borrow.Author.Tests.{le-leb, leb-true, eq-eqb, ne_eqb}
use Rattle.octets.specs.Answer.{returned, refused}
use Rattle.octets.specs.Test.{pick}
use Rattle.octets.proofs.Test.{true-false, not-true-false}
use Rattle.table.specs.Table.{cells}
use Rattle.table.specs.Loop.{all}
use Rattle.table.proofs.Laws.{all-at, all-all}
use Rattle.step.specs.Step.{messages}
use Rattle.step.specs.declared.Ending.TheVariants.{None}
use Rattle.step.specs.declared.Step.{Step}
use Rattle.region.specs.Channel.{capacity, count_of}
use Rattle.block.specs.Block.{block_size, has_stopped, channel_in, keep_record, take_off, halt}
use Rattle.block.proofs.Changes.{keep_record-length, keep_record-flag, keep_record-channel, halt-length}
use Rattle.block.proofs.Changes.{take_off-length, take_off-flag, take_off-same, take_off-other}
use Rattle.outgoing.specs.Entries.{Entry, entries, go_to}
use Rattle.layout.specs.Layout.{cluster_size, stated, block, stopped, channel, on_block, fits, sound}
use Rattle.layout.proofs.Check.{is-size, sound-size, sound-channel, fits-size}
use Rattle.events.specs.Event.{Result, refuse, commit, settle}
use Rattle.outgoing.specs.Outgoing.{shortened, is_cut, stepped, roomy}
use Rattle.outgoing.specs.Room.{room_before}
use Rattle.outgoing.specs.declared.Extent.{Extent}
use Rattle.outgoing.specs.declared.Extent.TheVariants.{Whole, Cut}
use Rattle.outgoing.proofs.Room.{found_in, room-before}
use Rattle.outgoing.specs.Room.{gone_in}
use Rattle.events.proofs.Settled.{settle-full, settle-commits}
use Rattle.history.specs.Order.{OneTo}
use Rattle.mirror.specs.Run as R
use Rattle.points.specs.Calls.{code, event}
use Rattle.points.specs.Channels.{StandsAfter, Room, Accepted, Judged}
use Rattle.points.proofs.Stops.{node-is}
use Rattle.points.proofs.Counts.{ToNodes, to-nodes, to_take, count-pop, Held, own, size_of, on_same, on-other}
use Rattle.points.proofs.Counts.{held-keep_record, held-take, held-halt, held_out, Waits, waits-out}

-- Where an event that has no room is refused, one that is accepted had room.
pub only-if-full : (b : List ℕ) (c : ℕ) (x : Extent) (waits : ℕ → ℕ) (l : List Entry) (r : Result)
    → ((Room b c x waits l → ⊥) → r ≡ refuse 11 b) → Accepted r → Room b c x waits l
only-if-full b c x waits l r full (e, h) k S = elim (dec_le (waits k + go_to k l) 16) [
  | yes y ↦ y
  | no y ↦
      let z : refused 11 ≡ returned e = sym (ap (λ (q : Result). q.answer) (full (λ room. y (room k S)))) ∙ h in
      let f : ◌≡◌ {A = ℕ} 0 1 = cc z in absurd (omega arith)
]

-- Node c of a usable cluster takes step s; a message from a was taken off before, if `took`. `waits k` is how many
-- messages are left then from c to k.
module _ (b : List ℕ) (fit : fits b ≡ true) (usable : sound b ≡ true) (took : Bool) (a c : ℕ)
    (from : OneTo (stated b) a) (at : OneTo (stated b) c) (some : took ≡ true → 0 < count_of (channel b a c))
    (x : Extent) (s : Step) (heard : length s.node.heard ≡ cells) (waits : ℕ → ℕ)
    (own-waits : waits c ≡ count_of (channel b c c) - gone_in took a c)
    (other-waits : (k : ℕ) → (k ≡ c → ⊥) → waits k ≡ count_of (channel b c k)) where
  abbrev n : ℕ
  n = stated b

  abbrev l : List Entry
  l = shortened x (entries n a s.outbox)

  abbrev found : List ℕ
  found = found_in took a c b

  small : n ≤ 16
  small = (is-size n (sound-size b usable)).1

  size : length b ≡ cluster_size n
  size = fits-size b fit (sound-size b usable)

  -- ---- the test is document 01's

  abbrev test : ℕ → Bool
  test = room_before (is_cut x) (gone_in took a c) c l b

  judges : all n test ≡ roomy n c l (stepped n c x s.node found)
  judges = room-before n a c b small from.0 from.1 at.0 at.1 size s.node heard took (is_cut x) l

  room_says : all n test ≡ true → Room b c x waits l
  unfolding room_before
  room_says t k S = go (is_cut x) refl (ℕ_discrete k c) (all-at n test k t S.at.0 S.at.1)
    where
      go : (y : Bool) → is_cut x ≡ y → Dec (k ≡ c) → room_before y (gone_in took a c) c l b k ≡ true
          → waits k + go_to k l ≤ capacity
      go true e (yes z) h = absurd (S.uncut e z)
      go false e (yes z) h = omega (
        arith,
        ap waits z ∙ own-waits ∙ ap (λ j. count_of (channel b c j) - gone_in took a c) (sym z),
        leb-true (count_of (channel b c k) - gone_in took a c + go_to k l) capacity (rw (S.stood, eq-eqb k c z) at h),
      )
      go y e (no z) h = omega (
        arith,
        other-waits k z,
        leb-true (count_of (channel b c k) + go_to k l) capacity (rw (S.stood, ne_eqb k c z) at h),
      )

  says-room : Room b c x waits l → all n test ≡ true
  unfolding room_before
  says-room r = all-all n test (λ k lo hi. go k (lo, hi) (stopped b k) refl (is_cut x) refl (ℕ_discrete k c))
    where
      go : (k : ℕ) → OneTo n k → (y : Bool) → stopped b k ≡ y → (z : Bool) → is_cut x ≡ z → Dec (k ≡ c)
          → room_before z (gone_in took a c) c l b k ≡ true
      go k o true e z f d = rw e refl
      go k o false e true f (yes d) = rw (e, eq-eqb k c d) refl
      go k o false e false f (yes d) = rw (e, eq-eqb k c d)
          (le-leb (count_of (channel b c k) - gone_in took a c + go_to k l) capacity (omega (
            arith,
            r k (record { at = o; stood = e; uncut = λ h. true-false (is_cut x) h f }),
            ap waits d ∙ own-waits ∙ ap (λ j. count_of (channel b c j) - gone_in took a c) (sym d),
          )))
      go k o false e z f (no d) = rw (e, ne_eqb k c d) (le-leb (count_of (channel b c k) + go_to k l) capacity
          (omega (arith, r k (record { at = o; stood = e; uncut = λ h y. d y }), other-waits k d)))

  -- ---- the channels after the event

  held : Held n small b
  held = record { long = size; most = λ a k p o. sound-channel b usable a k (node-is n a p) (node-is n k o) }

  held_found : Held n small found
  held_found = go took refl
    where
      go : (y : Bool) → took ≡ y → Held n small (found_in y a c b)
      go true e = held-take n small held c at a from (some e)
      go false e = held

  abbrev wrote : List ℕ
  wrote = on_block c (keep_record s.node) found

  kept : length (keep_record s.node (block found c)) ≡ block_size
  kept = keep_record-length (block found c) (own n small held_found c at) s.node heard

  held-wrote : Held n small wrote
  held-wrote = held-keep_record n small held_found c at s.node heard

  held-stepped : Held n small (stepped n c x s.node found)
  held-stepped = go x
    where
      go : (x : Extent) → Held n small (stepped n c x s.node found)
      go Whole = held-wrote
      go (Cut m) = held-halt n small held-wrote c at

  -- The other blocks are as they were.
  found-other : (k : ℕ) → OneTo n k → (k ≡ c → ⊥) → block found k ≡ block b k
  found-other k o e = go took
    where
      go : (y : Bool) → block (found_in y a c b) k ≡ block b k
      go true = on-other n small held c at (take_off a)
          (take_off-length (block b c) (own n small held c at) a from.0 (omega (arith, small))) k o e
      go false = refl

  other : (k : ℕ) → OneTo n k → (k ≡ c → ⊥) → block (stepped n c x s.node found) k ≡ block b k
  other k o e = go x ∙ on-other n small held_found c at (keep_record s.node) kept k o e ∙ found-other k o e
    where
      go : (x : Extent) → block (stepped n c x s.node found) k ≡ block wrote k
      go Whole = refl
      go (Cut m) = on-other n small held-wrote c at (halt n)
          (halt-length (block wrote c) (own n small held-wrote c at) n small) k o e

  -- The own block, where the node has not stopped.
  found-own : (stopped found c ≡ stopped b c) × (count_of (channel found c c) ≡ waits c)
  found-own = go took refl
    where
      taken : length (take_off a (block b c)) ≡ block_size
      taken = take_off-length (block b c) (own n small held c at) a from.0 (omega (arith, small))

      same : block (on_block c (take_off a) b) c ≡ take_off a (block b c)
      same = on_same n small held c at (take_off a) taken

      less : 0 < count_of (channel b a c) → Dec (a ≡ c) → count_of (channel_in (take_off a (block b c)) c)
          ≡ count_of (channel b c c) - pick (eqb a c) 1 0
      less h (yes e) = rw (
        eq-eqb a c e,
        e,
        take_off-same (block b c) (own n small held c at) c at.0 (omega (arith, small)),
      ) (omega (arith, count-pop (channel b c c) (size_of n small held c at c at) (rw e at h)))
      less h (no e) = rw (
        ne_eqb a c e,
        take_off-other (block b c) (own n small held c at) a from.0 (omega (arith, small)) c at.0 (λ y. e (sym y)),
      ) (omega arith)

      go : (y : Bool) → took ≡ y → (stopped (found_in y a c b) c ≡ stopped b c)
          × (count_of (channel (found_in y a c b) c c) ≡ waits c)
      go true e = (
        ap has_stopped same
            ∙ ap (ltb 0) (take_off-flag (block b c) (own n small held c at) a from.0 (omega (arith, small))),
        ap (λ k. count_of (channel_in k c)) same ∙ less (some e) (ℕ_discrete a c)
            ∙ sym (own-waits ∙ ap (λ y. count_of (channel b c c) - gone_in y a c) e),
      )
      go false e =
          let all_left : count_of (channel b c c) - 0 ≡ count_of (channel b c c) = omega arith in
          (refl, sym (own-waits ∙ ap (λ y. count_of (channel b c c) - gone_in y a c) e ∙ all_left))

  still : (k : ℕ) → StandsAfter b c x k → Waits n small c at (stepped n c x s.node found) k (waits k)
  still k S = elim (ℕ_discrete k c) [
    | yes e ↦ subst (λ j. Waits n small c at (stepped n c x s.node found) j (waits j)) (sym e)
        (go x (λ h. S.uncut h e) (ap (stopped b) (sym e) ∙ S.stood))
    | no e ↦ record {
      stands = ap has_stopped (other k S.at e) ∙ S.stood;
      holds = ap (λ j. count_of (channel_in j c)) (other k S.at e) ∙ sym (other-waits k e);
    }
  ]
    where
      go : (x : Extent) → (is_cut x ≡ true → ⊥) → stopped b c ≡ false
          → Waits n small c at (stepped n c x s.node found) c (waits c)
      go Whole h up =
          let same = on_same n small held_found c at (keep_record s.node) kept in
          record {
            stands = ap has_stopped same
                ∙ ap (ltb 0) (keep_record-flag (block found c) (own n small held_found c at) s.node heard)
                ∙ found-own.0 ∙ up;
            holds = ap (λ k. count_of (channel_in k c)) same
                ∙ ap count_of (keep_record-channel (block found c) (own n small held_found c at) s.node heard c)
                ∙ found-own.1;
          }
      go (Cut m) h up = absurd (h refl)

  to-all : ToNodes n l
  to-all = go x
    where
      go : (x : Extent) → ToNodes n (shortened x (entries n a s.outbox))
      go Whole = to-nodes n a from s.outbox.view (messages s.outbox)
      go (Cut m) = to_take n m (entries n a s.outbox) (to-nodes n a from s.outbox.view (messages s.outbox))

  -- ---- the event

  module _ (e : R.Event) (settles : event code e b ≡ settle n a c x s found b) where
    pub commits : Room b c x waits l → event code e b ≡ commit n a c x s found
    commits h = settles ∙ settle-commits n a c x s found b (sym judges ∙ says-room h)

    refuses : (Room b c x waits l → ⊥) → event code e b ≡ refuse 11 b
    refuses h = settles ∙ settle-full n a c x s found b
        (sym judges ∙ not-true-false (all n test) (λ e. h (room_says e)))

    only : Accepted (event code e b) → Room b c x waits l
    only h = only-if-full b c x waits l (event code e b) refuses h

    pub judged : Judged code e b c x waits l
    judged = record {
      accepted = λ h. (pick (is_cut x) None s.ending, ap (λ (q : Result). q.answer) (commits h));
      only = only;
      full = refuses;
      holds = λ h k S. ap (λ (q : Result). count_of (channel q.bytes c k)) (commits (only h))
          ∙ (waits-out n small c at l to-all held-stepped k (waits k) S.at (still k S) (only h k S)).holds;
      most = λ h j k p o. rw (ap (λ (q : Result). q.bytes) (commits (only h)))
          ((held_out n small c at l to-all held-stepped).most j k p o);
    }
