-- A delivery on the channels of a cluster: it is judged as document 01 says, and the answer of a node to itself takes
-- the place of what it answers.
use Prim.Native.Nat.{ℕ, ◌+◌, ◌-◌, ◌≤◌, ◌<◌}
use native.Mathlib.Omega.{arith}
use native.Mathlib.Decide.{ℕ_discrete}
use mathlib.Core.Path.{◌≡◌, refl, sym, ap, ◌∙◌, subst}
use mathlib.Core.Bool.{Bool, true, false}
use mathlib.Core.List.{List, [], ◌∷◌}
use lib.ListN.{length}
use lib.Dec.{eqb}
use borrow.Author.Tests.{lt-ltb, eq-eqb, ne_eqb}
use Rattle.octets.specs.Answer.{returned}
use Rattle.octets.specs.Test.{pick, both}
use Rattle.octets.proofs.Test.{true-false}
use Rattle.table.specs.Table.{cells}
use Rattle.view.specs.View.{no_view, view_of}
use Rattle.view.specs.declared.View.{View}
use Rattle.view.proofs.ViewBytes.{view-absent}
use Rattle.wire.specs.Codec.{view_at}
use Rattle.wire.specs.declared.Message.{Message}
use Rattle.wire.specs.declared.Message.TheVariants.{Read, ReadAnswer, Write, WriteAnswer, Echo}
use Rattle.record.specs.Usable.{is_open}
use Rattle.record.specs.declared.Node.{Node}
use Rattle.record.specs.declared.Wait.{Wait}
use Rattle.record.specs.declared.Wait.TheVariants.{Idle, Reading, Writing, Comparing, Borrowing}
use Rattle.step.specs.Move.{message_step, move_on, read_pass, write_pass, compare_pass, borrow_pass}
use Rattle.step.specs.React.{raised, react}
use Rattle.step.specs.Step.{messages, started}
use Rattle.step.specs.declared.Sent.TheVariants.{One}
use Rattle.step.specs.declared.Step.{Step}
use Rattle.step.specs.declared.Ending.TheVariants.{None}
use Rattle.step.proofs.Same.{move-on-keeps}
use Rattle.region.specs.Channel.{capacity, count_of, first}
use Rattle.region.specs.Record.{record_of, record_bytes}
use Rattle.region.proofs.Back.{Sized}
use Rattle.block.specs.Block.{record_in, take_off}
use Rattle.outgoing.specs.Entries.{entry, addressed, entries_of, entries, go_to}
use Rattle.outgoing.proofs.Laws.{entries-two, go_to-append, go_to-once}
use Rattle.react_bytes.proofs.Handling.{reacted}
use Rattle.layout.specs.Layout.{stated, block, stopped, node, channel, on_block, faults_in}
use Rattle.layout.proofs.Check.{is-size, sound-size, sound-channel}
use Rattle.events.specs.Event.{Result, refuse, deliver, settle}
use Rattle.outgoing.specs.declared.Extent.{Extent}
use Rattle.outgoing.specs.declared.Extent.TheVariants.{Whole}
use Rattle.outgoing.proofs.Judged.{heard-read}
use Rattle.events.proofs.Admitted.{admits}
use Rattle.events.proofs.Handed.{deliver-hands, hand-settles}
use Rattle.outgoing.specs.Room.{gone_in}
use Rattle.history.specs.Order.{OneTo}
use Rattle.mirror.specs.Run as R
use Rattle.points.specs.Calls.{code}
use Rattle.points.specs.Channels.{MayDeliver, Room, Judged, still_waits, handled, Filled, Channels}
use Rattle.points.proofs.Filled.{filled-reads, filled-writes}
use Rattle.points.proofs.Stops.{node-is}
use Rattle.points.proofs.Judged.{commits, judged}
use Rattle.points.proofs.Begins.{may-cut, still-stands, begin-judged, accepts, counts, no_room}

sized-view : (n : ℕ) (b : List ℕ) → n ≤ 16 → Sized (view_of n b)
sized-view n b small = let v = view-absent n b small in record { tags = v.tags-length; reports = v.reports-length }

module _ (b : List ℕ) (a c : ℕ) (x : Extent) (m : Message) (M : MayDeliver b a c x m) where
  abbrev slot : List ℕ
  slot = first (channel b a c)

  abbrev beside : View
  beside = view_of (stated b) (view_at (stated b) slot)

  abbrev handling : Step
  handling = message_step (faults_in b) (node b c) a m beside

  pub heard-after : length handling.node.heard ≡ cells
  unfolding message_step
  heard-after =
      let r = record_in (block b c) in
      let s = react (record_of r) a m beside in
      ap length (move-on-keeps (λ (d : Node). d.heard) (λ d q w v. refl) (faults_in b) s)
      ∙ ap (λ (d : Node). length d.heard) (sym (reacted r (record_bytes s.node) a m beside
      (sized-view (stated b) (view_at (stated b) slot) (is-size (stated b) (sound-size b M.usable)).1) refl))
      ∙ heard-read (record_bytes s.node)

  pub delivers : deliver a c x b ≡ settle (stated b) a c x handling (on_block c (take_off a) b) b
  delivers = deliver-hands a c x b (stated b) refl
      (admits a c b M.fit M.usable (node-is (stated b) a M.sender) (node-is (stated b) c M.receiver)
      M.stands)
      (lt-ltb 0 (count_of (channel b a c)) M.some) m M.size M.says
      ∙ hand-settles (stated b) a c x b slot m (node b c) refl M.new (may-cut b x M.cut) refl refl refl

  own-left : still_waits b a c c ≡ count_of (channel b c c) - gone_in true a c
  own-left =
      let e : both (eqb a c) (eqb c c) ≡ eqb a c = rw (eq-eqb c c refl) (go (eqb a c)) in
      ap (λ t. count_of (channel b c c) - pick t 1 0) e
    where
      go : (t : Bool) → both t true ≡ t
      go true = refl
      go false = refl

  other-left : (k : ℕ) → (k ≡ c → ⊥) → still_waits b a c k ≡ count_of (channel b c k)
  other-left k e =
      let f : both (eqb a c) (eqb k c) ≡ false = rw (ne_eqb k c e) (go (eqb a c)) in
      ap (λ t. count_of (channel b c k) - pick t 1 0) f ∙ less
    where
      go : (t : Bool) → both t false ≡ false
      go true = refl
      go false = refl

      less : count_of (channel b c k) - 0 ≡ count_of (channel b c k)
      less = omega arith

  deliver-judged : Judged code (R.deliver a c x) b c x (still_waits b a c) (handled b a c x m)
  deliver-judged = judged b M.fit M.usable true a c M.sender M.receiver (λ e. M.some) x handling
      heard-after (still_waits b a c) own-left other-left (R.deliver a c x) delivers

-- Where no operation is open nothing moves on.
pub rests : (f : ℕ) (s : Step) → is_open s.node.wait ≡ false → move_on f s ≡ s
unfolding move_on read_pass write_pass compare_pass borrow_pass
rests f s e = go s.node.wait refl
  where
    go : (w : Wait) → s.node.wait ≡ w → move_on f s ≡ s
    go Idle h = rw h refl
    go (Reading o k m) h = true-false (is_open s.node.wait) (rw h refl) e
    go (Writing k i r z) h = true-false (is_open s.node.wait) (rw h refl) e
    go (Comparing k i r) h = true-false (is_open s.node.wait) (rw h refl) e
    go (Borrowing k r) h = true-false (is_open s.node.wait) (rw h refl) e

-- An idle node answers a read, and does no more.
answers-only : (f : ℕ) (d : Node) (a q : ℕ) (v : View) → is_open d.wait ≡ false
    → message_step f d a (Read q) v ≡ started d a (One (ReadAnswer q d.maxtag))
unfolding message_step react
answers-only f d a q v e = rests f (started d a (One (ReadAnswer q d.maxtag))) e

module _ (b : List ℕ) (c q : ℕ) (M : MayDeliver b c c Whole (Read q)) (idle : is_open (node b c).wait ≡ false) where
  answered : handled b c c Whole (Read q) ≡ entry no_view (ReadAnswer q (node b c).maxtag) c ∷ []
  unfolding entries_of addressed
  answered = ap (λ (s : Step). entries (stated b) c s.outbox)
      (answers-only (faults_in b) (node b c) c q (beside b c c Whole (Read q) M) idle)

  here : still_waits b c c c ≡ count_of (channel b c c) - 1
  here = own-left b c c Whole (Read q) M ∙ rw (eq-eqb c c refl) refl

  one : go_to c (handled b c c Whole (Read q)) ≡ 1
  unfolding go_to
  one = ap (go_to c) answered ∙ rw (eq-eqb c c refl) refl

  none : (k : ℕ) → (k ≡ c → ⊥) → go_to k (handled b c c Whole (Read q)) ≡ 0
  unfolding go_to
  none k e = ap (go_to k) answered ∙ rw (ne_eqb c k (λ y. e (sym y))) refl

  pub own_room : Room b c Whole (still_waits b c c) (handled b c c Whole (Read q))
  own_room k S = elim (ℕ_discrete k c) [
    | yes e ↦ subst (λ j. still_waits b c c j + go_to j (handled b c c Whole (Read q)) ≤ 16) (sym e)
        (omega (
          arith,
          here,
          one,
          sound-channel b M.usable c c (node-is (stated b) c M.receiver) (node-is (stated b) c M.receiver),
        ))
    | no e ↦ omega (
      arith,
      other-left b c c Whole (Read q) M k e,
      none k e,
      sound-channel b M.usable c k (node-is (stated b) c M.receiver) (node-is (stated b) k S.at),
    )
  ]

  pub answer-none : (deliver c c Whole b).answer ≡ returned None
  answer-none = ap (λ (r : Result). r.answer) (commits b M.fit M.usable true c c M.sender M.receiver
      (λ e. M.some) Whole (handling b c c Whole (Read q) M) (heard-after b c c Whole (Read q) M) (still_waits b c c)
      (own-left b c c Whole (Read q) M) (other-left b c c Whole (Read q) M) (R.deliver c c Whole)
      (delivers b c c Whole (Read q) M) own_room)
      ∙ ap (λ (s : Step). returned s.ending)
      (answers-only (faults_in b) (node b c) c q (beside b c c Whole (Read q) M) idle)

  -- As many wait after it as before.
  pub own-count : still_waits b c c c + go_to c (handled b c c Whole (Read q)) ≡ count_of (channel b c c)
  own-count = omega (arith, here, one, M.some)

  place : count_of (channel b c c) ≡ 16
      → ((deliver c c Whole b).answer ≡ returned None) × (count_of (channel (deliver c c Whole b).bytes c c) ≡ 16)
  place sixteen = (
    answer-none,
    (deliver-judged b c c Whole (Read q) M).holds (None, answer-none) c (still-stands b c c M.receiver M.stands)
        ∙ own-count ∙ sixteen,
  )

-- A write with a larger tag is echoed and answered by an idle node: two messages for the place of one.
writes-two : (f : ℕ) (d : Node) (v : View) → is_open d.wait ≡ false → d.maxtag ≡ 0
    → messages (message_step f d 1 (Write 1 1) v).outbox ≡ Echo 1 ∷ WriteAnswer 1 1 ∷ []
unfolding message_step react raised
writes-two f d v e h = ap (λ (s : Step). messages s.outbox) (rests f (react d 1 (Write 1 1) v) e) ∙ rw h refl

module _ {n f : ℕ} (b : List ℕ) (F : Filled n f 1 16 (Write 1 1) b) where
  two : go_to 1 (handled b 1 1 Whole (Write 1 1)) ≡ 2
  unfolding addressed go_to
  two =
      let v = (handling b 1 1 Whole (Write 1 1) F.delivers).outbox.view in
      ap (λ ms. go_to 1 (entries_of (stated b) 1 v ms))
      (writes-two (faults_in b) (node b 1) (beside b 1 1 Whole (Write 1 1) F.delivers) F.begins.idle
      F.maxtag)
      ∙ ap (go_to 1) (entries-two (stated b) 1 v (Echo 1) (WriteAnswer 1 1))
      ∙ go_to-append 1 (addressed (stated b) 1 v (Echo 1)) (addressed (stated b) 1 v (WriteAnswer 1 1))
      ∙ ap (λ k. k + 1) (go_to-once v (Echo 1) 1 (stated b) F.begins.at.0 F.begins.at.1)

  pub no_place : Room b 1 Whole (still_waits b 1 1) (handled b 1 1 Whole (Write 1 1)) → ⊥
  no_place room = omega (
    arith,
    room 1 (still-stands b 1 1 F.begins.at F.begins.stands),
    own-left b 1 1 Whole (Write 1 1) F.delivers,
    F.holds,
    two,
  )

  pub overflows : deliver 1 1 Whole b ≡ refuse 11 b
  overflows = (deliver-judged b 1 1 Whole (Write 1 1) F.delivers).full no_place

-- ---- the point

pub channels-hold : Channels code
channels-hold = record {
  begin = begin-judged;
  deliver = deliver-judged;
  sixteenth = λ b c d o M p up e low.
      let room : (k : ℕ) → OneTo (stated b) k → stopped b k ≡ false → count_of (channel b c k) < capacity
      = λ k q s. omega (arith, low k q s) in
      (accepts b c o M room, counts b c o M room d p up ∙ ap (λ k. k + 1) e);
  seventeenth = λ b c d o M p up e. (begin-judged b c o Whole M).full (no_room b c o M d p up e);
  own-place = place;
  overflow = overflows;
  fifteen-reads = filled-reads 1 0 (omega arith, omega arith) (omega arith) 1
      (omega arith, omega arith) 14 (omega arith);
  sixteen-reads = filled-reads 1 0 (omega arith, omega arith) (omega arith) 1
      (omega arith, omega arith) 15 (omega arith);
  sixteen-writes = filled-writes 1 0 (omega arith, omega arith) (omega arith) 1
      (omega arith, omega arith) 15 (omega arith);
}
