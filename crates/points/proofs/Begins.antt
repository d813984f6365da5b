-- The begin of an operation on the channels of a cluster: it is judged as document 01 says, and lets one message out to
-- every node.
use Prim.Native.Nat.{ℕ, ◌+◌, ◌-◌, ◌≤◌, ◌<◌}
use native.Mathlib.Omega.{arith}
use mathlib.Core.Path.{◌≡◌, refl, ap, ◌∙◌}
use mathlib.Core.Bool.{true, false}
use mathlib.Core.List.{List}
use lib.ListN.{length, take}
use borrow.Author.Tests.{lt-ltb}
use Rattle.octets.specs.Answer.{returned}
use Rattle.octets.proofs.Test.{true-false}
use Rattle.table.specs.Table.{cells}
use Rattle.view.specs.View.{no_view}
use Rattle.wire.specs.declared.Message.TheVariants.{Read}
use Rattle.table.specs.Loop.{count}
use Rattle.record.specs.declared.Operation.{Operation}
use Rattle.step.specs.Move.{begun, begin_step}
use Rattle.step.specs.declared.Step.{Step}
use Rattle.step.specs.declared.Ending.TheVariants.{None}
use Rattle.step.proofs.Waits.{begin-asks}
use Rattle.region.specs.Channel.{capacity, count_of}
use Rattle.block.specs.Block.{record_in}
use Rattle.outgoing.specs.Entries.{addressed, entries, go_to}
use Rattle.outgoing.proofs.Laws.{entries-one, go_to-once, others-reach}
use Rattle.outgoing.proofs.Judged.{heard-read}
use Rattle.layout.specs.Layout.{stated, block, stopped, node, channel, faults_in}
use Rattle.events.specs.Event.{Result, begin, settle}
use Rattle.outgoing.specs.Outgoing.{may_cut}
use Rattle.outgoing.specs.declared.Extent.{Extent}
use Rattle.outgoing.specs.declared.Extent.TheVariants.{Whole, Cut}
use Rattle.layout.proofs.Check.{sound-n, sound-half}
use Rattle.events.proofs.Admitted.{admits, begin-opens}
use Rattle.events.proofs.Settled.{open-settles}
use Rattle.history.specs.Order.{OneTo}
use Rattle.mirror.specs.Run as R
use Rattle.points.specs.Calls.{code}
use Rattle.points.specs.Channels as P
use Rattle.points.specs.Channels.{MayCut, MayBegin, StandsAfter, Room, Judged, waits}
use Rattle.points.proofs.Stops.{node-is}
use Rattle.points.proofs.Judged.{commits, judged}

-- Refusal 10 does not apply.
pub may-cut : (b : List ℕ) (x : Extent) → MayCut b x → may_cut (stated b) x b ≡ true
may-cut b Whole h = refl
may-cut b (Cut m) h = lt-ltb (count (stated b) (stopped b)) (faults_in b) (h refl)

-- A whole event stops nobody.
pub still-stands : (b : List ℕ) (c k : ℕ) → OneTo (stated b) k → stopped b k ≡ false → StandsAfter b c Whole k
still-stands b c k p up = record { at = p; stood = up; uncut = λ e. true-false false e refl }

module _ (b : List ℕ) (c : ℕ) (o : Operation) (x : Extent) (M : MayBegin b c x) where
  abbrev n : ℕ
  n = stated b

  abbrev step : Step
  step = begin_step (faults_in b) (node b c) o

  asks : step ≡ begun (node b c) o
  asks = begin-asks (faults_in b) (node b c) o
      (rw (sound-n b M.usable c (node-is n c M.at)) (omega (arith, sound-half b M.usable)))

  heard : length step.node.heard ≡ cells
  unfolding begun
  heard = ap (λ (s : Step). length s.node.heard) asks ∙ heard-read (record_in (block b c))

  settles : begin c o x b ≡ settle n c c x step b b
  settles = begin-opens c o x b n refl
      (admits c c b M.fit M.usable (node-is n c M.at) (node-is n c M.at) M.stands)
      ∙ open-settles n c o x b (node b c) refl M.idle M.left (may-cut b x M.cut)
      (sound-n b M.usable c (node-is n c M.at)) (sound-half b M.usable) asks

  less_none : (k : ℕ) → k ≡ k - 0
  less_none k = omega arith

  pub begin-judged : Judged code (R.begin c o x) b c x (waits b c) (P.begun b c o x)
  begin-judged = judged b M.fit M.usable false c c M.at M.at (λ e. true-false false e refl) x step heard
      (waits b c) (less_none (waits b c c)) (λ k e. refl) (R.begin c o x) settles

-- Of a begin that is cut the first nodes get one each.
pub one-in-cut : (b : List ℕ) (c : ℕ) (o : Operation) (m : ℕ) → MayBegin b c (Cut m) → (k : ℕ) → OneTo (stated b) k
    → k ≤ m → go_to k (P.begun b c o (Cut m)) ≡ 1
unfolding begun
one-in-cut b c o m M k (lo, hi) h =
    ap (λ (s : Step). go_to k (take m (entries (stated b) c s.outbox))) (asks b c o (Cut m) M)
    ∙ ap (λ l. go_to k (take m l)) (entries-one (stated b) c no_view (Read ((node b c).request + 1)))
    ∙ others-reach k m (stated b) c no_view (Read ((node b c).request + 1)) refl lo hi h

module _ (b : List ℕ) (c : ℕ) (o : Operation) (M : MayBegin b c Whole) where
  -- One message goes to each node.
  pub one_each : (k : ℕ) → OneTo (stated b) k → go_to k (P.begun b c o Whole) ≡ 1
  unfolding begun addressed
  one_each k (lo, hi) = ap (λ (s : Step). go_to k (entries (stated b) c s.outbox)) (asks b c o Whole M)
      ∙ ap (go_to k) (entries-one (stated b) c no_view (Read ((node b c).request + 1)))
      ∙ go_to-once no_view (Read ((node b c).request + 1)) k (stated b) lo hi

  module _ (low : (k : ℕ) → OneTo (stated b) k → stopped b k ≡ false → count_of (channel b c k) < capacity) where
    room : Room b c Whole (waits b c) (P.begun b c o Whole)
    room k S = omega (arith, one_each k S.at, low k S.at S.stood)

    pub accepts : (begin c o Whole b).answer ≡ returned None
    unfolding begun
    accepts = ap (λ (r : Result). r.answer) (commits b M.fit M.usable false c c M.at M.at
        (λ e. true-false false e refl) Whole (step b c o Whole M) (heard b c o Whole M) (waits b c)
        (less_none b c o Whole M (waits b c c)) (λ k e. refl) (R.begin c o Whole) (settles b c o Whole M) room)
        ∙ ap (λ (s : Step). returned s.ending) (asks b c o Whole M)

    pub counts : (d : ℕ) → OneTo (stated b) d → stopped b d ≡ false
        → count_of (channel (begin c o Whole b).bytes c d) ≡ count_of (channel b c d) + 1
    counts d p up = (begin-judged b c o Whole M).holds (None, accepts) d (still-stands b c d p up)
        ∙ ap (λ k. count_of (channel b c d) + k) (one_each d p)

  -- A channel with sixteen has no room.
  pub no_room : (d : ℕ) → OneTo (stated b) d → stopped b d ≡ false → count_of (channel b c d) ≡ 16
      → Room b c Whole (waits b c) (P.begun b c o Whole) → ⊥
  no_room d p up e h = omega (
    arith,
    h d (still-stands b c d p up),
    one_each d p,
  )
