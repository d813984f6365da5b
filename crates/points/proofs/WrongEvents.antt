-- The events of a cluster, wrong where a test says so; and clusters on which the tests hold.
use Prim.Native.Nat.{ℕ, ◌≤◌}
use native.Mathlib.Omega.{arith}
use mathlib.Core.Path.{◌≡◌, refl, sym, ap, ◌∙◌}
use mathlib.Core.Bool.{Bool, true, false, not}
use mathlib.Core.List.{List, []}
use lib.Dec.{eqb}
use borrow.Author.Tests.{eq-eqb}
use Rattle.octets.specs.Answer.{Answer, returned, refused}
use Rattle.octets.specs.Test.{pick, both}
use Rattle.octets.proofs.Test.{both_true}
use Rattle.view.specs.Size.{nodes}
use Rattle.view.specs.View.{no_view}
use Rattle.wire.specs.declared.Message.{Message}
use Rattle.wire.specs.declared.Message.TheVariants.{Read, Write}
use Rattle.table.specs.Loop.{count}
use Rattle.record.specs.declared.Operation.TheVariants.{Scan}
use Rattle.step.specs.declared.Ending.{Ending}
use Rattle.step.specs.declared.Ending.TheVariants.{None, Spent}
use Rattle.region.specs.Channel.{count_of}
use Rattle.layout.specs.Layout.{stated, stopped, channel}
use Rattle.events.specs.Event as E
use Rattle.outgoing.specs.Outgoing.{is_cut}
use Rattle.outgoing.specs.declared.Extent.{Extent}
use Rattle.outgoing.specs.declared.Extent.TheVariants.{Whole, Cut}
use Rattle.history.specs.Order.{OneTo}
use Rattle.points.specs.Channels.{MayBegin, StandsAfter, Room, waits, still_waits, begun, handled, Filled}
use Rattle.points.proofs.Begins.{still-stands, accepts, one-in-cut}
use Rattle.points.proofs.Channels.{own_room, answer-none}
use Rattle.points.proofs.Filled.{filled-reads, filled-writes}
use Rattle.points.proofs.Proved.{points}
use Rattle.points.proofs.RuledOut.{number}

-- ---- the tests, of the bytes b that an event is given and of what the code's event r does

abbrev pub Test : Type 0
Test = List ℕ → E.Result → Bool

-- The cluster is n nodes, and from the first to itself k messages wait.
abbrev pub holding : (n k : ℕ) → Test
holding n k b r = both (eqb (stated b) n) (eqb (count_of (channel b 1 1)) k)

-- There is no room, or there is.
abbrev is_full : Answer Ending → Bool
is_full (refused k) = eqb k 11
is_full (returned e) = false

abbrev pub full : Test
full b r = is_full r.answer

abbrev pub roomy : Test
roomy b r = not (full b r)

-- The event is one of node 1; it is cut.
abbrev pub of_first : ℕ → Test
of_first c b r = eqb c 1

abbrev pub cut_short : Extent → Test
cut_short x b r = is_cut x

abbrev pub and : Test → Test → Test
and f g b r = both (f b r) (g b r)

abbrev pub Event : Type 0
Event = List ℕ → E.Result → E.Result

-- Event r, but g where the test holds.
abbrev pub but : Test → Event → Event
but f g b r = pick (f b r) (g b r) r

-- ---- what is done there

abbrev pub is11 : Event
is11 b r = E.refuse 11 b

-- Refused with another number.
abbrev pub is8 : Event
is8 b r = E.refuse 8 b

-- Accepted, and these bytes left.
abbrev pub accepted : List ℕ → E.Result
accepted b = record { bytes = b; answer = returned None; view = no_view; sent = [] }

abbrev pub taken : Event
taken b r = accepted b

-- What the code does, and an operation ends.
abbrev pub ends : Event
ends b r = record { bytes = r.bytes; answer = returned Spent; view = r.view; sent = r.sent }

-- ---- the clusters

one : OneTo 1 1
one = (omega arith, omega arith)

pub fourteen : (b : List ℕ) × Filled 1 0 1 14 (Read 1) b
fourteen = filled-reads 1 0 (omega arith, omega arith) (omega arith) 1 one 13 (omega arith)

pub fifteen : (b : List ℕ) × Filled 1 0 1 15 (Read 1) b
fifteen = points.channels.fifteen-reads

pub sixteen : (b : List ℕ) × Filled 1 0 1 16 (Read 1) b
sixteen = points.channels.sixteen-reads

pub too_many : (b : List ℕ) × Filled 1 0 1 16 (Write 1 1) b
too_many = points.channels.sixteen-writes

-- Two nodes.
two : OneTo nodes 2
two = (omega arith, omega arith)

pub pair : (b : List ℕ) × Filled 2 0 1 14 (Read 1) b
pair = filled-reads 2 0 two (omega arith) 1 (omega arith, omega arith) 13 (omega arith)

pub too-many-pair : (b : List ℕ) × Filled 2 0 1 16 (Write 1 1) b
too-many-pair = filled-writes 2 0 two (omega arith) 1 (omega arith, omega arith) 15 (omega arith)

-- Three nodes: sixteen messages wait from the first to the second.
pub three : (b : List ℕ) × Filled 3 1 2 16 (Read 1) b
three = filled-reads 3 1 (omega arith, omega arith) (omega arith) 2 (omega arith, omega arith) 15 (omega arith)

-- Fifteen messages are left, whatever was there.
abbrev pub fifteen_left : Event
fifteen_left b r = accepted fifteen.0

module _ {n f k : ℕ} {b : List ℕ} (F : Filled n f 1 k (Read 1) b) where
  pub stands : StandsAfter b 1 Whole 1
  stands = still-stands b 1 1 F.begins.at F.begins.stands

  pub place_none : (E.deliver 1 1 Whole b).answer ≡ returned None
  place_none = answer-none b 1 1 F.delivers F.begins.idle

  pub place-room : Room b 1 Whole (still_waits b 1 1) (handled b 1 1 Whole (Read 1))
  place-room = own_room b 1 1 F.delivers F.begins.idle

  -- No more than fifteen wait from node 1 to any: a begin is accepted, and so there is room.
  module _ (few : k ≤ 15) where
    pub low : (c : ℕ) → OneTo (stated b) c → stopped b c ≡ false → count_of (channel b 1 c) ≤ 15
    low c (lo, hi) up = omega (arith, F.no_more c (lo, omega (arith, F.states, hi)))

    pub begin-none : (E.begin 1 Scan Whole b).answer ≡ returned None
    begin-none = accepts b 1 Scan F.begins (λ c o up. omega (arith, low c o up))

    pub room : Room b 1 Whole (waits b 1) (begun b 1 Scan Whole)
    room = (points.channels.begin b 1 Scan Whole F.begins).only (None, begin-none)

-- A begin of the first of three that is cut after two entries.
module _ {b : List ℕ} (F : Filled 3 1 2 16 (Read 1) b) where
  pub may-cut : MayBegin b 1 (Cut 2)
  unfolding count
  may-cut = record {
    fit = F.begins.fit;
    usable = F.begins.usable;
    at = F.begins.at;
    stands = F.begins.stands;
    idle = F.begins.idle;
    left = F.begins.left;
    cut = λ h. rw (
      F.states,
      F.faults,
      F.stands 1 (omega arith, omega arith),
      F.stands 2 (omega arith, omega arith),
      F.stands 3 (omega arith, omega arith),
    ) (omega arith);
  }

  pub cut-full : Room b 1 (Cut 2) (waits b 1) (begun b 1 Scan (Cut 2)) → ⊥
  cut-full h =
      let at : OneTo (stated b) 2 = (omega arith, omega (arith, F.states)) in
      let up = F.stands 2 (omega arith, omega arith) in
      omega (
        arith,
        h 2 (record { at = at; stood = up; uncut = λ e z. omega arith }),
        F.holds,
        one-in-cut b 1 Scan 2 may-cut 2 at (omega arith),
      )

  pub cut-refused : E.begin 1 Scan (Cut 2) b ≡ E.refuse 11 b
  cut-refused = (points.channels.begin b 1 Scan (Cut 2) may-cut).full cut-full

-- ---- the tests hold there

module _ {n f k : ℕ} {m : Message} {b : List ℕ} (F : Filled n f 1 k m b) where
  holds-it : both (eqb (stated b) n) (eqb (count_of (channel b 1 1)) k) ≡ true
  holds-it = rw (F.states, F.holds) (both_true (eq-eqb n n refl) (eq-eqb k k refl))

  pub does : (g : Event) (r : E.Result) → but (holding n k) g b r ≡ g b r
  does g r = rw holds-it refl

  pub does-both : (f : Test) (g : Event) (r : E.Result) → f b r ≡ true → but (and (holding n k) f) g b r ≡ g b r
  does-both f g r h = rw (holds-it, h) refl

pub answer-of : {r s : E.Result} → r ≡ s → r.answer ≡ s.answer
answer-of e = ap (λ (r : E.Result). r.answer) e

pub another : {r : E.Result} {b : List ℕ} → r.answer ≡ refused 8 → r ≡ E.refuse 11 b → ⊥
another p q = let e : ◌≡◌ {A = ℕ} 8 11 = number (sym p ∙ answer-of q) in omega arith
