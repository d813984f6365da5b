-- For every clause of the point on channels a wrong call that it rules out: the code's call, but where a test says so.
-- `only`, `seventeenth` and `overflow` follow from the laws, and so do the counts of `sixteenth` and `own-place`. The
-- point on absences is not concerned: no run of one scan comes to fourteen messages on a channel.
use Prim.Native.Nat.{ℕ, ◌+◌, ◌≤◌}
use native.Mathlib.Omega.{arith}
use mathlib.Core.Path.{◌≡◌, refl, ap, ◌∙◌}
use mathlib.Core.List.{List}
use lib.Dec.{eqb}
use lib.ListN.{get_or}
use Rattle.octets.specs.Answer.{Answer, returned}
use Rattle.octets.specs.Bytes.{part}
use Rattle.octets.specs.Loop.{tab}
use Rattle.octets.specs.Test.{pick}
use Rattle.octets.proofs.Put.{get_d_part}
use Rattle.octets.proofs.Table.{get_d-tab}
use Rattle.wire.specs.declared.Message.TheVariants.{Read, Write}
use Rattle.record.specs.declared.Operation.TheVariants.{Scan}
use Rattle.step.specs.declared.Ending.{Ending}
use Rattle.step.specs.declared.Ending.TheVariants.{None, Spent}
use Rattle.region.specs.Channel.{channel_size, count_of}
use Rattle.block.specs.Block.{block_size, channel_place, channel_in}
use Rattle.layout.specs.Layout.{cluster_size, block_place, stated, block, channel}
use Rattle.events.specs.Event as E
use Rattle.outgoing.specs.declared.Extent.TheVariants.{Whole, Cut}
use Rattle.history.specs.Order.{OneTo}
use Rattle.points.specs.Channels.{Filled}
use Rattle.points.proofs.Begins.{one_each}
use Rattle.points.proofs.Channels.{own-count, no_place, overflows}
use Rattle.points.proofs.Proved.{points}
use Rattle.points.proofs.RuledOut.{RuledOut, apart, answers}
use Rattle.points.proofs.Wrong.{begins, delivers}
use Rattle.points.proofs.WrongEvents.{holding, full, roomy, of_first, cut_short, and, Event, but}
use Rattle.points.proofs.WrongEvents.{is11, is8, taken, ends, fifteen_left}
use Rattle.points.proofs.WrongEvents.{fourteen, fifteen, sixteen, too_many, pair, too-many-pair, three}
use Rattle.points.proofs.WrongEvents.{stands, low, begin-none, room, place_none, place-room}
use Rattle.points.proofs.WrongEvents.{may-cut, cut-full, cut-refused, does, does-both, answer-of, another}

-- ---- begins: 11 with room; another number without, in a cut; another count; too many on a channel of another node

begin-refused : RuledOut (begins (λ c o x b. but (holding 1 14) is11 b (E.begin c o x b)))
begin-refused P =
    let (b, F) = fourteen in
    apart ((P.channels.begin b 1 Scan Whole F.begins).accepted (room F (omega arith))).1
    (answer-of (does F is11 (E.begin 1 Scan Whole b)))

-- Of whole begins the case of the seventeenth says it too.
begin-full : RuledOut (begins (λ c o x b. but (and (cut_short x) full) is8 b (E.begin c o x b)))
begin-full P =
    let (b, F) = three in
    another (rw (cut-refused F) refl) ((P.channels.begin b 1 Scan (Cut 2) (may-cut F)).full (cut-full F))

begin-holds : RuledOut (begins (λ c o x b. but (holding 1 14) taken b (E.begin c o x b)))
begin-holds P =
    let (b, F) = fourteen in
    let d = does F taken (E.begin 1 Scan Whole b) in
    omega (
      arith,
      F.holds,
      ap (λ (r : E.Result). count_of (channel r.bytes 1 1)) d,
      (P.channels.begin b 1 Scan Whole F.begins).holds (None, answer-of d) 1 (stands F),
      one_each b 1 Scan F.begins 1 F.begins.at,
    )

-- Bytes of a cluster of two nodes, with seventeen messages from node 2 to node 1 added.
loaded : List ℕ → List ℕ
loaded b = tab (cluster_size 2) (λ i. pick (eqb i (block_place 1 + channel_place 2)) 17 (get_or b i 0))

abbrev loads : Event
loads b r = record { bytes = loaded r.bytes; answer = r.answer; view = r.view; sent = r.sent }

too_much : (b : List ℕ) → count_of (channel (loaded b) 2 1) ≡ 17
unfolding channel_in block loaded
too_much b = get_d_part (part (loaded b) (block_place 1) block_size) (channel_place 2) channel_size 0 (omega arith)
    ∙ get_d_part (loaded b) (block_place 1) block_size (channel_place 2 + 0) (omega arith)
    ∙ get_d-tab (cluster_size 2) (λ i. pick (eqb i (block_place 1 + channel_place 2)) 17 (get_or b i 0))
    (block_place 1 + (channel_place 2 + 0)) 0 (omega arith)

over : (b : List ℕ) {r : E.Result} (s : E.Result) → r ≡ loads b s → count_of (channel r.bytes 2 1) ≤ 16 → ⊥
over b s e h = omega (arith, ap (λ (q : E.Result). count_of (channel q.bytes 2 1)) e, too_much s.bytes, h)

second : {b : List ℕ} → Filled 2 0 1 14 (Read 1) b → OneTo (stated b) 2
second F = (omega arith, omega (arith, F.states))

-- Where node 1 of two steps, and there is room.
abbrev loads_if : ℕ → Event
loads_if c b r = but (and (holding 2 14) (and (of_first c) roomy)) loads b r

begin-most : RuledOut (begins (λ c o x b. loads_if c b (E.begin c o x b)))
begin-most P =
    let (b, F) = pair in
    let none = begin-none F (omega arith) in
    let d = does-both F (and (of_first 1) roomy) loads (E.begin 1 Scan Whole b) (rw none refl) in
    over b (E.begin 1 Scan Whole b) d ((P.channels.begin b 1 Scan Whole F.begins).most
    (None, answer-of d ∙ none) 2 1 (second F) F.begins.at)

-- ---- deliveries: the same; without room of two nodes, since of one the case of the overflow says it

deliver-refused : RuledOut (delivers (λ a c x b. but (holding 1 14) is11 b (E.deliver a c x b)))
deliver-refused P =
    let (b, F) = fourteen in
    apart ((P.channels.deliver b 1 1 Whole (Read 1) F.delivers).accepted (place-room F)).1
    (answer-of (does F is11 (E.deliver 1 1 Whole b)))

deliver-full : RuledOut (delivers (λ a c x b. but (and (holding 2 16) full) is8 b (E.deliver a c x b)))
deliver-full P =
    let (b, F) = too-many-pair in
    another (answer-of (does-both F full is8 (E.deliver 1 1 Whole b) (rw (overflows b F) refl)))
    ((P.channels.deliver b 1 1 Whole (Write 1 1) F.delivers).full (no_place b F))

-- The message that is delivered keeps its place, and its answer comes to it.
deliver-holds : RuledOut (delivers (λ a c x b. but (and (holding 1 14) roomy) fifteen_left b (E.deliver a c x b)))
deliver-holds P =
    let (b, F) = fourteen in
    let d = does-both F roomy fifteen_left (E.deliver 1 1 Whole b) (rw (place_none F) refl) in
    omega (
      arith,
      fifteen.1.holds,
      ap (λ (r : E.Result). count_of (channel r.bytes 1 1)) d,
      (P.channels.deliver b 1 1 Whole (Read 1) F.delivers).holds (None, answer-of d) 1 (stands F),
      own-count b 1 1 F.delivers F.begins.idle,
      F.holds,
    )

deliver-most : RuledOut (delivers (λ a c x b. loads_if c b (E.deliver a c x b)))
deliver-most P =
    let (b, F) = pair in
    let d = does-both F (and (of_first 1) roomy) loads (E.deliver 1 1 Whole b) (rw (place_none F) refl) in
    over b (E.deliver 1 1 Whole b) d ((P.channels.deliver b 1 1 Whole (Read 1) F.delivers).most
    (None, answer-of d ∙ place_none F) 2 1 (second F) F.begins.at)

-- ---- the cases: with the sixteenth something ends; the seventeenth is taken

not-ended : {x : Answer Ending} → x ≡ returned Spent → x ≡ returned None → ⊥
not-ended p q = let z : ◌≡◌ {A = ℕ} 0 1 = cc in omega arith

sixteenth-ends : RuledOut (begins (λ c o x b. but (holding 1 15) ends b (E.begin c o x b)))
sixteenth-ends P =
    let (b, F) = fifteen in
    not-ended (answer-of (does F ends (E.begin 1 Scan Whole b))) (P.channels.sixteenth b 1 1 Scan F.begins
    F.begins.at F.begins.stands F.holds (low F (omega arith))).0

seventeenth-taken : RuledOut (begins (λ c o x b. but (holding 1 16) taken b (E.begin c o x b)))
seventeenth-taken P =
    let (b, F) = sixteen in
    answers (answer-of (does F taken (E.begin 1 Scan Whole b)))
    (P.channels.seventeenth b 1 1 Scan F.begins F.begins.at F.begins.stands F.holds)

-- Something ends with a delivery that frees its own place; two come for one.
own-place-ends : RuledOut (delivers (λ a c x b. but (and (holding 1 16) roomy) ends b (E.deliver a c x b)))
own-place-ends P =
    let (b, F) = sixteen in
    not-ended (answer-of (does-both F roomy ends (E.deliver 1 1 Whole b) (rw (place_none F) refl)))
    (P.channels.own-place b 1 1 F.delivers F.begins.idle F.holds).0

overflow-taken : RuledOut (delivers (λ a c x b. but (and (holding 1 16) full) taken b (E.deliver a c x b)))
overflow-taken P =
    let (b, F) = too_many in
    answers (answer-of (does-both F full taken (E.deliver 1 1 Whole b) (rw (points.channels.overflow b F) refl)))
    (P.channels.overflow b F)
