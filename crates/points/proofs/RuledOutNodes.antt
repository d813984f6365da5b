-- For every clause of the points on the largest tag and stops a wrong call that it rules out: the code's call, but
-- where a test says so. `by_answer` and `by-own` follow from `spent`.
use Prim.Native.Nat.{ℕ, ◌+◌, ◌-◌, ◌<◌, max}
use native.Mathlib.Decide.{ℕ_discrete}
use native.Mathlib.Omega.{arith}
use mathlib.Core.Path.{◌≡◌, refl, sym, ap, ◌∙◌}
use mathlib.Core.Bool.{Bool, true, false, not, decide}
use mathlib.Core.List.{List, []}
use lib.Dec.{eqb, ltb}
use borrow.Author.Tests.{eq-eqb}
use Rattle.octets.specs.Answer.{Answer, returned, refused}
use Rattle.octets.specs.Test.{pick, both}
use Rattle.octets.proofs.Test.{both_true, true-false, not-true-false}
use Rattle.view.specs.Report.{no_report}
use Rattle.view.specs.Size.{limit}
use Rattle.view.specs.View.{no_view}
use Rattle.wire.specs.Codec.{decode}
use Rattle.wire.specs.declared.Message.{Message}
use Rattle.wire.specs.declared.Message.TheVariants.{Read, ReadAnswer, Write, WriteAnswer, Echo, Value, Good}
use Rattle.logs.specs.Count as L
use Rattle.logs.specs.Update.{upd}
use Rattle.logs.proofs.Count.{count_none}
use Rattle.table.specs.Loop.{count}
use Rattle.record.specs.declared.Node.{Node}
use Rattle.record.specs.declared.Operation.{Operation}
use Rattle.record.specs.declared.Operation.TheVariants.{Update, Scan}
use Rattle.record.specs.declared.Wait.{Wait}
use Rattle.record.specs.declared.Wait.TheVariants.{Idle, Reading, Writing, Comparing, Borrowing}
use Rattle.step.specs.Told as K
use Rattle.step.specs.declared.Ending.{Ending}
use Rattle.step.specs.declared.Ending.TheVariants.{None}
use Rattle.calls.specs.Entry as N
use Rattle.calls.specs.CallResult.{CallResult}
use Rattle.block.specs.Block.{halt}
use Rattle.layout.specs.Layout.{stated, faults_in, stopped, on_block}
use Rattle.events.specs.Event as E
use Rattle.events.specs.Stop.{stop}
use Rattle.history.specs.Order.{OneTo}
use Rattle.history.specs.Event as H
use Rattle.algorithm.specs.Algorithm as A
use Rattle.eqaso.specs.Cluster as C
use Rattle.mirror.specs.Mirrors.{Mirrors}
use Rattle.mirror.proofs.Checks.{same-stopped}
use Rattle.points.specs.LastTag.{LastAnswer, spent_by}
use Rattle.points.specs.Stops.{OneStopped, Standing}
use Rattle.points.proofs.Proved.{points}
use Rattle.points.proofs.RuledOut.{RuledOut, apart, answers, number, space, long-space}
use Rattle.points.proofs.Stops.{start-mirrors, is-cluster, one-stopped}
use Rattle.points.proofs.Wrong.{hands, stops}

-- ---- the largest tag: an answer changes nothing, or spends what it should not

-- A test of a node that reads and is answered: its operation, the largest tag answered before, the new one, its maxtag.
abbrev Test : Type 0
Test = Operation → (before now own : ℕ) → Bool

abbrev answered : (ℕ → Bool) → Answer Message → Bool
answered f (returned (ReadAnswer q t)) = f t
answered f (returned (Read q)) = false
answered f (returned (Write q t)) = false
answered f (returned (WriteAnswer q t)) = false
answered f (returned (Echo t)) = false
answered f (returned (Value t w p)) = false
answered f (returned (Good t)) = false
answered f (refused k) = false

abbrev tests : Test → ℕ → Wait → Answer Message → Bool
tests f own (Reading o k m) a = answered (λ t. f o m t own) a
tests f own Idle a = false
tests f own (Writing k i r z) a = false
tests f own (Comparing k i r) a = false
tests f own (Borrowing k r) a = false

abbrev wrongly : Test → (Node → List ℕ → CallResult) → Node → ℕ → List ℕ → List ℕ → CallResult
wrongly f g c s b out = pick (tests f c.maxtag c.wait (decode c.n b)) (g c out) (N.message c s b out)

abbrev unchanged : Node → List ℕ → CallResult
unchanged c out = record { answer = K.nothing; ending = returned None; node = c; length = 0; out = out }

abbrev is_update : Operation → Bool
is_update (Update p) = true
is_update Scan = false

-- Where the test holds of the last answer the call is the wrong one.
does : (f : Test) (g : Node → List ℕ → CallResult) (c : Node) (o : Operation) (m s t : ℕ) (b out : List ℕ)
    → LastAnswer c o m s t b out → f o m t c.maxtag ≡ true → wrongly f g c s b out ≡ g c out
does f g c o m s t b out L h = rw (L.reads, L.says, h) refl

-- What is told cannot be both.
told-apart : {x : CallResult} {y z : Answer Ending} {c d : Node} {j k : ℕ} {o q : List ℕ}
    → x ≡ record { answer = K.nothing; ending = y; node = c; length = j; out = o }
    → x ≡ record { answer = K.spent 13; ending = z; node = d; length = k; out = q } → ⊥
told-apart p q =
    let e : K.nothing ≡ K.spent 13 = ap (λ (x : CallResult). x.answer) (sym p ∙ q) in
    let z : ◌≡◌ {A = ℕ} 0 1 = cc e in omega arith

-- The largest tag does not count: in an answer before alone, in the last answer, as the own maxtag.
before_lost : Test
before_lost o m t top = both (is_update o) (both (eqb m limit) (eqb (max t top) 0))

now_lost : Test
now_lost o m t top = both (is_update o) (eqb t limit)

own_lost : Test
own_lost o m t top = both (is_update o) (eqb top limit)

not-before : RuledOut (hands (wrongly before_lost unchanged))
unfolding before_lost
not-before P =
    let L = points.last-tag.a-before in
    told-apart (does before_lost unchanged _ _ limit 2 0 _ _ L (both_true (eq-eqb limit limit refl) refl))
    (P.last-tag.spent _ no_report limit 2 0 _ _ L (omega arith))

not-by-answer : RuledOut (hands (wrongly now_lost unchanged))
unfolding now_lost
not-by-answer P =
    let L = points.last-tag.an-answer in
    told-apart (does now_lost unchanged _ _ 0 2 limit _ _ L (eq-eqb limit limit refl))
    (P.last-tag.by_answer _ no_report 0 2 limit _ _ L refl)

not-by-own : RuledOut (hands (wrongly own_lost unchanged))
unfolding own_lost
not-by-own P =
    let L = points.last-tag.an-own in
    told-apart (does own_lost unchanged _ _ 0 2 0 _ _ L (eq-eqb limit limit refl))
    (P.last-tag.by-own _ no_report 0 2 0 _ _ L refl)

-- Spent with one less, of an update alone; and a scan with the largest tag.
early : Test
early o m t top = both (is_update o) (eqb (max (max m t) top) (limit - 1))

scan_too : Test
scan_too o m t top = both (not (is_update o)) (eqb (max (max m t) top) limit)

spent-early : RuledOut (hands (wrongly early spent_by))
unfolding early
spent-early P =
    let L = points.last-tag.a-less in
    told-apart (P.last-tag.one_less _ no_report 0 2 (limit - 1) _ _ L (omega arith))
    (does early spent_by _ _ 0 2 (limit - 1) _ _ L (eq-eqb (max (max 0 (limit - 1)) 0) (limit - 1) (omega arith)))

scan-spent : RuledOut (hands (wrongly scan_too spent_by))
unfolding scan_too
scan-spent P =
    let L = points.last-tag.a-scan in
    told-apart (P.last-tag.scan-goes-on _ 0 2 limit _ _ L (omega arith))
    (does scan_too spent_by _ _ 0 2 limit _ _ L (eq-eqb (max (max 0 limit) 0) limit (omega arith)))

-- ---- stops: one that must not stop does; the first is not told, or does not

abbrev halts : ℕ → List ℕ → E.Result
halts c b = record { bytes = on_block c (halt (stated b)) b; answer = returned None; view = no_view; sent = [] }

abbrev but : (ℕ → List ℕ → Bool) → (ℕ → List ℕ → E.Result) → ℕ → List ℕ → E.Result
but f g c b = pick (f c b) (g c b) (stop c b)

instead : (f : ℕ → List ℕ → Bool) (g : ℕ → List ℕ → E.Result) (c : ℕ) (b : List ℕ) → f c b ≡ true
    → (but f g c b).answer ≡ (g c b).answer
instead f g c b h = rw h refl

-- Node c of three stands.
abbrev stands_of_three : ℕ → List ℕ → Bool
stands_of_three c b = both (eqb (stated b) 3) (not (stopped b c))

one : OneTo 3 1
one = (omega arith, omega arith)

two : OneTo 3 2
two = (omega arith, omega arith)

abbrev three : List ℕ
three = (E.fresh 3 1 (space 3)).bytes

fresh-stands : stopped three 1 ≡ false
fresh-stands =
    ((start-mirrors 3 1 (omega arith, omega arith) (omega arith) (space 3) (long-space 3)).shows.says 1 one).stop

fresh-states : stated three ≡ 3
fresh-states = (start-mirrors 3 1 (omega arith, omega arith) (omega arith) (space 3) (long-space 3)).shows.states

-- Node 1 of three has stopped, and node 2 stands.
abbrev left : List ℕ
left = (stop 1 three).bytes

stopped-one : OneStopped left 1
stopped-one = (points.stops.first (space 3) (long-space 3) 1 one).leaves

two-stands : stopped left 2 ≡ false
two-stands = not-true-false (stopped left 2) (λ e.
    let z : ◌≡◌ {A = ℕ} 10 4 = number (ap (λ (r : E.Result). r.answer)
    (sym (points.stops.second left 1 2 stopped-one two (λ e. omega arith))
    ∙ points.stops.again left 2 (record { three = stopped-one.three; node = two; stop = e }))) in omega arith)

single-stops : RuledOut (stops (but (λ c b. eqb (stated b) 1) halts))
single-stops P =
    let I = points.stops.fresh-single (space 1) (long-space 1) in
    answers (instead (λ c b. eqb (stated b) 1) halts 1 (E.fresh 1 0 (space 1)).bytes (rw I.states refl))
    (P.stops.single _ I)

-- Five nodes, with this f.
abbrev five : ℕ → List ℕ
five f = (E.fresh 5 f (space 5)).bytes

module _ (f : ℕ) (half : f + f < 5) where
  start : Mirrors 5 f (five f) C.start
  start = start-mirrors 5 f (omega arith, omega arith) half (space 5) (long-space 5)

  one-stands : Standing 5 1 (five f)
  one-stands = record {
    cluster = is-cluster (omega arith, omega arith) start;
    node = (omega arith, omega arith);
    stands = (start.shows.says 1 (omega arith, omega arith)).stop;
  }

  none_yet : count 5 (stopped (five f)) ≡ 0
  none_yet = same-stopped (omega arith) (omega arith) start ∙ count_none 5

-- 10 goes by the largest f: of five nodes with f = 1 a second one stops.
abbrev largest_of_five : ℕ → List ℕ → Bool
largest_of_five c b = both (eqb (stated b) 5) (both (eqb (faults_in b) 1) (ltb (count 5 (stopped b)) 2))

abbrev four_left : List ℕ
four_left = (stop 1 (five 1)).bytes

four-left : Mirrors 5 1 four_left (C.commit 1 (H.cut 0) (A.still A.fresh) [] (λ c d. []) C.start).cluster
four-left = one-stopped 5 1 (omega arith, omega arith) (omega arith) (omega arith) (space 5) (long-space 5) 1
    (omega arith, omega arith)

counted-one : count 5 (stopped four_left) ≡ 1
unfolding L.count upd ℕ_discrete decide
counted-one = same-stopped (omega arith) (omega arith) four-left

two-of-five : Standing 5 2 four_left
unfolding upd ℕ_discrete decide
two-of-five = record {
  cluster = is-cluster (omega arith, omega arith) four-left;
  node = (omega arith, omega arith);
  stands = (four-left.shows.says 2 (omega arith, omega arith)).stop;
}

by-largest : RuledOut (stops (but largest_of_five halts))
by-largest P = answers
    (instead largest_of_five halts 2 four_left (rw (four-left.shows.states, four-left.shows.faults, counted-one) refl))
    (P.stops.full 5 2 four_left two-of-five (counted-one ∙ sym four-left.shows.faults))

-- Of five nodes none may stop, whatever is recorded.
none-of-five : RuledOut (stops (but (λ c b. eqb (stated b) 5) (λ c b. E.refuse 10 b)))
none-of-five P = apart (P.stops.fewer 5 1 (five 1) (one-stands 1 (omega arith))
    (omega (arith, none_yet 1 (omega arith), (start 1 (omega arith)).shows.faults)))
    (instead (λ c b. eqb (stated b) 5) (λ c b. E.refuse 10 b) 1 (five 1)
    (rw (start 1 (omega arith)).shows.states refl))

one-more-stops : RuledOut (stops (but stands_of_three halts))
one-more-stops P = answers
    (instead stands_of_three halts 2 left (rw (stopped-one.three.states, two-stands) refl))
    (P.stops.second left 1 2 stopped-one two (λ e. omega arith))

stops-again : RuledOut (stops (but (λ c b. stopped b c) halts))
stops-again P = answers (instead (λ c b. stopped b c) halts 1 left stopped-one.stop)
    (P.stops.again left 1 stopped-one)

-- A stop that does what it should, and answers 10.
abbrev untold : ℕ → List ℕ → E.Result
untold c b = record { bytes = (stop c b).bytes; answer = refused 10; view = no_view; sent = [] }

first-untold : RuledOut (stops (but stands_of_three untold))
first-untold P = apart (P.stops.first (space 3) (long-space 3) 1 one).answer
    (instead stands_of_three untold 1 three (rw (fresh-states, fresh-stands) refl))

-- a stop that answers as it should, and changes nothing
stops-nothing : RuledOut (stops (λ c b. record { bytes = b; answer = (stop c b).answer; view = no_view; sent = [] }))
stops-nothing P = true-false (stopped three 1)
    (P.stops.first (space 3) (long-space 3) 1 one).leaves.stop fresh-stands
