-- For each clause of demand 2 on what is answered and told, a house that it rules out. It is the house of the code but
-- for one thing that is seen of it, so that the clauses about other things allow it.
use Prim.Native.Nat.{ℕ}
use native.Mathlib.Decide.{ℕ_discrete, dec_le, dec_lt}
use native.Mathlib.Omega.{arith}
use mathlib.Core.Path.{◌≡◌, refl, sym, ap, ◌∙◌, subst}
use mathlib.Core.Bool.{decide, false≢true}
use mathlib.Core.List.{List, [], ◌∷◌, map}
use lib.ListN.{length, replicate}
use Rattle.octets.specs.Answer.{refused}
use Rattle.view.specs.Report.{no_report}
use Rattle.view.specs.declared.View.{View}
use Rattle.layout.specs.Layout.{cluster_size}
use Rattle.events.specs.Event.{Result, refuse}
use Rattle.outgoing.specs.declared.Extent.TheVariants.{Whole}
use Rattle.history.specs.Event as H
use Rattle.history.specs.Trace.{Seen, at}
use Rattle.eqaso.specs.Cluster as K
use Rattle.eqaso.specs.Cluster.{trace_from, trace}
use Rattle.mirror.specs.Mirrors.{channel_room}
use Rattle.mirror.specs.Run.{deliver, stop}
use Rattle.mirror.specs.Demand2.{House, house_of, Demand2Of}
use Rattle.mirror.proofs.Delivers.{IsResult}
use Rattle.mirror.proofs.Run.{run-trace}

-- Fresh refuses, and then all goes on as if it had not.
abbrev closed : House → House
closed h = record { opened = refused 12; bytes = h.bytes; next = h.next; seen = h.seen }

pub taken_out : (h : House) → ¬ Demand2Of 1 0 (closed h)
taken_out h d = subst IsResult (sym d.taken) tt

-- Every event is refused with 7 as if its message were damaged, when asked for after a list; no trace shows it.
abbrev damaged : House → House
damaged h = record { opened = h.opened; bytes = h.bytes; next = λ es e. refuse 7 (h.bytes es); seen = h.seen }

pub refusals-out : (h : House) → ¬ Demand2Of 1 0 (damaged h)
refusals-out h d = false≢true (d.refusals [] (stop 1))

-- Every event of a cluster of one node gives out a report of a node 2; no trace shows it.
abbrev beyond : View
beyond = record { tags = 0 ∷ 1 ∷ replicate 14 0; reports = replicate 16 no_report }

abbrev shown_past : Result → Result
shown_past r = record { bytes = r.bytes; answer = r.answer; view = beyond; sent = r.sent }

abbrev boasting : House → House
boasting h = record { opened = h.opened; bytes = h.bytes; next = λ es e. shown_past (h.next es e); seen = h.seen }

pub absent-past-out : (h : House) → ¬ Demand2Of 1 0 (boasting h)
absent-past-out h d =
    let wrong : ◌≡◌ {A = ℕ} 1 0 = (d.absent-past [] (stop 1)).no-tag 1 (omega arith) in
    omega (arith, wrong)

-- A trace tells every refusal as 3, which may come up; what waits does not depend on a refusal's number.
abbrev told_as3 : H.Response → H.Response
told_as3 (H.refused k) = H.refused 3
told_as3 (H.accepted e) = H.accepted e

abbrev number : H.Response → ℕ
number (H.refused k) = k
number (H.accepted e) = 0

abbrev mumbled : Seen → Seen
mumbled o = record { event = o.event; answer = told_as3 o.answer; sent = o.sent }

abbrev mumbling : House → House
mumbling h = record { opened = h.opened; bytes = h.bytes; next = h.next; seen = λ es. map mumbled (h.seen es) }

nothing-waits : trace 1 0 channel_room (H.deliver 1 1 H.whole ∷ [])
    ≡ record { event = H.deliver 1 1 H.whole; answer = H.refused 8; sent = [] } ∷ []
unfolding trace_from K.event ℕ_discrete dec_le dec_lt decide
nothing-waits = refl

pub same_out : (b : List ℕ) → length b ≡ cluster_size 1 → ¬ Demand2Of 1 0 (mumbling (house_of 1 0 b))
same_out b long d =
    let es = deliver 1 1 Whole ∷ [] in
    let real = run-trace 1 0 (omega arith) (omega arith) (omega arith) b long es ∙ nothing-waits in
    let told = ap (map mumbled) (sym real) ∙ d.same es ∙ nothing-waits in
    let wrong : ◌≡◌ {A = ℕ} 3 8 = ap (λ tr. number (at tr 0).answer) told in
    omega (arith, wrong)
