-- For every clause of the point on absences a wrong call that it rules out. `whole` follows from `cut`, and of what is
-- shown `begun` and `finished` follow from `view`.
use Prim.Native.Nat.{ℕ}
use native.Mathlib.Omega.{arith}
use native.Mathlib.Decide.{ℕ_discrete, dec_le, dec_lt}
use mathlib.Core.Path.{◌≡◌, refl, sym, ap, ap₂, ◌∙◌, subst}
use mathlib.Core.Bool.{Bool, true, false, not, decide}
use mathlib.Core.List.{List, [], ◌∷◌, map}
use lib.Dec.{eqb}
use lib.ListN.{get_or}
use Rattle.logs.specs.Count.{count}
use Rattle.logs.specs.Update.{upd, upd2}
use Rattle.octets.specs.Answer.{Answer, returned}
use Rattle.octets.specs.Test.{pick, both}
use Rattle.view.specs.Size.{nodes}
use Rattle.view.specs.View.{no_view}
use Rattle.view.specs.declared.View.{View}
use Rattle.record.specs.declared.Operation.TheVariants.{Scan}
use Rattle.step.specs.declared.Ending.{Ending}
use Rattle.step.specs.declared.Ending.TheVariants.{None, Scan as Scanned}
use Rattle.step.specs.declared.Rule.TheVariants.{Direct}
use Rattle.region.specs.Channel.{count_of}
use Rattle.layout.specs.Layout.{stated, channel}
use Rattle.events.specs.Event as E
use Rattle.outgoing.specs.Outgoing.{is_cut}
use Rattle.outgoing.specs.declared.Extent.{Extent}
use Rattle.outgoing.specs.declared.Extent.TheVariants.{Whole, Cut}
use Rattle.history.specs.Message.{Entry, absent, read}
use Rattle.history.specs.Event as H
use Rattle.history.specs.Trace as T
use Rattle.history.specs.Order.{OneTo, Finished}
use Rattle.algorithm.specs.Algorithm as A
use Rattle.algorithm.specs.Algorithm.{same}
use Rattle.eqaso.specs.Cluster as K
use Rattle.mirror.specs.Mirrors.{channel_room}
use Rattle.mirror.specs.Run as R
use Rattle.mirror.proofs.Demand2.{demand2}
use Rattle.mirror.proofs.Says.{says-count}
use Rattle.points.specs.Absences.{Delivery, scan_then, NothingWaits}
use Rattle.points.specs.Calls.{Calls, trace_from, trace_of}
use Rattle.points.proofs.RuledOut.{RuledOut, space, long-space}
use Rattle.points.proofs.Stops.{start-mirrors}
use Rattle.points.proofs.Wrong.{begins, delivers}
use Rattle.points.proofs.WrongEvents.{but, holding}

-- An event that answers so, and lets nothing out.
abbrev silent : Answer Ending → View → List ℕ → E.Result
silent y v b = record { bytes = b; answer = y; view = v; sent = [] }

one : OneTo 1 1
one = (omega arith, omega arith)

size : OneTo nodes 1
size = (omega arith, omega arith)

-- With one node there is one channel.
of_one : (tr : T.Trace) → T.waits tr 1 1 ≡ [] → NothingWaits 1 tr
of_one tr e a d (lo, hi) (low, high) up =
    let p : a ≡ 1 = omega arith in
    let q : d ≡ 1 = omega arith in
    ap₂ (λ i j. T.waits tr i j) p q ∙ e

-- ---- a begin that shows at once what was not reported, where nothing waits

abbrev start : List ℕ
start = (E.fresh 1 0 (space 1)).bytes

fresh-one : both (eqb (stated start) 1) (eqb (count_of (channel start 1 1)) 0) ≡ true
fresh-one =
    let S = (start-mirrors 1 0 size (omega arith) (space 1) (long-space 1)).shows in
    rw (S.states, says-count size.1 (S.says 1 one) 1 one) refl

-- a view with tag 1 of node 1
shown : View
shown = record { tags = 1 ∷ []; reports = [] }

-- The code's begin, but it ends the scan and lets nothing out.
abbrev ends : List ℕ → E.Result
ends b = silent (returned (Scanned (Direct 1))) shown b

abbrev told : Calls
told = begins (λ c o x b. but (holding 1 0) (λ b r. ends r.bytes) b (E.begin c o x b))

abbrev seen : T.Trace
seen = R.seen 1 (R.begin 1 Scan Whole) (ends []) ∷ []

scans : trace_of told 1 0 (space 1) (scan_then 1 []) ≡ seen
unfolding trace_from
scans = rw fresh-one refl

quiet : T.waits seen 1 1 ≡ []
unfolding T.let_out_to T.handed_over H.sent_to ℕ_discrete decide
quiet = refl

up : T.stopped seen 1 ≡ false
unfolding T.stopped
up = refl

shows-some : RuledOut told
unfolding shown T.first_ending ℕ_discrete decide A.table
shows-some P =
    let e = (P.absences.cut 1 0 1 size (omega arith) one (space 1) (long-space 1) []
    (ap (λ tr. T.stopped tr 1) scans ∙ up)
    (subst (NothingWaits 1) (sym scans) (of_one seen quiet))).view in
    let z : ◌≡◌ {A = ℕ} 1 0 = ap (λ (l : List Entry). (get_or l 0 absent).tag)
    (sym (ap (λ tr. T.scan_view (T.fate tr 0)) scans) ∙ e) in omega arith

-- ---- a scan that never finishes: the cluster is lost with a delivery that is refused

-- The bytes are lost with a delivery from no node, if the test holds of its extent. What is delivered after that is
-- accepted, and handed to nobody.
abbrev nobody : List ℕ → E.Result → E.Result
nobody [] r = silent (returned None) no_view []
nobody (k ∷ b) r = r

abbrev loses : (Extent → Bool) → (a c : ℕ) → Extent → List ℕ → E.Result
loses f a c x b = pick (both (eqb a 0) (f x)) (E.refuse 3 []) (nobody b (E.deliver a c x b))

-- The scan of a fresh node begins, and lets out its read: computed of the algorithm over sets.
abbrev scanned : T.Seen
scanned = record {
  event = H.begin 1 H.scan H.whole;
  answer = H.accepted H.none;
  sent = record { to = 1; message = read 1 } ∷ [];
}

first-seen : T.at (K.trace 1 0 channel_room (map R.meaning (scan_then 1 []))) 0 ≡ scanned
unfolding K.trace_from K.event K.roomy H.sent_to K.entries A.move_on A.kept A.table A.newest A.included_up_to A.has
    A.limit
    same upd upd2 count ℕ_discrete dec_le dec_lt decide
first-seen = refl

scan-seen : R.seen 1 (R.begin 1 Scan Whole) (E.begin 1 Scan Whole start) ≡ scanned
unfolding R.trace_from
scan-seen = ap (λ tr. T.at tr 0) ((demand2 1 0 size (omega arith) (space 1) (long-space 1)).same (scan_then 1 []))
    ∙ first-seen

-- The scan, a delivery that is refused, and one after which nothing waits.
module _ (f : Extent → Bool) (x : Extent) (h : f x ≡ true) where
  abbrev two : List Delivery
  two = record { sender = 0; receiver = 1; extent = x } ∷ record { sender = 1; receiver = 1; extent = Whole } ∷ []

  abbrev lost : T.Trace
  lost = trace_of (delivers (loses f)) 1 0 (space 1) (scan_then 1 two)

  abbrev ran : T.Trace
  ran = scanned ∷ R.seen 1 (R.deliver 0 1 x) (E.refuse 3 [])
      ∷ R.seen 1 (R.deliver 1 1 Whole) (silent (returned None) no_view []) ∷ []

  runs : lost ≡ ran
  unfolding trace_from
  runs = rw (h, scan-seen) refl

  handed : T.waits ran 1 1 ≡ []
  unfolding T.let_out_to T.handed_over H.sent_to ℕ_discrete decide
  handed = refl

  none-waits : NothingWaits 1 lost
  none-waits = of_one lost (ap (λ tr. T.waits tr 1 1) runs ∙ handed)

  stands : T.stopped lost 1 ≡ false
  unfolding T.stopped
  stands = ap (λ tr. T.stopped tr 1) runs

  unfinished : Finished (T.fate lost 0) → ⊥
  unfolding T.first_ending ℕ_discrete decide
  unfinished e = subst (λ tr. Finished (T.fate tr 0)) runs e

abbrev is_whole : Extent → Bool
is_whole x = not (is_cut x)

never-finishes : RuledOut (delivers (loses is_whole))
never-finishes P = unfinished is_whole Whole refl
    (P.absences.whole 1 0 1 size (omega arith) one (space 1) (long-space 1)
    (two is_whole Whole refl) (refl, (refl, tt)) (none-waits is_whole Whole refl)).finished

never-finishes-cut : RuledOut (delivers (loses is_cut))
never-finishes-cut P = unfinished is_cut (Cut 0) refl
    (P.absences.cut 1 0 1 size (omega arith) one (space 1) (long-space 1)
    (two is_cut (Cut 0) refl) (stands is_cut (Cut 0) refl) (none-waits is_cut (Cut 0) refl)).finished
