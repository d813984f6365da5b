-- Programs that the clauses of specs/Session on a session's operations rule out. What is seen of an event fits what the
-- code prints, but the view of a done update, or what a begin lets out, is lost.
use Prim.Native.Nat.{ℕ}
use native.Mathlib.Decide.{ℕ_discrete, dec_le, dec_lt}
use native.Mathlib.Omega.{arith}
use mathlib.Core.Path.{◌≡◌, refl, ap, subst, ◌∙◌}
use mathlib.Core.Bool.{decide}
use mathlib.Core.List.{List, [], ◌∷◌, map}
use lib.ListN.{replicate}
use Rattle.octets.specs.Bytes.{part}
use Rattle.octets.specs.Loop.{up_to, tab}
use Rattle.logs.specs.Count.{count}
use Rattle.logs.specs.Update.{upd, upd2}
use Rattle.view.specs.Report.{no_report, report_of}
use Rattle.record.specs.declared.Operation.TheVariants.{Update}
use Rattle.outgoing.specs.declared.Extent.TheVariants.{Whole}
use Rattle.digits.specs.Decimal.{all_digits, value}
use Rattle.digits.specs.Hex.{all_hex, hex_value, hex_bytes}
use Rattle.lines.specs.Grammar.{number_of, report_in, field_length, word, after, tail_of, event_of, first_of}
use Rattle.input.specs.Input.{lines_from, rest_from}
use Rattle.history.specs.Event as H
use Rattle.history.specs.Event.{none, done, shown, spent}
use Rattle.history.specs.Trace.{Seen, first_ending}
use Rattle.history.specs.Order.{SingleOrder, Quiet}
use Rattle.history.proofs.RuledOutOpen.{open-scan-out}
use Rattle.algorithm.specs.Algorithm.{same, limit, table, move_on, has, included_up_to, newest, kept}
use Rattle.eqaso.specs.Cluster as K
use Rattle.eqaso.specs.Cluster.{trace_from, trace}
use Rattle.mirror.specs.Mirrors.{channel_room}
use Rattle.mirror.specs.Run as R
use Rattle.session.specs.Text.{nodes_in, fresh_of}
use Rattle.session_order.specs.Session.{events_from, trace_in, SessionsOf}
use Rattle.session_order.proofs.RuledOut.{text, asks, some-asks, scanning, traced, seeing}

-- The view that a done update came by is not seen. It is not printed.
abbrev viewless : H.Response → H.Response
viewless (H.refused k) = H.refused k
viewless (H.accepted none) = H.accepted none
viewless (H.accepted (done r v)) = H.accepted (done r [])
viewless (H.accepted (shown r v)) = H.accepted (shown r v)
viewless (H.accepted spent) = H.accepted spent

abbrev blurred : Seen → Seen
blurred o = record { event = o.event; answer = viewless o.answer; sent = o.sent }

-- an update that ends when its ten messages are delivered, as a text and as events
abbrev updates : List ℕ
updates = text ((117 ∷ 32 ∷ 49 ∷ 32 ∷ replicate 16 48) ∷ replicate 10 (100 ∷ 32 ∷ 49 ∷ 32 ∷ 49 ∷ []))

abbrev updating : List R.Event
updating = R.begin 1 (Update no_report) Whole ∷ replicate 10 (R.deliver 1 1 Whole)

read : (nodes_in updates ≡ 1) × (events_from updates ≡ updating)
unfolding lines_from rest_from first_of number_of all_digits value up_to event_of word field_length
    after tail_of
    report_in all_hex hex_bytes hex_value tab report_of part
read = (refl, refl)

-- computed of the algorithm over sets
unviewed : SingleOrder 1 (map blurred (trace 1 0 channel_room (map R.meaning updating))) → ⊥
unfolding trace_from K.event K.roomy H.sent_to K.entries move_on kept table newest included_up_to has limit same upd
    upd2
    count ℕ_discrete dec_le dec_lt decide first_ending
unviewed o = let wrong : ◌≡◌ {A = ℕ} 0 1 = o.kinds 0 in omega (arith, wrong)

pub order-out : ¬ SessionsOf (seeing (λ t. map blurred (trace_in t)))
unfolding lines_from rest_from first_of number_of all_digits value up_to word field_length after
order-out s = unviewed (subst (λ tr. SingleOrder 1 (map blurred tr))
    (ap (R.trace_from 1 (fresh_of 1 0)) read.1 ∙ traced updating)
    (s.order updates λ e. omega (arith, e, read.0)))

-- What a begin lets out is not seen.
abbrev kept_back : H.Event → List H.Sent → List H.Sent
kept_back (H.begin c op x) l = []
kept_back (H.deliver a c x) l = l
kept_back (H.stop c) l = l

abbrev hushed : Seen → Seen
hushed o = record { event = o.event; answer = o.answer; sent = kept_back o.event o.sent }

open-still : Quiet 1 (map hushed (trace 1 0 channel_room (map R.meaning scanning))) → ⊥
unfolding trace_from K.event K.roomy H.sent_to K.entries move_on table limit upd upd2 count ℕ_discrete dec_le dec_lt
    decide
open-still = open-scan-out

pub quiet-out : ¬ SessionsOf (seeing (λ t. map hushed (trace_in t)))
unfolding lines_from rest_from first_of number_of all_digits value up_to event_of word field_length
    after tail_of
quiet-out s = open-still (subst (λ tr. Quiet 1 (map hushed tr)) (traced scanning) (s.quiet asks some-asks))
