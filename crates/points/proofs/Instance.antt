-- The point on absences, of the run of the calls; and a list that it speaks of: the scan of a cluster of one node and
-- its five deliveries, after which nothing waits. So its premise can be met.
use Prim.Native.Nat.{ℕ, ◌+◌, ◌<◌}
use native.Mathlib.Omega.{arith}
use native.Mathlib.Decide.{ℕ_discrete, dec_le, dec_lt}
use mathlib.Core.Path.{◌≡◌, refl, sym, ap, ap₂, ◌∙◌, subst}
use mathlib.Core.Bool.{false, decide}
use mathlib.Core.List.{List, [], ◌∷◌, map}
use lib.ListN.{length}
use Rattle.view.specs.Size.{nodes}
use Rattle.logs.specs.Count.{count}
use Rattle.logs.specs.Update.{upd, upd2}
use Rattle.layout.specs.Layout.{cluster_size}
use Rattle.events.specs.Event.{Result, fresh}
use Rattle.history.specs.Event.{sent_to}
use Rattle.history.specs.Trace as T
use Rattle.history.specs.Order.{OneTo, Finished}
use Rattle.algorithm.specs.Algorithm.{same, limit, has, included_up_to, newest, table, kept, move_on}
use Rattle.eqaso.specs.Cluster as K
use Rattle.eqaso.specs.Cluster.{entries, roomy, event}
use Rattle.mirror.specs.Mirrors.{channel_room}
use Rattle.mirror.specs.Run as R
use Rattle.mirror.proofs.Demand2.{demand2}
use Rattle.points.specs.Calls as C
use Rattle.points.specs.Absences.{Delivery, scan_then, five, NothingWaits, ShowsNone, Absences}
use Rattle.points.proofs.Absences.{stands, scans, finished, none-shown}

-- The run of the code's calls is the run on bytes.
same-event : (e : R.Event) (b : List ℕ) → C.event C.code e b ≡ R.event e b
same-event (R.begin c o x) b = refl
same-event (R.deliver a c x) b = refl
same-event (R.stop c) b = refl

same-trace : (n : ℕ) (b : List ℕ) (es : List R.Event) → C.trace_from C.code n b es ≡ R.trace_from n b es
unfolding C.trace_from R.trace_from
same-trace n b [] = refl
same-trace n b (e ∷ es) = ap (λ (r : Result). R.seen n e r ∷ C.trace_from C.code n r.bytes es) (same-event e b)
    ∙ ap (λ l. R.seen n e (R.event e b) ∷ l) (same-trace n (R.event e b).bytes es)

-- Computed of the algorithm over sets.
all-handed : T.waits (K.trace 1 0 channel_room (map R.meaning (scan_then 1 five))) 1 1 ≡ []
unfolding K.trace_from event roomy sent_to entries move_on kept table newest included_up_to has limit same upd upd2
    count
    ℕ_discrete dec_le dec_lt decide T.let_out_to T.handed_over
all-handed = refl

nothing-waits : (b : List ℕ) → length b ≡ cluster_size 1 → NothingWaits 1 (R.trace_of 1 0 b (scan_then 1 five))
nothing-waits b long a c (lo, hi) (low, high) up =
    let first : a ≡ 1 = omega arith in
    let second : c ≡ 1 = omega arith in
    ap₂ (λ x y. T.waits (R.trace_of 1 0 b (scan_then 1 five)) x y) first second
    ∙ ap (λ tr. T.waits tr 1 1) ((demand2 1 0 (omega arith, omega arith) (omega arith) b long).same (scan_then 1 five))
    ∙ all-handed

none-of-code : (n f c : ℕ) → OneTo nodes n → f + f < n → OneTo n c → (b : List ℕ) → length b ≡ cluster_size n
    → (ds : List Delivery)
    → T.stopped (C.trace_of C.code n f b (scan_then c ds)) c ≡ false
    → NothingWaits n (C.trace_of C.code n f b (scan_then c ds)) → ShowsNone C.code n f c b ds
none-of-code n f c size half at b long ds up quiet = record {
  begun = ap (λ tr. T.begun tr 0) e ∙ scans n f c size half at b long ds;
  finished = subst (λ tr. Finished (T.fate tr 0)) (sym e)
      (finished n f c size half at b long ds stands-still none-waits);
  view = ap (λ tr. T.scan_view (T.fate tr 0)) e ∙ none-shown n f c size half at b long ds stands-still none-waits;
}
  where
    e : C.trace_of C.code n f b (scan_then c ds) ≡ R.trace_of n f b (scan_then c ds)
    e = same-trace n (fresh n f b).bytes (scan_then c ds)

    stands-still : T.stopped (R.trace_of n f b (scan_then c ds)) c ≡ false
    stands-still = subst (λ tr. T.stopped tr c ≡ false) e up

    none-waits : NothingWaits n (R.trace_of n f b (scan_then c ds))
    none-waits = subst (NothingWaits n) e quiet

pub absences-hold : Absences C.code
absences-hold = record {
  whole = λ n f c size half at b long ds w quiet. none-of-code n f c size half at b long ds
      (stands C.code n f ds w b c) quiet;
  cut = none-of-code;
  all-delivered = λ b long.
      subst (NothingWaits 1) (sym (same-trace 1 (fresh 1 0 b).bytes (scan_then 1 five))) (nothing-waits b long);
}
