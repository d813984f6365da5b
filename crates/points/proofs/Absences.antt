-- A scan at a fresh cluster and any deliveries after it: once nothing waits it has finished, and it shows no report of
-- any node, since no update was begun.
use Prim.Native.Nat.{ℕ, zero, suc, ◌+◌, ◌-◌, ◌<◌}
use native.Mathlib.Omega.{arith}
use mathlib.Core.Path.{◌≡◌, refl, sym, ap, ap₂, ◌∙◌, subst}
use mathlib.Core.Bool.{false, ◌||◌}
use mathlib.Core.List.{List, [], ◌∷◌, map}
use lib.ListN.{length, get_or, replicate}
use Rattle.octets.specs.Answer.{returned}
use Rattle.octets.proofs.Test.{true-false}
use Rattle.view.specs.Size.{nodes}
use Rattle.record.specs.declared.Operation.TheVariants.{Scan}
use Rattle.step.specs.declared.Ending.TheVariants.{None}
use Rattle.layout.specs.Layout.{cluster_size, stated, node}
use Rattle.events.specs.Event as E
use Rattle.outgoing.specs.declared.Extent.TheVariants.{Whole}
use Rattle.history.specs.Message.{Entry, absent}
use Rattle.history.specs.Event as H
use Rattle.history.specs.Trace as T
use Rattle.history.specs.Order.{OneTo, Finished, IsScan, EndsInKind, SingleOrder, ClosedBy}
use Rattle.algorithm.specs.Algorithm as A
use Rattle.eqaso.specs.Cluster as K
use Rattle.eqaso.proofs.Corollary.{scan-without-updates}
use Rattle.refine.specs.Follows.{Follows}
use Rattle.refine.proofs.Steps.{same-idle, not_full}
use Rattle.mirror.specs.Mirrors.{Mirrors, extent_of}
use Rattle.mirror.specs.SameResult.{response_of}
use Rattle.mirror.specs.Run as R
use Rattle.mirror.proofs.Checks.{is-fit, is-sound}
use Rattle.mirror.proofs.Says.{says-count}
use Rattle.mirror.proofs.Demand3.{demand3}
use Rattle.points.specs.Calls.{Calls, event, trace_from, trace_of}
use Rattle.points.specs.Absences.{Delivery, delivery, scan_then, AllWhole, NothingWaits}
use Rattle.points.proofs.Stops.{start-mirrors}
use Rattle.points.proofs.Begins.{accepts}

abbrev delivers : List Delivery → List R.Event
delivers ds = map delivery ds

-- ---- deliveries begin nothing, and whole ones stop nobody

begins-none : (a b : ℕ) (x : H.Extent) (y : H.Response) → T.begun_by (H.deliver a b x) y ≡ T.nothing
begins-none a b x (H.refused k) = refl
begins-none a b x (H.accepted e) = refl

stops-none : (a b : ℕ) (y : H.Response) (c : ℕ) → T.stops_by (H.deliver a b H.whole) y c ≡ false
stops-none a b (H.refused k) c = refl
stops-none a b (H.accepted e) c = refl

begin-stops-none : (d : ℕ) (y : H.Response) (c : ℕ) → T.stops_by (H.begin d H.scan H.whole) y c ≡ false
begin-stops-none d (H.refused k) c = refl
begin-stops-none d (H.accepted e) c = refl

-- Of any calls.
module _ (calls : Calls) (n : ℕ) where
  abbrev answered : R.Event → List ℕ → H.Response
  answered e b = response_of n (event calls e b).view (event calls e b).answer

  deliveries-stop : (ds : List Delivery) → AllWhole ds → (b : List ℕ) (c : ℕ)
      → T.stopped (trace_from calls n b (delivers ds)) c ≡ false
  unfolding trace_from T.stopped
  deliveries-stop [] w b c = refl
  deliveries-stop (d ∷ ds) (e, w) b c = ap₂ ◌||◌
      (ap (λ x. T.stops_by (H.deliver d.sender d.receiver (extent_of x)) (answered (delivery d) b) c) e
      ∙ stops-none d.sender d.receiver (answered (delivery d) b) c)
      (deliveries-stop ds w (event calls (delivery d) b).bytes c)

  pub stands : (f : ℕ) (ds : List Delivery) → AllWhole ds → (b : List ℕ) (c : ℕ)
      → T.stopped (trace_of calls n f b (scan_then c ds)) c ≡ false
  unfolding trace_from T.stopped
  stands f ds w b c = ap₂ ◌||◌ (begin-stops-none c (answered (R.begin c Scan Whole) (calls.fresh n f b).bytes) c)
      (deliveries-stop ds w (event calls (R.begin c Scan Whole) (calls.fresh n f b).bytes).bytes c)

abbrev Updates : T.Begun → Type 0
Updates T.nothing = ⊥
Updates (T.updating c p) = Unit {0}
Updates (T.scanning c) = ⊥

module _ (n : ℕ) where
  abbrev answers : Delivery → List ℕ → H.Response
  answers d b = response_of n (R.event (delivery d) b).view (R.event (delivery d) b).answer

  deliveries-begin : (ds : List Delivery) (b : List ℕ) (u : ℕ) → T.begun (R.trace_from n b (delivers ds)) u ≡ T.nothing
  unfolding R.trace_from
  deliveries-begin [] b u = refl
  deliveries-begin (d ∷ ds) b zero = begins-none d.sender d.receiver (extent_of d.extent) (answers d b)
  deliveries-begin (d ∷ ds) b (suc u) = deliveries-begin ds (R.event (delivery d) b).bytes u

-- A list of which every entry is absent.
all-absent : (v : List Entry) → ((i : ℕ) → i < length v → get_or v i absent ≡ absent) → v ≡ replicate (length v) absent
all-absent [] h = refl
all-absent (x ∷ v) h = ap₂ (λ y l. y ∷ l) (h 0 (omega arith)) (all-absent v (λ i l. h (suc i) (omega arith)))

absent-view : (n c : ℕ) (x : T.Fate) → EndsInKind n (T.scanning c) x → Finished x
    → ((w : ℕ) → OneTo n w → T.entry_at (T.scan_view x) w ≡ absent) → T.scan_view x ≡ replicate n absent
absent-view n c T.unfinished long end each = elim end [ ]
absent-view n c (T.ended k H.none) long end each = elim long [ ]
absent-view n c (T.ended k (H.done _ _)) long end each = elim long [ ]
absent-view n c (T.ended k H.spent) long end each = elim long [ ]
absent-view n c (T.ended k (H.shown r v)) long end each = all-absent v
    (λ i h.
    let e : i ≡ suc i - 1 = omega arith in
    ap (λ j. get_or v j absent) e ∙ each (suc i) (omega arith, omega arith))
    ∙ ap (λ k. replicate k absent) long

-- ---- the scan

module _ (n f c : ℕ) (size : OneTo nodes n) (half : f + f < n) (at : OneTo n c) (b : List ℕ)
    (long : length b ≡ cluster_size n) where
  abbrev start : List ℕ
  start = (E.fresh n f b).bytes

  mirror : Mirrors n f start K.start
  mirror = start-mirrors n f size half b long

  same-n : stated start ≡ n
  same-n = mirror.shows.states

  in_start : {k : ℕ} → OneTo (stated start) k → OneTo n k
  in_start {k} o = subst (λ j. OneTo j k) same-n o

  follows : Follows n f c A.fresh (node start c)
  follows = (mirror.shows.says c at).node

  -- Its begin is accepted.
  begins : (E.begin c Scan Whole start).answer ≡ returned None
  unfolding A.limit
  begins = accepts start c Scan (record {
    fit = is-fit size.0 size.1 mirror;
    usable = is-sound size.0 size.1 mirror;
    at = subst (λ j. OneTo j c) (sym same-n) at;
    stands = (mirror.shows.says c at).stop;
    idle = same-idle follows.wait;
    left = not_full follows (omega arith);
    cut = λ e. true-false false e refl;
  }) (λ k o up. omega (arith, says-count size.1 (mirror.shows.says k (in_start o)) c at))

  module _ (ds : List Delivery) where
    abbrev tr : T.Trace
    tr = R.trace_of n f b (scan_then c ds)

    abbrev later : List ℕ
    later = (E.begin c Scan Whole start).bytes

    pub scans : T.begun tr 0 ≡ T.scanning c
    unfolding R.trace_from
    scans = ap (λ y. T.begun_by (H.begin c H.scan H.whole) (response_of n (E.begin c Scan Whole start).view y)) begins

    no-update : (u d p : ℕ) → ¬ (T.begun tr u ≡ T.updating d p)
    unfolding R.trace_from
    no-update zero d p e = subst Updates (sym e ∙ scans) tt
    no-update (suc u) d p e = subst Updates (sym e ∙ deliveries-begin n ds later u) tt

    module _ (up : T.stopped tr c ≡ false) (quiet : NothingWaits n tr) where
      pub finished : Finished (T.fate tr 0)
      finished = subst (ClosedBy tr 0) scans ((demand3 n f size half b long (scan_then c ds)).1 quiet 0) up

      order : SingleOrder n tr
      order = (demand3 n f size half b long (scan_then c ds)).0

      is-scan : IsScan (T.begun tr 0)
      is-scan = subst IsScan (sym scans) tt

      pub none-shown : T.scan_view (T.fate tr 0) ≡ replicate n absent
      none-shown = absent-view n c (T.fate tr 0) (subst (λ x. EndsInKind n x (T.fate tr 0)) scans (order.kinds 0))
          finished (scan-without-updates order no-update 0 is-scan finished)
