-- The point on absences: a look at a fresh house, all delivered, shows n absences.
use Rattle.std.specs.Prelude.{ℕ, ◌+◌, ◌<◌, ◌≡◌, false, List, [], ◌∷◌, map, length, replicate}
use Rattle.view.specs.Size.{nodes}
use Rattle.record.specs.declared.Operation.TheVariants.{Scan}
use Rattle.layout.specs.Layout.{cluster_size}
use Rattle.outgoing.specs.declared.Extent.{Extent}
use Rattle.outgoing.specs.declared.Extent.TheVariants.{Whole}
use Rattle.history.specs.Message.{absent}
use Rattle.history.specs.Trace as T
pub use Rattle.history.specs.Order.{NothingWaits}
use Rattle.history.specs.Order.{OneTo, Finished}
use Rattle.mirror.specs.Run as R
use Rattle.points.specs.Calls.{Calls, code, trace_of}

-- A delivery with any numbers, whole or cut.
pub record Delivery : Type 0 where
  pub sender : ℕ
  pub receiver : ℕ
  pub extent : Extent

abbrev pub delivery : Delivery → R.Event
delivery d = R.deliver d.sender d.receiver d.extent

-- The scan of node c, and then deliveries, in any order and refused ones among them.
abbrev pub scan_then : ℕ → List Delivery → List R.Event
scan_then c ds = R.begin c Scan Whole ∷ map delivery ds

abbrev pub AllWhole : List Delivery → Type 0
AllWhole [] = Unit {0}
AllWhole (d ∷ ds) = (d.extent ≡ Whole) × AllWhole ds

-- The operation that began at index 0 is a scan that has finished, and its view is n times no report. As n is not 0,
-- `begun` and `finished` follow from `view`.
pub record ShowsNone (calls : Calls) (n f c : ℕ) (b : List ℕ) (ds : List Delivery) : Type 0 where
  pub begun : T.begun (trace_of calls n f b (scan_then c ds)) 0 ≡ T.scanning c
  pub finished : Finished (T.fate (trace_of calls n f b (scan_then c ds)) 0)
  pub view : T.scan_view (T.fate (trace_of calls n f b (scan_then c ds)) 0) ≡ replicate n absent

-- Five deliveries at a cluster of one node.
abbrev pub five : List Delivery
five = replicate 5 (record { sender = 1; receiver = 1; extent = Whole })

pub record Absences (calls : Calls) : Type 0 where
  -- With whole deliveries. It follows from the next clause, since these stop no node, and rules out no call that that
  -- one does not.
  pub whole : (n f c : ℕ) → OneTo nodes n → f + f < n → OneTo n c → (b : List ℕ) → length b ≡ cluster_size n
      → (ds : List Delivery)
      → AllWhole ds → NothingWaits n (trace_of calls n f b (scan_then c ds)) → ShowsNone calls n f c b ds
  -- With cut deliveries too, where the scan's node has not stopped.
  pub cut : (n f c : ℕ) → OneTo nodes n → f + f < n → OneTo n c → (b : List ℕ) → length b ≡ cluster_size n
      → (ds : List Delivery)
      → T.stopped (trace_of calls n f b (scan_then c ds)) c ≡ false
      → NothingWaits n (trace_of calls n f b (scan_then c ds)) → ShowsNone calls n f c b ds
  -- There is such a list: at the code's cluster of one node, the scan and its five deliveries.
  pub all-delivered : (b : List ℕ) → length b ≡ cluster_size 1 → NothingWaits 1 (trace_of code 1 0 b (scan_then 1 five))
