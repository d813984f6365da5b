-- Whether an operation has a place in the order can be told from the trace.
use Prim.Native.Nat.{ℕ, ◌<◌}
use native.Mathlib.Decide.{ℕ_discrete, dec_lt}
use native.Mathlib.Omega.{arith}
use mathlib.Core.Path.{◌≡◌, ap, subst}
use lib.ListN.{length}
use Rattle.order.proofs.Select.{some_below}
use Rattle.history.specs.Message.{Entry}
use Rattle.history.specs.Event.{none, done, shown, spent}
use Rattle.history.specs.Trace.{Trace, Begun, nothing, updating, scanning, begun, Fate, unfinished, ended, fate, tag_at}
use Rattle.history.specs.Trace.{scan_view, entry_at}
use Rattle.history.specs.Order.{Finished, IsScan, Shows, PlacedBy, Placed}
use Rattle.eqaso.proofs.Extend.{begun-past}

scan? : (b : Begun) → Dec (IsScan b)
scan? nothing = no λ h. h
scan? (updating c p) = no λ h. h
scan? (scanning c) = yes tt

finished? : (x : Fate) → Dec (Finished x)
finished? unfinished = no λ h. h
finished? (ended k e) = yes tt

entry? : (e : Entry) (t p : ℕ) → Dec (e ≡ record { tag = t; report = p })
entry? e t p = go (ℕ_discrete e.tag t) (ℕ_discrete e.report p)
  where
    go : Dec (e.tag ≡ t) → Dec (e.report ≡ p) → Dec (e ≡ record { tag = t; report = p })
    go (yes a) (yes b) = yes λ i. record { tag = a i; report = b i }
    go (yes a) (no b) = no λ h. b (ap (λ x. x.report) h)
    go (no a) b = no λ h. a (ap (λ x. x.tag) h)

module _ (tr : Trace) where
  shows? : (c t p s : ℕ) → Dec (Shows tr s c t p)
  shows? c t p s = go (scan? (begun tr s)) (finished? (fate tr s)) (dec_lt 0 t)
      (entry? (entry_at (scan_view (fate tr s)) c) t p)
    where
      go : Dec (IsScan (begun tr s)) → Dec (Finished (fate tr s)) → Dec (0 < t)
          → Dec (entry_at (scan_view (fate tr s)) c ≡ record { tag = t; report = p }) → Dec (Shows tr s c t p)
      go (yes a) (yes b) (yes d) (yes e) = yes (record { scan = a; finished = b; tagged = d; entry = e })
      go (no a) b d e = no λ h. a h.scan
      go (yes a) (no b) d e = no λ h. b h.finished
      go (yes a) (yes b) (no d) e = no λ h. d h.tagged
      go (yes a) (yes b) (yes d) (no e) = no λ h. e h.entry

  -- What begins stands before the end of the trace.
  pub scan-before : (s : ℕ) → IsScan (begun tr s) → s < length tr
  scan-before s h = elim (dec_lt s (length tr))
      [ yes lt ↦ lt | no ge ↦ absurd (subst IsScan (begun-past tr s (omega arith)) h) ]

  shown? : (c t p : ℕ) → Dec ((s : ℕ) × Shows tr s c t p)
  shown? c t p = go (some_below (shows? c t p) (length tr))
    where
      go : Dec ((s : ℕ) × (s < length tr) × Shows tr s c t p) → Dec ((s : ℕ) × Shows tr s c t p)
      go (yes (s, lt, h)) = yes (s, h)
      go (no f) = no λ (s, h). f (s, scan-before s h.scan, h)

  placed-by? : (t : ℕ) (b : Begun) (x : Fate) → Dec (PlacedBy tr t b x)
  placed-by? t nothing x = no λ h. h
  placed-by? t (scanning c) x = finished? x
  placed-by? t (updating c p) unfinished = shown? c (tag_at tr t c) p
  placed-by? t (updating c p) (ended k none) = no λ h. h
  placed-by? t (updating c p) (ended k (done r v)) = yes tt
  placed-by? t (updating c p) (ended k (shown r v)) = no λ h. h
  placed-by? t (updating c p) (ended k spent) = no λ h. h

  pub placed? : (t : ℕ) → Dec (Placed tr t)
  placed? t = placed-by? t (begun tr t) (fate tr t)

  pub placed-before : (t : ℕ) → Placed tr t → t < length tr
  placed-before t h = elim (dec_lt t (length tr))
      [ yes lt ↦ lt | no ge ↦ absurd (subst (λ b. PlacedBy tr t b (fate tr t)) (begun-past tr t (omega arith)) h) ]
