-- Where nothing waits on a channel to a standing node, every standing node is idle.
use Prim.Native.Nat.{ℕ, ◌+◌, ◌≤◌, ◌<◌}
use native.Mathlib.Omega.{arith}
use mathlib.Core.Path.{◌≡◌, ap, sym, subst, ◌∙◌}
use mathlib.Core.Bool.{Bool, false, not}
use mathlib.Core.List.{[]}
use Rattle.logs.specs.Count.{count}
use Rattle.logs.proofs.Count.{count-not}
use Rattle.logs.specs.Log.{◌∈◌}
use Rattle.history.specs.Message.{Message, good}
use Rattle.history.specs.Trace.{Trace}
use Rattle.history.specs.Order.{OneTo}
use Rattle.algorithm.specs.Algorithm.{Wait, idle, reading, writing, comparing, borrowing}
use Rattle.algorithm.proofs.Meant.{Meant}
use Rattle.algorithm.proofs.Sets.{not-true}
use Rattle.algorithm.proofs.Sites.{logs}
use Rattle.eqaso.specs.Cluster.{Cluster}
use Rattle.eqaso.proofs.Between.{Between, all-handed}
use Rattle.algorithm.proofs.Mark.{Low}
use Rattle.eqaso.proofs.Standstill.{Lent, Drained, no-wait}
use Rattle.eqaso.proofs.Good.{Good, gots}

module _ {n f : ℕ} {σ : Cluster} {tr : Trace} (half : f + f < n) (R : Good n f σ tr) (few : count σ.stopped n ≤ f)
    (empty : (a b : ℕ) → OneTo n a → OneTo n b → σ.stopped b ≡ false → σ.channel a b ≡ []) where
  abbrev stands : ℕ → Bool
  stands c = not (σ.stopped c)

  -- What was let out to a standing node has been handed over.
  came : (a b : ℕ) → OneTo n a → OneTo n b → σ.stopped b ≡ false → (m : Message) → m ∈ R.gone a b → Meant b m
      → m ∈ gots R.sites b a
  came a b ha hb up = all-handed (subst (λ l. Between b (gots R.sites b a) l (R.gone a b)) (empty a b ha hb up)
      (R.fits.waiting a b hb up))

  -- The view that a node would borrow has come: a node was first with its tag.
  lent : (i : ℕ) → OneTo n i → σ.stopped i ≡ false → (w : Wait) → Low R.alive.M w → Lent (gots R.sites i) w
  lent i hi up idle h = tt
  lent i hi up (reading op s u) h = tt
  lent i hi up (writing op r t s) h = tt
  lent i hi up (comparing op r t) h = tt
  lent i hi up (borrowing op t) h = let (k, hk, view, out) = R.alive.marks.intro t h in
      (k, view, came k i hk hi up (good t view) (out i hi) tt)

  drained : Drained n f stands (λ c. (R.sites c).node) (logs R.sites) (gots R.sites)
  drained = record {
    many = omega (arith, count-not σ.stopped n);
    handed = λ i k hi hk m e meant. came k i hk.0 hi.0 (not-true _ hi.1) m
        (subst (λ l. m ∈ l) (sym (R.fits.gone-all k i (not-true _ hk.1))) e) meant;
    rests = λ i hi. R.alive.rests i;
    live = λ i hi. R.alive.live i;
    took = λ i hi. (R.inv i).took;
    sent = λ i hi. (R.inv i).sent;
    heard = λ i hi. (R.inv i).heard;
    lent = λ i hi. lent i hi.0 (not-true _ hi.1) (R.sites i).node.wait
        (R.alive.marks.low i (not-true _ hi.1));
  }

  pub all-idle : (c : ℕ) → OneTo n c → σ.stopped c ≡ false → (σ.nodes c).wait ≡ idle
  all-idle c hc up = ap (λ ν. (ν c).wait) R.same
      ∙ no-wait n f stands (λ c. (R.sites c).node) (logs R.sites) (gots R.sites) drained c (hc, ap not up)
