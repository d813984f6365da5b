-- The second half of demand 3: where no message waits for a standing node, no operation is open.
use Prim.Native.Nat.{ℕ, ◌+◌, ◌<◌}
use mathlib.Core.Path.{◌≡◌, refl, sym, subst, ap, ◌∙◌}
use mathlib.Core.Bool.{Bool, false}
use mathlib.Core.List.{List}
use Rattle.history.specs.Event.{Event}
use Rattle.history.specs.Trace.{Trace, Begun, nothing, updating, scanning, begun, Fate, unfinished, ended, fate}
use Rattle.history.specs.Trace.{stopped}
use Rattle.history.specs.Order.{OneTo, Finished, ClosedBy, NothingWaits, Quiet}
use Rattle.algorithm.specs.Algorithm.{idle}
use Rattle.eqaso.specs.Cluster.{Cluster, start, after, trace}
use Rattle.eqaso.proofs.Linked.{Linked, linked, waits-is}
use Rattle.eqaso.proofs.Book.{book_of, At}
use Rattle.eqaso.proofs.Facts.{Fit}
use Rattle.eqaso.proofs.Course.{Rests}
use Rattle.eqaso.proofs.History.{mode-rests}
use Rattle.eqaso.proofs.Good.{Good}
use Rattle.eqaso.proofs.Run.{good}
use Rattle.eqaso.proofs.Empty.{all-idle}

-- No operation of a node is unfinished, if the node is idle.
closed : {n f : ℕ} {σ : Cluster} {tr : Trace} → f + f < n → Linked n f σ tr → Good n f σ tr
    → NothingWaits n tr → (t c : ℕ) → OneTo n c → At ((book_of tr).begun t) c → stopped tr c ≡ false
    → ¬ ((book_of tr).fate t ≡ unfinished)
closed {n} {f} {σ} {tr} half L g empty t c one at up =
    (mode-rests n f (book_of tr) c _ _ _ (g.sites c).node.wait (subst Rests (sym still) tt)).0
    (g.history.modes c stands) t at
  where
    stands : σ.stopped c ≡ false
    stands = sym (L.same-stopped c) ∙ up

    still : (g.sites c).node.wait ≡ idle
    still = ap (λ ν. (ν c).wait) (sym g.same) ∙ all-idle half g L.few
        (λ a b ha hb s. sym (waits-is L a b s) ∙ empty a b ha hb (L.same-stopped b ∙ s)) c one stands

finished : (x : Fate) → ¬ (x ≡ unfinished) → Finished x
finished unfinished h = h refl
finished (ended k e) h = tt

-- An unfinished operation is one of a node.
node_of : (n c : ℕ) (b : Begun) (x : Fate) (s : ℕ) → At b c → x ≡ unfinished → Fit n b x s → OneTo n c
node_of n c b x s at e fit = go b at (subst (λ z. Fit n b z s) e fit)
  where
    go : (b : Begun) → At b c → Fit n b unfinished s → OneTo n c
    go nothing h o = elim h [ ]
    go (updating a p) h o = subst (OneTo n) h o
    go (scanning a) h o = subst (OneTo n) h o.0

pub quiet : (n f : ℕ) (room : ℕ → Bool) → f + f < n → (es : List Event) → Quiet n (trace n f room es)
unfolding book_of
quiet n f room half es empty t = by (begun tr t) refl
  where
    tr : Trace
    tr = trace n f room es

    g : Good n f (after n f room start es) tr
    g = good n f room half es

    ends : (c : ℕ) → At (begun tr t) c → stopped tr c ≡ false → Finished (fate tr t)
    ends c at up = finished (fate tr t) λ e. closed half (linked n f room es) g empty t c
        (node_of n c (begun tr t) (fate tr t) ((book_of tr).tag t) at e (g.kept.facts.fit t)) at up e

    by : (b : Begun) → begun tr t ≡ b → ClosedBy tr t b
    by nothing e = tt
    by (updating c p) e = λ up. ends c (subst (λ b. At b c) (sym e) refl) up
    by (scanning c) e = λ up. ends c (subst (λ b. At b c) (sym e) refl) up
