-- What every run is known to keep of the sets of its nodes: that a bounded record can follow them.
use Prim.Native.Nat.{ℕ, ◌+◌, ◌<◌}
use mathlib.Core.Path.{◌≡◌, ◌∙◌, ap, sym, subst}
use mathlib.Core.Logic.{◌⊎◌, inl, inr}
use mathlib.Core.Bool.{Bool, false}
use mathlib.Core.List.{List, ◌∷◌}
use Rattle.logs.specs.Log.{◌∈◌}
use Rattle.history.specs.Message.{Value, Message, value}
use Rattle.history.specs.Event.{Operation, Round, Event}
use Rattle.history.specs.Order.{OneTo}
use Rattle.algorithm.specs.Algorithm.{comparing, Node}
use Rattle.algorithm.proofs.Cert.{Log, Logs}
use Rattle.algorithm.proofs.Local.{Past, Pending, Local}
use Rattle.algorithm.proofs.Sites.{logs}
use Rattle.eqaso.specs.Cluster.{Cluster, start, after, trace}
use Rattle.eqaso.proofs.Closure.{writer-sent}
use Rattle.eqaso.proofs.Arrival.{expected}
use Rattle.eqaso.proofs.Channel.{fits-hand}
use Rattle.eqaso.proofs.Bounded.{BoundedNode}
use Rattle.eqaso.specs.Bounded.{Expected}
use Rattle.eqaso.proofs.Good.{Good, coming}
use Rattle.eqaso.proofs.Run.{good}

-- A node that compares holds all that it has sent, its own values among them.
pub sent-held : {n f : ℕ} {out : Logs} {γ : Past} {i r : ℕ} {op : Operation} {ν : Node} {l : Log}
    → Local n f out γ i r op ν l
    → {o : Operation} {rnd : Round} {t : ℕ} → ν.wait ≡ comparing o rnd t → (v : Value) → value v ∈ l → v ∈ ν.all
sent-held {n} {f} {out} {γ} {i} {r} {op} {ν} c {o} {rnd} {t} e v m = go (c.have (value v) m).0
  where
    go : (v ∈ ν.all) ⊎ Pending i r op ν.wait v → v ∈ ν.all
    go (inl x) = x
    go (inr p) = absurd (subst (λ w. Pending i r op w v) e p)

module _ (n f : ℕ) (room : ℕ → Bool) (half : f + f < n) (es : List Event) where
  abbrev end : Cluster
  end = after n f room start es

  run : Good n f end (trace n f room es)
  run = good n f room half es

  node-is : (c : ℕ) → (run.sites c).node ≡ end.nodes c
  node-is c = ap (λ z. z c) (sym run.same)

  -- The sets of every node are bounded.
  pub run-bounded : (c : ℕ) → BoundedNode n (end.nodes c)
  run-bounded c = subst (λ ν. BoundedNode n ν) (node-is c) (run.orderly.bounded c)

  -- The message that has waited longest for a node that stands is as the node expects it.
  pub run-expected : (a b : ℕ) (m : Message) (rest : List Message) → OneTo n b → end.stopped b ≡ false
      → end.channel a b ≡ m ∷ rest → Expected n a (end.nodes b) m
  run-expected a b m rest node stands e =
      let d = (fits-hand run.fits a b node stands e).0 in
      subst (λ ν. Expected n a ν m) (node-is b)
      (expected n f half run.inv run.orderly b a m d.place (coming run.fits d))

  -- A node that compares holds every own value that any node holds.
  pub run-own-held : (c j : ℕ) (o : Operation) (rnd : Round) (t : ℕ) (v : Value)
      → (end.nodes c).wait ≡ comparing o rnd t
      → v.writer ≡ c → v ∈ (end.nodes j).all → v ∈ (end.nodes c).all
  run-own-held c j o rnd t v e w m =
      let sent = writer-sent n f (logs run.sites) (λ k. (run.inv k).due) j
      ((run.inv j).sent v (subst (λ ν. v ∈ ν.all) (sym (node-is j)) m)) in
      subst (λ ν. v ∈ ν.all) (node-is c) (sent-held (run.inv c) (ap (λ ν. ν.wait) (node-is c) ∙ e) v
      (subst (λ z. value v ∈ (run.sites z).log) w sent))
