-- In a cluster every value that a node is handed arrives as the bounded sets need it.
use Prim.Native.Nat.{ℕ, ◌+◌, ◌<◌}
use mathlib.Core.Path.{◌≡◌}
use mathlib.Core.List.{◌∷◌}
use Rattle.logs.specs.Update.{upd}
use Rattle.logs.proofs.Update.{upd_same, upd-all}
use Rattle.logs.specs.Log.{◌∈◌, ◌⊑◌}
use Rattle.logs.proofs.Log.{⊑-cons, placed}
use Rattle.history.specs.Message.{Value, Message, read, read_answer, write, write_answer, echo, value, good}
use Rattle.history.specs.Event.{Operation}
use Rattle.history.specs.Order.{OneTo}
use Rattle.algorithm.specs.Algorithm.{idle}
use Rattle.algorithm.proofs.Cert.{Log}
use Rattle.algorithm.proofs.Local.{Past, Local}
use Rattle.algorithm.proofs.Change.{handing}
use Rattle.algorithm.proofs.Turn
use Rattle.algorithm.proofs.Sites.{Site, Sites, logs, new, handed, begun, Comes}
use Rattle.algorithm.proofs.World.{Inv}
use Rattle.eqaso.proofs.Closure.{Dues, tag-positive, writer-sent, all_closed}
use Rattle.eqaso.proofs.Rising.{Orders, Rising, older-from, new-low, never-falls}
use Rattle.eqaso.proofs.RisingStep.{rising-begin, rising-message}
use Rattle.eqaso.proofs.Bounded.{BoundedNode, Arrives, bounded-fresh}
use Rattle.eqaso.specs.Bounded.{Expected}
use Rattle.eqaso.proofs.BoundedStep.{bounded-message, bounded-begin}

-- What holds of the logs and sets of all nodes, beside the invariant of the algorithm.
pub record Orderly (n : ℕ) (σ : Sites) : Type 0 where
  -- Only the nodes 1 to n send.
  pub inside : (k : ℕ) (m : Message) → m ∈ (σ k).log → OneTo n k
  pub rising : (k : ℕ) → Rising k (σ k).node.wait (σ k).log
  pub bounded : (k : ℕ) → BoundedNode n (σ k).node

pub orderly-start : (n : ℕ) → Orderly n (λ k. new)
orderly-start n = record {
  inside = λ k m i. elim i [ ];
  rising = λ k. record { order = tt; own = λ v i. elim i [ ] };
  bounded = λ k. bounded-fresh n;
}

module _ (n f : ℕ) (half : f + f < n) {σ : Sites} (inv : Inv n f σ) (o : Orderly n σ) where
  dues : Dues n f (logs σ)
  dues k = (inv k).due

  orders : Orders (logs σ)
  orders k = (o.rising k).order

  module _ (i k : ℕ) (m : Message) (p : Log) (c : Comes σ i k m p) where
    abbrev γ : Past
    γ = handing (upd (σ i).past.got k p) (σ i).past

    before : Local n f (logs σ) γ i (σ i).tag (σ i).op (σ i).node (σ i).log
    before = Turn.skipped n f (inv i) k p c.late (⊑-cons c.at) c.skipped

    next : (m ∷ γ.got k) ⊑ (σ k).log
    next = rw (upd_same (σ i).past.got k p) c.at

  arrives : (i k : ℕ) (v : Value) (p : Log) → Comes σ i k (value v) p
      → Arrives n (σ i).node.all (σ i).node.from (σ i).node.maxtag k v
  arrives i k v p c =
      let here = before i k (value v) p c in
      let at = next i k (value v) p c in
      let sent = writer-sent n f (logs σ) dues k (placed at) in
      let made : (u : Value) → u ∈ (σ i).node.all → value u ∈ (σ u.writer).log =
      λ u m. writer-sent n f (logs σ) dues i (here.sent u m) in
      record {
        tagged = tag-positive n f (logs σ) dues k (placed at);
        writer = o.inside v.writer (value v) sent;
        seen = λ u m h. all_closed n f (logs σ) dues here m sent h;
        older = λ u m e h. older-from n f (logs σ) dues orders here k v at u (made u m) e h;
        low = λ u m e h. new-low n f (logs σ) dues orders here k v at u (made u m) e h;
        rise = λ u m e. never-falls n f (logs σ) dues orders here k v at u m e;
      }

  -- Every message that comes is as expected.
  pub expected : (i k : ℕ) (m : Message) (p : Log) → Comes σ i k m p → Expected n k (σ i).node m
  expected i k (value v) p c = arrives i k v p c
  expected i k (read q) p c = tt
  expected i k (read_answer to q t) p c = tt
  expected i k (write q t) p c = tt
  expected i k (write_answer to q t) p c = tt
  expected i k (echo t) p c = tt
  expected i k (good t v) p c = tt

  -- Another site for node i.
  changed : (i : ℕ) (s : Site) → OneTo n i → Rising i s.node.wait s.log → BoundedNode n s.node
      → Orderly n (upd σ i s)
  changed i s h r b = record {
    inside = upd-all (λ k x. (m : Message) → m ∈ x.log → OneTo n k) σ i s (λ k ne. o.inside k) (λ m e. h);
    rising = upd-all (λ k x. Rising k x.node.wait x.log) σ i s (λ k ne. o.rising k) r;
    bounded = upd-all (λ k x. BoundedNode n x.node) σ i s (λ k ne. o.bounded k) b;
  }

  pub handed-orderly : (i k : ℕ) (m : Message) (p : Log) → OneTo n i → Comes σ i k m p
      → Orderly n (upd σ i (handed n f i k m p (σ i)))
  handed-orderly i k m p h c = changed i (handed n f i k m p (σ i)) h
      (rising-message i n f (logs σ) dues orders (before i k m p c) (o.rising i) k m (next i k m p c))
      (bounded-message n f i k m (σ i).node (o.bounded i) (expected i k m p c))

  pub begun-orderly : (i : ℕ) (op : Operation) → OneTo n i → (σ i).node.wait ≡ idle
      → Orderly n (upd σ i (begun n f i op (logs σ) (σ i)))
  begun-orderly i op h e = changed i (begun n f i op (logs σ) (σ i)) h
      (rising-begin i n f op (σ i).node (σ i).log e (o.rising i))
      (bounded-begin n f i op (σ i).node (o.bounded i))
