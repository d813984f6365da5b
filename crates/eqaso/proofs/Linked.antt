-- The state of a cluster and the trace that led to it agree: who has stopped, and what waits on the channels.
use Prim.Native.Nat.{ℕ, ◌≤◌}
use native.Mathlib.Omega.{arith}
use mathlib.Core.Path.{◌≡◌, refl, ap, sym, subst, ◌∙◌}
use mathlib.Core.Logic.{inl, inr}
use mathlib.Core.Bool.{Bool, false, ◌||◌}
use mathlib.Core.List.Memᴰ
use mathlib.Core.List.{List, [], ◌∷◌, ◌++◌, append_assoc}
use lib.ListN.{length, length-append}
use lib.Seq.{drop_at}
use Rattle.logs.specs.Count.{count}
use Rattle.logs.proofs.Count.{count_none}
use Rattle.logs.specs.Log.{◌∈◌}
use Rattle.history.specs.Message.{Message}
use Rattle.history.specs.Event.{Event}
use Rattle.history.specs.Trace.{Seen, Trace, stops_by, stopped, let_out_to, handed_over, waits}
use Rattle.history.specs.Order.{OneTo}
use Rattle.algorithm.specs.Algorithm.{fresh}
use Rattle.eqaso.specs.Cluster.{Cluster, start, after, seen, trace}
use Rattle.eqaso.proofs.Reach.{Reaches}
use Rattle.eqaso.proofs.Happened.{Happened, outcome, always}
use Rattle.eqaso.proofs.Snoc.{stopped-snoc, let_out_to-snoc, handed_over-snoc, passed}
use Rattle.eqaso.proofs.Effects.{stops-is, few-is, Moved, moved, stood-before, outside-is, passed-reach}

-- What was let out from a to b is what was handed over, and then ch.
abbrev pub HandedThen : Trace → ℕ → ℕ → List Message → Type 0
HandedThen tr a b ch = (l : List Message) × (handed_over tr a b ≡ length l) × (let_out_to tr a b ≡ l ++ ch)

pub record Linked (n f : ℕ) (σ : Cluster) (tr : Trace) : Type 0 where
  pub same-stopped : (c : ℕ) → stopped tr c ≡ σ.stopped c
  pub few : count σ.stopped n ≤ f
  pub handed : (a b : ℕ) → σ.stopped b ≡ false → HandedThen tr a b (σ.channel a b)
  -- Only nodes send, and only to nodes but for answers.
  pub reach : (a b : ℕ) (m : Message) → m ∈ let_out_to tr a b → OneTo n a × Reaches n b m
  -- Numbers that are no node's.
  pub outside : (c : ℕ) → ¬ OneTo n c → (σ.nodes c ≡ fresh) × (σ.stopped c ≡ false)

pub waits-is : {n f : ℕ} {σ : Cluster} {tr : Trace} → Linked n f σ tr → (a b : ℕ) → σ.stopped b ≡ false
    → waits tr a b ≡ σ.channel a b
waits-is {n} {f} {σ} L a b s = let (l, counted, is) = L.handed a b s in
    rw (is, counted) (drop_at l (σ.channel a b) (length l) refl)

linked-kept : (n f : ℕ) (σ : Cluster) (tr : Trace) (e : Event) (h : Happened n f σ e) → Linked n f σ tr
    → Linked n f (outcome h).cluster (tr ++ (seen e (outcome h) ∷ []))
linked-kept n f σ tr e h L = record {
  same-stopped = λ c.
      stopped-snoc tr o c ∙ ap (λ z. z || stops_by e (outcome h).answer c) (L.same-stopped c) ∙ sym (stops-is h c);
  few = few-is h L.few;
  handed = λ a b s. more a b (moved h a b s) (L.handed a b (stood-before h b s));
  reach = λ a b m i. elim (Memᴰ.append_cases (let_out_to tr a b) (subst (λ z. m ∈ z) (let_out_to-snoc tr o a b) i))
      [ inl j ↦ L.reach a b m j | inr j ↦ passed-reach h a b j ];
  outside = λ c out. let (x, y) = outside-is h c out in let (z, w) = L.outside c out in (x ∙ z, y ∙ w);
}
  where
    o : Seen
    o = seen e (outcome h)

    more : (a b : ℕ) → Moved a b (σ.channel a b) ((outcome h).cluster.channel a b) (seen e (outcome h))
        → HandedThen tr a b (σ.channel a b) → HandedThen (tr ++ (o ∷ [])) a b ((outcome h).cluster.channel a b)
    more a b M (l, counted, is) = (
      l ++ M.handed,
      rw (handed_over-snoc tr o a b, counted, length-append l M.handed, M.counted) refl,
      let_out_to-snoc tr o a b ∙ ap (λ z. z ++ passed o a b) is ∙ append_assoc l (σ.channel a b) (passed o a b)
          ∙ ap (λ z. l ++ z) M.moves ∙ sym (append_assoc l M.handed ((outcome h).cluster.channel a b)),
    )

linked-start : (n f : ℕ) → Linked n f start []
unfolding stopped handed_over let_out_to
linked-start n f = record {
  same-stopped = λ c. refl;
  few = let h = count_none n in omega arith;
  handed = λ a b s. ([], refl, refl);
  reach = λ a b m i. elim i [ ];
  outside = λ c out. (refl, refl);
}

pub linked : (n f : ℕ) (room : ℕ → Bool) (es : List Event) → Linked n f (after n f room start es) (trace n f room es)
linked n f room = always n f room (Linked n f) (linked-kept n f) (linked-start n f)

-- What holds at the start, and is kept by whatever happens where state and trace are linked, holds always.
pub always-linked {ℓ} : (n f : ℕ) (room : ℕ → Bool) (P : Cluster → Trace → Type ℓ) → P start []
    → ((σ : Cluster) (tr : Trace) (e : Event) (h : Happened n f σ e) → Linked n f σ tr → P σ tr
    → P (outcome h).cluster (tr ++ (seen e (outcome h) ∷ [])))
    → (es : List Event) → P (after n f room start es) (trace n f room es)
always-linked n f room P p kept es = (always n f room (λ σ tr. Linked n f σ tr × P σ tr)
    (λ σ tr e h (L, q). (linked-kept n f σ tr e h L, kept σ tr e h L q)) (linked-start n f, p) es).1
