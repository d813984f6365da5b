-- What an event did, with all that its refusals make sure of; and the induction over lists of events.
use Prim.Native.Nat.{ℕ, ◌-◌, ◌≤◌, ◌<◌}
use native.Mathlib.Decide.{dec_le, dec_lt}
use mathlib.Core.Path.{◌≡◌, refl, sym, subst}
use mathlib.Core.Bool.{Bool, true, false, decide, not, ◌&&◌, false≢true}
use mathlib.Core.List.{List, [], ◌∷◌, ◌++◌, append-nil, append_assoc}
use Rattle.logs.specs.Count.{count}
use Rattle.logs.specs.Update.{upd2}
use Rattle.history.specs.Message.{Message}
use Rattle.history.specs.Event.{Operation, Extent, whole, cut, Event, begin, deliver, stop}
use Rattle.history.specs.Trace.{Trace}
use Rattle.history.specs.Order.{OneTo}
use Rattle.algorithm.specs.Algorithm.{limit, Wait, idle, reading, writing, comparing, borrowing, Step, still}
use Rattle.algorithm.specs.Algorithm.{begin_step, message_step}
use Rattle.algorithm.proofs.Sets.{and_both, not-true}
use Rattle.eqaso.specs.Cluster.{Cluster, start, Result, refuse, seen, trace_from, trace, entries, shortened}
use Rattle.eqaso.specs.Cluster.{commit, demand, holds, roomy, settle, is_node, stands, is_idle, may_cut, may_stop}
use Rattle.eqaso.specs.Cluster.{deliver_first, event, after}

-- One more node may stop, where the event stops one.
abbrev pub MayStop : (n f : ℕ) → Extent → Cluster → Type 0
MayStop n f whole σ = Unit {0}
MayStop n f (cut k) σ = count σ.stopped n < f

-- Node c handles an event of extent x: it is a node and has not stopped, and may stop.
pub record Handles (n f c : ℕ) (x : Extent) (σ : Cluster) : Type 0 where
  pub node : OneTo n c
  pub stands : σ.stopped c ≡ false
  pub may : MayStop n f x σ

-- Node c takes step s and lets out what the extent says.
abbrev pub act : ℕ → ℕ → Extent → Step → (ℕ → ℕ → List Message) → Cluster → Result
act n c x s channel σ = commit c x s (shortened x (entries n s.sent)) channel σ

-- An event was refused, or did what its kind does. What a channel has room for decides only between these two.
pub data Happened (n f : ℕ) (σ : Cluster) : Event → Type 0 where
  refusal : {e : Event} (number : ℕ) → Happened n f σ e
  began : {c : ℕ} {op : Operation} {x : Extent} → Handles n f c x σ → (σ.nodes c).wait ≡ idle
      → 5 ≤ limit - (σ.nodes c).request → Happened n f σ (begin c op x)
  delivered : {a b : ℕ} {x : Extent} → Handles n f b x σ → OneTo n a → (m : Message) (rest : List Message)
      → σ.channel a b ≡ m ∷ rest → Happened n f σ (deliver a b x)
  ceased : {c : ℕ} → Handles n f c (cut 0) σ → Happened n f σ (stop c)

abbrev pub outcome : {n f : ℕ} {σ : Cluster} {e : Event} → Happened n f σ e → Result
outcome {n} {f} {σ} (refusal k) = refuse k σ
outcome {n} {f} {σ} (began {c} {op} {x} h i r) = act n c x (begin_step n f c op (σ.nodes c)) σ.channel σ
outcome {n} {f} {σ} (delivered {a} {b} {x} h o m rest e) =
    act n b x (message_step n f b a m (σ.nodes b)) (upd2 σ.channel a b rest) σ
outcome {n} {f} {σ} (ceased {c} h) = act n c (cut 0) (still (σ.nodes c)) σ.channel σ

-- What the tests of the refusals say.

decided : {P : Type 0} (d : Dec P) → decide d ≡ true → P
unfolding decide
decided (yes p) e = p
decided (no p) e = absurd (false≢true e)

is-node : (n c : ℕ) → is_node n c ≡ true → OneTo n c
is-node n c e = let (lo, hi) = and_both _ _ e in (decided (dec_lt 0 c) lo, decided (dec_le c n) hi)

is-idle : (w : Wait) → is_idle w ≡ true → w ≡ idle
is-idle idle e = refl
is-idle (reading op s u) e = absurd (false≢true e)
is-idle (writing op r t s) e = absurd (false≢true e)
is-idle (comparing op r t) e = absurd (false≢true e)
is-idle (borrowing op t) e = absurd (false≢true e)

may-cut : (n f : ℕ) (x : Extent) (σ : Cluster) → may_cut n f x σ ≡ true → MayStop n f x σ
may-cut n f whole σ e = tt
may-cut n f (cut k) σ e = decided (dec_lt (count σ.stopped n) f) e

-- The result is that of something which happened.
abbrev Found : (n f : ℕ) → Cluster → Event → Result → Type 0
Found n f σ e r = (h : Happened n f σ e) × (r ≡ outcome h)

demanded : {n f : ℕ} {σ : Cluster} {e : Event} {P : Type 0} {r : Result} (d : Dec P) (k : ℕ)
    → (P → Found n f σ e r) → Found n f σ e (demand d k σ r)
demanded (yes p) k next = next p
demanded (no p) k next = (refusal k, refl)

handles : (n f c : ℕ) (x : Extent) (σ : Cluster) → is_node n c ≡ true → not (σ.stopped c) ≡ true
    → may_cut n f x σ ≡ true → Handles n f c x σ
handles n f c x σ node stands may =
    record { node = is-node n c node; stands = not-true _ stands; may = may-cut n f x σ may }

-- a step where there is room: for any step, since it is checked faster of a name than of the step itself
settles : {n f : ℕ} {σ : Cluster} {e : Event} (room : ℕ → Bool) (c : ℕ) (x : Extent) (s : Step)
    (channel : ℕ → ℕ → List Message) (h : Happened n f σ e) → act n c x s channel σ ≡ outcome h
    → Found n f σ e (settle n room c x s channel σ)
settles {n} {f} {σ} room c x s channel h is = demanded (holds (roomy room c n _)) 11 λ fits. (h, is)

pub happened : (n f : ℕ) (room : ℕ → Bool) (e : Event) (σ : Cluster) → Found n f σ e (event n f room e σ)
unfolding event
happened n f room (begin c op x) σ =
    demanded (holds (is_node n c)) 3 λ node.
    demanded (holds (stands σ c)) 4 λ up.
    demanded (holds (is_idle (σ.nodes c).wait)) 5 λ free.
    demanded (dec_le 5 (limit - (σ.nodes c).request)) 6 λ five.
    demanded (holds (may_cut n f x σ)) 10 λ may.
    settles room c x (begin_step n f c op (σ.nodes c)) σ.channel
    (began (handles n f c x σ node up may) (is-idle _ free) five) refl
happened n f room (deliver a b x) σ =
    demanded (holds (is_node n a && is_node n b)) 3 λ nodes.
    demanded (holds (stands σ b)) 4 λ up.
    go nodes up (σ.channel a b) refl
  where
    go : (is_node n a && is_node n b) ≡ true → stands σ b ≡ true → (l : List Message) → σ.channel a b ≡ l
        → Found n f σ (deliver a b x) (deliver_first n f room a b x σ l)
    go nodes up [] e = (refusal 8, refl)
    go nodes up (m ∷ rest) e =
        demanded (holds (may_cut n f x σ)) 10 λ may.
        settles room b x (message_step n f b a m (σ.nodes b)) (upd2 σ.channel a b rest)
        (delivered (handles n f b x σ two.1 up may) (is-node n a two.0) m rest e) refl
      where
        two : (is_node n a ≡ true) × (is_node n b ≡ true)
        two = and_both (is_node n a) (is_node n b) nodes
happened n f room (stop c) σ =
    demanded (holds (is_node n c)) 3 λ node.
    demanded (holds (stands σ c)) 4 λ up.
    demanded (holds (may_stop n f σ)) 10 λ may.
    (ceased (handles n f c (cut 0) σ node up may), refl)

-- What holds at the start and is kept by whatever happens, holds after every list of events.
module _ {ℓ} (n f : ℕ) (room : ℕ → Bool) (P : Cluster → Trace → Type ℓ)
    (kept : (σ : Cluster) (tr : Trace) (e : Event) (h : Happened n f σ e) → P σ tr
    → P (outcome h).cluster (tr ++ (seen e (outcome h) ∷ []))) where
  kept_by : (σ : Cluster) (tr : Trace) (e : Event) → P σ tr
      → P (event n f room e σ).cluster (tr ++ (seen e (event n f room e σ) ∷ []))
  kept_by σ tr e p = let (h, is) = happened n f room e σ in
      subst (λ r. P r.cluster (tr ++ (seen e r ∷ []))) (sym is) (kept σ tr e h p)

  always-from : (σ : Cluster) (tr : Trace) (es : List Event) → P σ tr
      → P (after n f room σ es) (tr ++ trace_from n f room σ es)
  unfolding after trace_from
  always-from σ tr [] p = subst (P σ) (sym (append-nil tr)) p
  always-from σ tr (e ∷ es) p = subst (P _)
      (append_assoc tr (seen e (event n f room e σ) ∷ []) (trace_from n f room _ es))
      (always-from (event n f room e σ).cluster (tr ++ (seen e (event n f room e σ) ∷ [])) es (kept_by σ tr e p))

  pub always : P start [] → (es : List Event) → P (after n f room start es) (trace n f room es)
  always p es = always-from start [] es p
