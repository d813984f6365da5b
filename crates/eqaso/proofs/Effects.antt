-- What one event does to who has stopped and to what waits, in the words of a trace.
use Prim.Native.Nat.{ℕ, ◌≤◌}
use native.Mathlib.Omega.{arith}
use native.Mathlib.Decide.{ℕ_discrete}
use mathlib.Core.Path.{◌≡◌, refl, ap, sym, subst, ◌∙◌}
use mathlib.Core.Logic.{inl, inr, ◌≢◌}
use mathlib.Core.Bool.{Bool, true, false, cond, decide, ◌||◌, or-false, or-true, true≢false}
use mathlib.Core.List.{List, [], ◌∷◌, ◌++◌, append-nil, append_assoc}
use lib.ListN.{length}
use Rattle.logs.specs.Count.{count}
use Rattle.logs.proofs.Count.{count-one}
use Rattle.logs.specs.Update.{upd, upd2, upd-by}
use Rattle.logs.proofs.Update.{upd_other, upd2-same, upd2-other}
use Rattle.logs.specs.Log.{◌∈◌}
use Rattle.history.specs.Message.{Message}
use Rattle.history.specs.Event.{Extent, whole, cut, Event, Sent, sent_to}
use Rattle.history.specs.Trace.{Seen, stops_by, handed_in}
use Rattle.history.specs.Order.{OneTo}
use Rattle.algorithm.specs.Algorithm.{Node, begin_step, message_step}
use Rattle.eqaso.specs.Cluster.{entries, shortened, Cluster, refuse, halted, seen, channels}
use Rattle.eqaso.proofs.Reach.{Reaches, sent-reach}
use Rattle.eqaso.proofs.Happened.{Happened, refusal, began, delivered, ceased, Handles, outcome}
use Rattle.eqaso.proofs.Channel.{Channels, channels-from, channels-other}
use Rattle.eqaso.proofs.Snoc.{passed, passed_none}

cut-stops : (s : ℕ → Bool) (c a : ℕ) → upd s c true a ≡ (s a || decide (ℕ_discrete c a))
unfolding upd decide
cut-stops s c a = go (ℕ_discrete a c) (ℕ_discrete c a)
  where
    go : (d : Dec (a ≡ c)) (h : Dec (c ≡ a)) → upd-by d true (s a) ≡ (s a || decide h)
    go (yes e) (yes h) = sym (or-true (s a))
    go (yes e) (no h) = absurd (h (sym e))
    go (no e) (yes h) = absurd (e (sym h))
    go (no e) (no h) = sym (or-false (s a))

pub stops-is : {n f : ℕ} {σ : Cluster} {e : Event} (h : Happened n f σ e) (a : ℕ)
    → (outcome h).cluster.stopped a ≡ (σ.stopped a || stops_by e (outcome h).answer a)
stops-is {n} {f} {σ} (refusal k) a = sym (or-false (σ.stopped a))
stops-is {n} {f} {σ} (began {x = whole} h i r) a = sym (or-false (σ.stopped a))
stops-is {n} {f} {σ} (began {c} {x = cut k} h i r) a = cut-stops σ.stopped c a
stops-is {n} {f} {σ} (delivered {x = whole} h o m rest e) a = sym (or-false (σ.stopped a))
stops-is {n} {f} {σ} (delivered {b} {x = cut k} h o m rest e) a = cut-stops σ.stopped b a
stops-is {n} {f} {σ} (ceased {c} h) a = cut-stops σ.stopped c a

-- No more stop than may.
few-after : (n f c : ℕ) (x : Extent) (σ : Cluster) → Handles n f c x σ → count σ.stopped n ≤ f
    → count (halted x c σ.stopped) n ≤ f
few-after n f c whole σ h few = few
few-after n f c (cut k) σ h few = let one = count-one σ.stopped c n in let may = h.may in omega arith

pub few-is : {n f : ℕ} {σ : Cluster} {e : Event} (h : Happened n f σ e) → count σ.stopped n ≤ f
    → count (outcome h).cluster.stopped n ≤ f
few-is {n} {f} {σ} (refusal k) few = few
few-is {n} {f} {σ} (began {c} {x} h i r) few = few-after n f c x σ h few
few-is {n} {f} {σ} (delivered {b} {x} h o m rest e) few = few-after n f b x σ h few
few-is {n} {f} {σ} (ceased {c} h) few = few-after n f c (cut 0) σ h few

-- What an event hands over from a to b, at most one message, and what it lets out.
pub record Moved (a b : ℕ) (before now : List Message) (o : Seen) : Type 0 where
  pub handed : List Message
  pub counted : handed_in o.event o.answer a b ≡ length handed
  pub moves : before ++ passed o a b ≡ handed ++ now

moves-by : (stops : ℕ → Bool) (c : ℕ) (l : List Sent) (before now : Channels) (a b : ℕ) (handed : List Message)
    → stops b ≡ false → before a b ≡ handed ++ now a b
    → before a b ++ cond (decide (ℕ_discrete c a)) (sent_to b l) [] ≡ handed ++ channels stops c l now a b
unfolding decide
moves-by stops c l before now a b handed s is =
    ap (λ z. z ++ cond (decide (ℕ_discrete c a)) (sent_to b l) []) is
    ∙ append_assoc handed (now a b) (cond (decide (ℕ_discrete c a)) (sent_to b l) [])
    ∙ ap (λ z. handed ++ z) (go (ℕ_discrete c a))
  where
    go : (d : Dec (c ≡ a)) → now a b ++ cond (decide d) (sent_to b l) [] ≡ channels stops c l now a b
    go (yes e) =
        subst (λ z. now z b ++ sent_to b l ≡ channels stops c l now z b) e (sym (channels-from stops c l now b s))
    go (no e) = append-nil (now a b) ∙ sym (channels-other stops c l now a b s (λ h. e (sym h)))

popped : (channel : Channels) (d c : ℕ) (m : Message) (rest : List Message) → channel d c ≡ m ∷ rest → (a b : ℕ)
    → (hs : List Message) × (cond (decide (ℕ_discrete d a)) (cond (decide (ℕ_discrete c b)) 1 0) 0 ≡ length hs)
    × (channel a b ≡ hs ++ upd2 channel d c rest a b)
unfolding decide
popped channel d c m rest is a b = go (ℕ_discrete d a) (ℕ_discrete c b)
  where
    go : (x : Dec (d ≡ a)) (y : Dec (c ≡ b)) → (hs : List Message)
        × (cond (decide x) (cond (decide y) 1 0) 0 ≡ length hs) × (channel a b ≡ hs ++ upd2 channel d c rest a b)
    go (yes e) (yes h) = (
      m ∷ [],
      refl,
      subst (λ z. channel z b ≡ m ∷ upd2 channel d c rest z b) e
          (subst (λ z. channel d z ≡ m ∷ upd2 channel d c rest d z) h (rw (upd2-same channel d c rest) is)),
    )
    go (yes e) (no h) = ([], refl, sym (upd2-other channel d c rest a b (inr (λ x. h (sym x)))))
    go (no e) h = ([], refl, sym (upd2-other channel d c rest a b (inl (λ x. e (sym x)))))

pub moved : {n f : ℕ} {σ : Cluster} {e : Event} (h : Happened n f σ e) (a b : ℕ) → (outcome h).cluster.stopped b ≡ false
    → Moved a b (σ.channel a b) ((outcome h).cluster.channel a b) (seen e (outcome h))
unfolding sent_to
moved {n} {f} {σ} {e} (refusal k) a b s = record {
  handed = [];
  counted = refl;
  moves = rw (passed_none (seen e (refuse k σ)) a b refl) (append-nil (σ.channel a b));
}
moved {n} {f} {σ} (began {c} {op} {x} h i r) a b s = record {
  handed = [];
  counted = refl;
  moves = moves-by (halted x c σ.stopped) c (shortened x (entries n (begin_step n f c op (σ.nodes c)).sent))
      σ.channel σ.channel a b [] s refl;
}
moved {n} {f} {σ} (delivered {a = d} {b = c} {x} h o m rest e) a b s =
    let (hs, counted, is) = popped σ.channel d c m rest e a b in
    record {
      handed = hs;
      counted = counted;
      moves = moves-by (halted x c σ.stopped) c (shortened x (entries n (message_step n f c d m (σ.nodes c)).sent))
          σ.channel (upd2 σ.channel d c rest) a b hs s is;
    }
moved {n} {f} {σ} (ceased {c} h) a b s = record {
  handed = [];
  counted = refl;
  moves = moves-by (halted (cut 0) c σ.stopped) c [] σ.channel σ.channel a b [] s refl;
}

pub stood-before : {n f : ℕ} {σ : Cluster} {e : Event} (h : Happened n f σ e) (b : ℕ)
    → (outcome h).cluster.stopped b ≡ false → σ.stopped b ≡ false
stood-before {n} {f} {σ} {e} h b s = go (σ.stopped b) refl
  where
    go : (z : Bool) → σ.stopped b ≡ z → σ.stopped b ≡ false
    go true is = absurd (true≢false (ap (λ z. z || stops_by e (outcome h).answer b) (sym is) ∙ sym (stops-is h b) ∙ s))
    go false is = is

-- Only a node changes.
stays : {n f c : ℕ} {x : Extent} {σ : Cluster} → Handles n f c x σ → (a : ℕ) → ¬ OneTo n a → (ν : Node)
    → (upd σ.nodes c ν a ≡ σ.nodes a) × (halted x c σ.stopped a ≡ σ.stopped a)
stays {n} {f} {c} {x} {σ} h a out ν = (upd_other σ.nodes c ν a other, still-stands x)
  where
    other : a ≢ c
    other e = out (subst (OneTo n) (sym e) h.node)

    still-stands : (x : Extent) → halted x c σ.stopped a ≡ σ.stopped a
    still-stands whole = refl
    still-stands (cut k) = upd_other σ.stopped c true a other

pub outside-is : {n f : ℕ} {σ : Cluster} {e : Event} (h : Happened n f σ e) (c : ℕ) → ¬ OneTo n c
    → ((outcome h).cluster.nodes c ≡ σ.nodes c) × ((outcome h).cluster.stopped c ≡ σ.stopped c)
outside-is {n} {f} {σ} (refusal k) a out = (refl, refl)
outside-is {n} {f} {σ} (began {c} {x} h i r) a out = stays h a out _
outside-is {n} {f} {σ} (delivered {b} {x} h o m rest e) a out = stays h a out _
outside-is {n} {f} {σ} (ceased {c} h) a out = stays h a out (σ.nodes c)

-- Only nodes send, and only to nodes but for answers.
passed-by : {m : Message} {n f c : ℕ} {x : Extent} {σ : Cluster} → Handles n f c x σ → (l : List Message) (a b : ℕ)
    → m ∈ cond (decide (ℕ_discrete c a)) (sent_to b (shortened x (entries n l))) [] → OneTo n a × Reaches n b m
unfolding decide
passed-by {m} {n} {f} {c} {x} h l a b i = go (ℕ_discrete c a) i
  where
    go : (d : Dec (c ≡ a)) → m ∈ cond (decide d) (sent_to b (shortened x (entries n l))) [] → OneTo n a × Reaches n b m
    go (yes e) j = (subst (OneTo n) e h.node, sent-reach n b x l j)
    go (no e) j = elim j [ ]

pub passed-reach : {m : Message} {n f : ℕ} {σ : Cluster} {e : Event} (h : Happened n f σ e) (a b : ℕ)
    → m ∈ passed (seen e (outcome h)) a b → OneTo n a × Reaches n b m
unfolding sent_to
passed-reach {m} {n} {f} {σ} {e} (refusal k) a b i =
    elim (subst (λ z. m ∈ z) (passed_none (seen e (refuse k σ)) a b refl) i) [ ]
passed-reach {m} {n} {f} {σ} (began {c} {op} h r q) a b i = passed-by h (begin_step n f c op (σ.nodes c)).sent a b i
passed-reach {m} {n} {f} {σ} (delivered {a = d} {b = c} h o k rest e) a b i =
    passed-by h (message_step n f c d k (σ.nodes c)).sent a b i
passed-reach {m} {n} {f} {σ} (ceased {c} h) a b i = passed-by h [] a b i
