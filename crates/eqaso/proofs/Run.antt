-- Every event keeps the invariant, so it holds of every run.
use Prim.Native.Nat.{ℕ, ◌+◌, ◌<◌}
use native.Mathlib.Omega.{arith}
use mathlib.Core.Path.{◌≡◌, refl, sym, subst}
use mathlib.Core.Bool.{Bool, true, false}
use mathlib.Core.List.{List, [], ◌∷◌, ◌++◌}
use Rattle.logs.proofs.Count.{count-not}
use Rattle.logs.specs.Update.{upd, upd2}
use Rattle.logs.proofs.Update.{upd-self}
use Rattle.logs.specs.Log.{◌∈◌}
use Rattle.logs.proofs.Log.{placed}
use Rattle.history.specs.Message.{Message}
use Rattle.history.specs.Event.{Operation, Extent, cut, Event, stop}
use Rattle.history.specs.Trace.{Seen, Trace, handler, tags_sent}
use Rattle.algorithm.specs.Algorithm.{idle, still, begin_step, message_step}
use Rattle.algorithm.proofs.Cert.{Logs}
use Rattle.algorithm.proofs.Sites.{Site, Sites, logs, new, handed, begun, Comes}
use Rattle.algorithm.proofs.World.{Inv, start-inv, handed-inv, begun-inv}
use Rattle.eqaso.specs.Cluster.{Cluster, Result, refuse, commit, start, after, halted, seen, trace, channels}
use Rattle.eqaso.specs.Cluster.{entries, shortened}
use Rattle.eqaso.proofs.Between.{handed-at}
use Rattle.eqaso.proofs.Happened.{Handles, Happened, refusal, began, delivered, ceased, outcome}
use Rattle.eqaso.proofs.Channel.{Fits, fits-start, fits-hand, fits-stop, stood}
use Rattle.eqaso.proofs.Linked.{Linked, always-linked}
use Rattle.eqaso.proofs.Course.{Rests}
use Rattle.eqaso.proofs.Book.{book_of}
use Rattle.eqaso.proofs.Told.{Told, told-start, told_none, told-act}
use Rattle.eqaso.proofs.Kept.{Kept, Next, kept-start, next-silent}
use Rattle.eqaso.proofs.History.{History}
use Rattle.eqaso.proofs.Alive.{Alive, alive-start, alive-handed, alive-begun}
use Rattle.eqaso.proofs.Arrival.{Orderly, orderly-start, handed-orderly, begun-orderly}
use Rattle.eqaso.proofs.Deliver.{Delivery, delivery}
use Rattle.eqaso.proofs.Delivered.{delivery-noted}
use Rattle.eqaso.proofs.Begins.{beginning, begin-noted}
use Rattle.eqaso.proofs.Good.{cluster_of, gots, Good, coming, next_fits, next-good}

no-tags : (c : ℕ) {t : ℕ} → t ∈ tags_sent c [] → ⊥
unfolding tags_sent
no-tags c i = elim i [ ]

module _ (n f : ℕ) (half : f + f < n) (w : Sites) (gone : ℕ → Logs) (stopped : ℕ → Bool)
    (channel : ℕ → ℕ → List Message)
    (tr : Trace) (inv : Inv n f w) (fits : Fits n stopped channel (logs w) gone (gots w)) (kept : Kept n tr)
    (history : History n f stopped w gone (book_of tr)) (alive : Alive n f stopped w gone)
    (orderly : Orderly n w) (told : Told n tr gone) where
  abbrev σ : Cluster
  σ = cluster_of w stopped channel

  -- Nothing is sent and nothing noted.
  silent-good : (stopped' : ℕ → Bool) (channel' : ℕ → ℕ → List Message) (o : Seen)
      → Fits n stopped' channel' (logs w) gone (gots w) → ((d : ℕ) → stopped' d ≡ false → stopped d ≡ false)
      → Next n tr o (book_of tr) → o.sent ≡ [] → Good n f (cluster_of w stopped' channel') (tr ++ (o ∷ []))
  silent-good stopped' channel' o fits' stood next none-sent = record {
    sites = w;
    gone = gone;
    same = refl;
    inv = inv;
    fits = fits';
    kept = next.kept;
    history = subst (History n f stopped' w gone) (sym next.book) (record {
      modes = λ c h. history.modes c (stood c h);
      left = history.left;
      booked = history.booked;
      behind =
          history.behind;
    });
    alive = record {
      rests = alive.rests;
      live = alive.live;
      M = alive.M;
      marks = record {
        top = λ i h. alive.marks.top i (stood i h);
        low = λ i h. alive.marks.low i (stood i h);
        said = alive.marks.said;
        intro = alive.marks.intro;
      };
    };
    orderly = orderly;
    told = told_none o none-sent told;
  }

  begin-good : (c : ℕ) (op : Operation) (x : Extent) → Handles n f c x σ → (w c).node.wait ≡ idle
      → Good n f (record {
        nodes = upd (λ i. (w i).node) c (begin_step n f c op (w c).node).node;
        stopped = halted x c stopped;
        channel = channels (halted x c stopped) c
            (shortened x (entries n (begin_step n f c op (w c).node).sent)) channel;
      })
      (tr ++ (beginning n c op x (begin_step n f c op (w c).node) ∷ []))
  begin-good c op x h i = next-good n f half w gone stopped channel tr c x (begun n f c op (logs w) (w c))
      (begin_step n f c op (w c).node).sent refl (beginning n c op x (begin_step n f c op (w c).node))
      (begun-inv n f half inv c op i).inv
      (subst (λ z. Fits n stopped channel (logs w) gone z) (sym (upd-self (gots w) c)) fits) h.stands
      (begin-noted half kept history c h.node h.stands op x (subst Rests (sym i) tt))
      (alive-begun alive half inv c op (logs w) x h.node h.stands)
      (begun-orderly n f half inv orderly c op h.node i)
      (told-act (beginning n c op x (begin_step n f c op (w c).node)) x
      (begin_step n f c op (w c).node).sent refl told)

  deliver-good : Linked n f σ tr → (a b : ℕ) (x : Extent) → Handles n f b x σ → (m : Message) (rest : List Message)
      → channel a b ≡ m ∷ rest
      → Good n f (record {
        nodes = upd (λ i. (w i).node) b (message_step n f b a m (w b).node).node;
        stopped = halted x b stopped;
        channel = channels (halted x b stopped) b (shortened x (entries n (message_step n f b a m (w b).node).sent))
            (upd2 channel a b rest);
      })
      (tr ++ (delivery n a b x (message_step n f b a m (w b).node) ∷ []))
  unfolding upd2
  deliver-good L a b x h m rest e =
      let (d, F) = fits-hand fits a b h.node h.stands e in
      let s : Site = handed n f b a m d.place (w b) in
      let comes : Comes w b a m d.place = coming fits d in
      let list : List Message = (message_step n f b a m (w b).node).sent in
      let F' = next_fits n f half w gone stopped (upd2 channel a b rest) tr b x s list refl F h.stands in
      let D : Delivery n f half stopped w gone tr b a x m d.place = record {
        inv = inv;
        kept = kept;
        history = history;
        one = h.node;
        stands = h.stands;
        comes = comes;
        came = placed (handed-at d);
        many = omega (arith, count-not stopped n, L.few);
        all = F'.gone-all;
      } in
      next-good n f half w gone stopped (upd2 channel a b rest) tr b x s list refl
      (delivery n a b x (message_step n f b a m (w b).node))
      (handed-inv n f half inv b a m d.place comes).inv F h.stands (delivery-noted D)
      (alive-handed alive half inv b a m d.place x h.node h.stands (placed (handed-at d)) comes)
      (handed-orderly n f half inv orderly b a m d.place h.node comes)
      (told-act (delivery n a b x (message_step n f b a m (w b).node)) x list refl told)

  event-good : Linked n f σ tr → (e : Event) (h : Happened n f σ e)
      → Good n f (outcome h).cluster (tr ++ (seen e (outcome h) ∷ []))
  event-good L e (refusal k) = silent-good stopped channel (seen e (refuse k σ)) fits (λ d h. h)
      (next-silent tr (seen e (refuse k σ)) kept refl refl (λ t i. absurd (no-tags (handler e) i))) refl
  event-good L e (began {c} {op} {x} h i r) = begin-good c op x h i
  event-good L e (delivered {a} {b} {x} h o m rest q) = deliver-good L a b x h m rest q
  event-good L e (ceased {c} h) = subst
      (λ z. Good n f (record {
        nodes = z;
        stopped = upd stopped c true;
        channel =
            channels (upd stopped c true) c [] channel;
      })
      (tr ++ (seen (stop c) stops ∷ [])))
      (sym (upd-self (λ i. (w i).node) c))
      (silent-good (upd stopped c true) (channels (upd stopped c true) c [] channel) (seen (stop c) stops)
      (fits-stop fits c h.stands) (stood (cut 0) c stopped)
      (next-silent tr (seen (stop c) stops) kept refl refl (λ t i. absurd (no-tags c i))) refl)
    where
      stops : Result
      stops = commit c (cut 0) (still (w c).node) [] channel σ

-- Every event keeps the invariant.
good-kept : (n f : ℕ) (half : f + f < n) (σ : Cluster) (tr : Trace) (e : Event) (h : Happened n f σ e) → Linked n f σ tr
    → Good n f σ tr → Good n f (outcome h).cluster (tr ++ (seen e (outcome h) ∷ []))
good-kept n f half σ tr e h L g = subst
    (λ z. Linked n f z tr → (h : Happened n f z e) → Good n f (outcome h).cluster (tr ++ (seen e (outcome h) ∷ [])))
    (λ i. record { nodes = sym g.same i; stopped = σ.stopped; channel = σ.channel })
    (λ L h. event-good n f half g.sites g.gone σ.stopped σ.channel tr g.inv g.fits g.kept
    g.history
    g.alive g.orderly g.told L e h)
    L h

good_start : (n f : ℕ) → Good n f start []
unfolding book_of
good_start n f = record {
  sites = λ i. new;
  gone = λ a b. [];
  same = refl;
  inv = start-inv n f;
  fits = fits-start n;
  kept = kept-start n;
  history = record {
    modes = λ c h u x e. x;
    left = λ a. tt;
    booked = λ a b v one m. elim m [ ];
    behind = λ u y c d p q eu ey h tu ty. absurd h;
  };
  alive = alive-start n f;
  orderly = orderly-start n;
  told = told-start n;
}

-- The invariant holds of every run.
pub good : (n f : ℕ) (room : ℕ → Bool) → f + f < n → (es : List Event)
    → Good n f (after n f room start es) (trace n f room es)
good n f room half = always-linked n f room (Good n f) (good_start n f) (good-kept n f half)
