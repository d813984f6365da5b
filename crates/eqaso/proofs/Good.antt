-- The invariant of a whole run: for the cluster and the trace that led to it there are sites, with all that was sent,
-- handed over and let out, that keep every law of the algorithm and know every operation of the trace.
use Prim.Native.Nat.{ℕ, ◌+◌, ◌<◌}
use mathlib.Core.Path.{◌≡◌, sym, ◌∙◌, ap, subst}
use mathlib.Core.Bool.{Bool, false}
use mathlib.Core.List.{List, [], ◌∷◌, ◌++◌}
use Rattle.logs.specs.Update.{upd}
use Rattle.logs.proofs.Update.{upd-map}
use Rattle.logs.specs.Log.{push}
use Rattle.logs.proofs.Log.{⊑_trans}
use Rattle.history.specs.Message.{Message}
use Rattle.history.specs.Event.{Extent}
use Rattle.history.specs.Trace.{Seen, Trace}
use Rattle.algorithm.proofs.Cert.{Logs}
use Rattle.algorithm.proofs.Sites.{Site, Sites, logs, Comes}
use Rattle.algorithm.proofs.World.{Inv}
use Rattle.eqaso.specs.Cluster.{Cluster, halted, channels, entries, shortened}
use Rattle.eqaso.proofs.Between.{Handed, handed-at}
use Rattle.eqaso.proofs.Channel.{Fits, fits-act}
use Rattle.eqaso.proofs.Book.{Book, book_of}
use Rattle.eqaso.proofs.Told.{Told}
use Rattle.eqaso.proofs.Kept.{Kept, Next}
use Rattle.eqaso.proofs.History.{History}
use Rattle.eqaso.proofs.Alive.{Alive}
use Rattle.eqaso.proofs.Arrival.{Orderly}
use Rattle.eqaso.proofs.Deliver.{letting}

-- The cluster of the sites.
abbrev pub cluster_of : Sites → (ℕ → Bool) → (ℕ → ℕ → List Message) → Cluster
cluster_of w stopped channel = record { nodes = λ i. (w i).node; stopped = stopped; channel = channel }

abbrev pub gots : Sites → ℕ → Logs
gots w i = (w i).past.got

pub record Good (n f : ℕ) (σ : Cluster) (tr : Trace) : Type 0 where
  pub sites : Sites
  pub gone : ℕ → Logs
  pub same : σ.nodes ≡ (λ i. (sites i).node)
  pub inv : Inv n f sites
  pub fits : Fits n σ.stopped σ.channel (logs sites) gone (gots sites)
  pub kept : Kept n tr
  pub history : History n f σ.stopped sites gone (book_of tr)
  pub alive : Alive n f σ.stopped sites gone
  pub orderly : Orderly n sites
  pub told : Told n tr gone

-- The message that has waited longest on a channel comes to its receiver next.
pub coming : {n : ℕ} {stopped : ℕ → Bool} {channel : ℕ → ℕ → List Message} {w : Sites} {gone : ℕ
    → Logs}
    → Fits n stopped channel (logs w) gone (gots w) → {a b : ℕ} {m : Message} {rest : List Message}
    → (d : Handed b ((w b).past.got a) m rest (gone a b)) → Comes w b a m d.place
coming fits {a} {b} d = record {
  meant = d.meant;
  late = d.late;
  skipped = d.skipped;
  at = ⊑_trans (handed-at d) (fits.gone-in a b);
}

module _ (n f : ℕ) (half : f + f < n) (w : Sites) (gone : ℕ → Logs) (stopped : ℕ → Bool)
    (channel : ℕ → ℕ → List Message)
    (tr : Trace) where
  -- A step of node c, with its site s after it and the list that it sends.
  module _ (c : ℕ) (x : Extent) (s : Site) (list : List Message) (log : s.log ≡ push list (w c).log) where
    abbrev pub channel' : ℕ → ℕ → List Message
    channel' = channels (halted x c stopped) c (shortened x (entries n list)) channel

    pub next_fits : Fits n stopped channel (logs w) gone (upd (gots w) c s.past.got) → stopped c ≡ false
        → Fits n (halted x c stopped) channel' (logs (upd w c s)) (letting n c x list gone) (gots (upd w c s))
    next_fits fits stands = subst
        (λ z. Fits n (halted x c stopped) channel' (logs (upd w c s)) (letting n c x list gone) z)
        (sym (upd-map (λ z. z.past.got) w c s))
        (subst (λ z. Fits n (halted x c stopped) channel' z (letting n c x list gone) (upd (gots w) c s.past.got))
        (ap (upd (logs w) c) (sym log) ∙ sym (upd-map (λ z. z.log) w c s))
        (fits-act fits c x list stands))

    pub next-good : (o : Seen) → Inv n f (upd w c s)
        → Fits n stopped channel (logs w) gone (upd (gots w) c s.past.got) → stopped c ≡ false
        → (B : Book) × Next n tr o B × History n f (halted x c stopped) (upd w c s) (letting n c x list gone) B
        → Alive n f (halted x c stopped) (upd w c s) (letting n c x list gone) → Orderly n (upd w c s)
        → Told n (tr ++ (o ∷ [])) (letting n c x list gone)
        → Good n f (record {
          nodes = upd (λ i. (w i).node) c s.node;
          stopped = halted x c stopped;
          channel =
              channel';
        })
        (tr ++ (o ∷ []))
    next-good o inv fits stands (B, next, h) alive orderly told = record {
      sites = upd w c s;
      gone = letting n c x list gone;
      same = sym (upd-map (λ z. z.node) w c s);
      inv = inv;
      fits = next_fits fits stands;
      kept = next.kept;
      history = subst (History n f (halted x c stopped) (upd w c s) (letting n c x list gone)) (sym next.book) h;
      alive = alive;
      orderly = orderly;
      told = told;
    }
