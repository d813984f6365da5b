-- What an end of all waiting rests on, of all nodes at once: each must wait, nothing handed to it was lost, and every
-- tag below the largest in use was introduced. Every step of one node keeps it.
use Prim.Native.Nat.{ℕ, ◌+◌, ◌<◌}
use native.Mathlib.Omega.{arith}
use mathlib.Core.Path.{◌≡◌, sym, subst}
use mathlib.Core.Bool.{Bool, false}
use mathlib.Core.List.{List, [], ◌∷◌}
use Rattle.logs.specs.Update.{upd}
use Rattle.logs.proofs.Update.{upd-all, upd-map}
use Rattle.logs.specs.Log.{◌∈◌, ◌⊑◌, push}
use Rattle.logs.proofs.Log.{placed, each_at}
use Rattle.history.specs.Message.{Message, read, read_answer, write, write_answer, echo, value, good}
use Rattle.history.specs.Event.{Operation, Extent}
use Rattle.history.specs.Order.{OneTo}
use Rattle.algorithm.specs.Algorithm.{message_step, begin_step}
use Rattle.algorithm.proofs.Cert.{Log, Logs}
use Rattle.algorithm.proofs.Local.{Due}
use Rattle.algorithm.proofs.Meant.{Meant}
use Rattle.algorithm.proofs.Sites.{Site, Sites, logs, new, handed, begun, Comes}
use Rattle.algorithm.proofs.World.{Inv}
use Rattle.eqaso.specs.Cluster.{halted}
use Rattle.eqaso.proofs.Front.{front}
use Rattle.eqaso.proofs.Rest.{Rests, message-rests, begin-rests}
use Rattle.algorithm.proofs.Live.{Live, Numbered, message-live, begin-live}
use Rattle.algorithm.proofs.Mark.{Marked, Left, message-marked, begin-marked}
use Rattle.eqaso.proofs.Intro.{Marks, marks-act}

-- gone a b is what node a has let out to b.
pub record Alive (n f : ℕ) (stopped : ℕ → Bool) (σ : Sites) (gone : ℕ → Logs) : Type 0 where
  pub rests : (i : ℕ) → Rests n f i (σ i).node
  pub live : (i : ℕ) → Live n i (σ i).past.got (σ i).node (σ i).log
  pub M : ℕ
  pub marks : Marks n stopped (λ i. (σ i).node) gone M

pub alive-start : (n f : ℕ) → Alive n f (λ c. false) (λ i. new) (λ a b. [])
alive-start n f = record {
  rests = λ i. tt;
  live = λ i. record { replied = λ k m e. elim e [ ]; asks = tt };
  M = 0;
  marks = record {
    top = λ i h. omega arith;
    low = λ i h. tt;
    said = λ a b o m e. elim e [ ];
    intro = λ t lt. absurd (omega arith);
  };
}

module _ {n f : ℕ} {stopped : ℕ → Bool} {σ : Sites} {gone : ℕ → Logs} (A : Alive n f stopped σ gone) where
  -- Node c has become s and sends a list.
  alive-act : (c : ℕ) (x : Extent) (s : Site) (sent : List Message) → OneTo n c → Rests n f c s.node
      → Live n c s.past.got s.node s.log → Left A.M s.node (push sent [])
      → Alive n f (halted x c stopped) (upd σ c s) (upd gone c (λ b. push (front n x b sent) (gone c b)))
  alive-act c x s sent node r l m = let (N, K) = marks-act A.marks c x s.node sent node m in record {
    rests = upd-all (λ i s. Rests n f i s.node) σ c s (λ i ne. A.rests i) r;
    live = upd-all (λ i s. Live n i s.past.got s.node s.log) σ c s (λ i ne. A.live i) l;
    M = N;
    marks = subst (λ z. Marks n (halted x c stopped) z (upd gone c (λ b. push (front n x b sent) (gone c b))) N)
        (sym (upd-map (λ s. s.node) σ c s)) K;
  }

  marked : (i : ℕ) → stopped i ≡ false → Marked A.M (σ i).node []
  marked i up = record { top = A.marks.top i up; low = A.marks.low i up; said = λ m e. elim e [ ] }

  -- An answer that has come was asked for.
  numbered : Inv n f σ → (i k : ℕ) (m : Message) (p : Log) → (m ∷ p) ⊑ (σ k).log → Meant i m → Numbered (σ i).node m
  numbered inv i k (read_answer to q t) p at e =
      let due = each_at (Due n f k (logs σ)) (inv k).due at in
      (inv i).have (read q) (subst (λ z. read q ∈ (σ z).log) e (placed due.asked))
  numbered inv i k (write_answer to q t) p at e =
      let due = each_at (Due n f k (logs σ)) (inv k).due at in
      (inv i).have (write q t) (subst (λ z. write q t ∈ (σ z).log) e (placed due.asked))
  numbered inv i k (read q) p at e = tt
  numbered inv i k (write q t) p at e = tt
  numbered inv i k (echo t) p at e = tt
  numbered inv i k (value v) p at e = tt
  numbered inv i k (good t v) p at e = tt

  module _ (half : f + f < n) (inv : Inv n f σ) where
    -- A message from node k, which k has let out, is handed to node i.
    pub alive-handed : (i k : ℕ) (m : Message) (p : Log) (x : Extent) → OneTo n i → stopped i ≡ false → m ∈ gone k i
        → Comes σ i k m p → let sent = (message_step n f i k m (σ i).node).sent in
        Alive n f (halted x i stopped) (upd σ i (handed n f i k m p (σ i)))
        (upd gone i (λ b. push (front n x b sent) (gone i b)))
    alive-handed i k m p x node up out c = alive-act i x (handed n f i k m p (σ i)) _ node
        (message-rests n f i (omega arith) k m (σ i).node)
        (message-live n f i (σ i).past.got k m p (σ i).node (σ i).log c.skipped (numbered inv i k m p c.at)
        (A.live i))
        (message-marked A.M n f i k m (σ i).node (A.marks.said k i node m out) (marked i up))

    -- An operation begins at node i, when the logs are those of base.
    pub alive-begun : (i : ℕ) (op : Operation) (base : Logs) (x : Extent) → OneTo n i → stopped i ≡ false
        → let sent = (begin_step n f i op (σ i).node).sent in
        Alive n f (halted x i stopped) (upd σ i (begun n f i op base (σ i)))
        (upd gone i (λ b. push (front n x b sent) (gone i b)))
    alive-begun i op base x node up = alive-act i x (begun n f i op base (σ i)) _ node
        (begin-rests n f i (omega arith) op (σ i).node)
        (begin-live n f i (σ i).past.got op (σ i).node (σ i).log (A.live i))
        (begin-marked A.M n f i op (σ i).node (marked i up))
