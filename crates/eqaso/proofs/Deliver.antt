-- A delivery, by the course of its step: the book notes an update's tag or an ending, or stays as it is.
use Prim.Native.Nat.{ℕ, ◌+◌, ◌-◌, ◌≤◌, ◌<◌}
use mathlib.Core.Path.{◌≡◌, refl, subst}
use mathlib.Core.Bool.{Bool, false, not}
use mathlib.Core.List.{List}
use lib.ListN.{length}
use Rattle.logs.specs.Count.{count}
use Rattle.logs.specs.Update.{upd}
use Rattle.logs.specs.Log.{◌∈◌, push}
use Rattle.history.specs.Message.{Value, Message, value}
use Rattle.history.specs.Event.{none, Extent, deliver, accepted}
use Rattle.history.specs.Trace.{Seen, Trace}
use Rattle.history.specs.Order.{OneTo}
use Rattle.algorithm.specs.Algorithm.{Step, message_step}
use Rattle.algorithm.proofs.Cert.{Log, Logs, ◌≼◌}
use Rattle.algorithm.proofs.Sites.{Site, Sites, logs, handed, Comes}
use Rattle.algorithm.proofs.World.{Inv}
use Rattle.eqaso.specs.Cluster.{entries, shortened, halted, given}
use Rattle.eqaso.proofs.Front.{front, front-in}
use Rattle.eqaso.proofs.Course.{Only}
use Rattle.eqaso.proofs.Act.{Passed}
use Rattle.eqaso.proofs.Book.{Book, book_of}
use Rattle.eqaso.proofs.Facts.{Facts}
use Rattle.eqaso.proofs.Kept.{Kept, Next, Told, next-silent}
use Rattle.eqaso.proofs.History.{Booked, LeftIn, left_up, ModeAt, History}
use Rattle.eqaso.proofs.Later.{later_same, apart-same}
use Rattle.eqaso.proofs.Recorded.{own-from, listed_of, logs-grow, history-next}

-- What has been let out after node c has let out what extent x allows of a list.
abbrev pub letting : (n c : ℕ) → Extent → List Message → (ℕ → Logs) → ℕ → Logs
letting n c x new gone = upd gone c (λ b. push (front n x b new) (gone c b))

-- A delivery from node k to node c as it is seen.
abbrev pub delivery : (n k c : ℕ) → Extent → Step → Seen
delivery n k c x s =
    record { event = deliver k c x; answer = accepted (given x s.ending); sent = shortened x (entries n s.sent) }

-- Message m from node k, whose log before m is p, comes to node c.
pub record Delivery (n f : ℕ) (half : f + f < n) (stopped : ℕ → Bool) (σ : Sites) (gone : ℕ → Logs) (tr : Trace)
    (c k : ℕ)
    (x : Extent) (m : Message) (p : Log) : Type 0 where
  pub inv : Inv n f σ
  pub kept : Kept n tr
  pub history : History n f stopped σ gone (book_of tr)
  pub one : OneTo n c
  pub stands : stopped c ≡ false
  pub comes : Comes σ c k m p
  pub came : m ∈ gone k c
  pub many : n - f ≤ count (λ j. not (stopped j)) n
  pub all : (a b : ℕ) → halted x c stopped a ≡ false
      → letting n c x (message_step n f c k m (σ c).node).sent gone a b ≡ logs (upd σ c (handed n f c k m p (σ c))) a

module _ {n f : ℕ} {half : f + f < n} {stopped : ℕ → Bool} {σ : Sites} {gone : ℕ → Logs} {tr : Trace} {c k : ℕ}
    {x : Extent} {m : Message} {p : Log} (D : Delivery n f half stopped σ gone tr c k x m p) where
  abbrev pub step : Step
  step = message_step n f c k m (σ c).node

  abbrev pub site : Site
  site = handed n f c k m p (σ c)

  abbrev pub entry : Seen
  entry = delivery n k c x step

  abbrev pub B : Book
  B = book_of tr

  -- The event is noted: a new book, and the history to it.
  abbrev pub Noted : Type 0
  Noted = (B : Book) × Next n tr entry B
      × History n f (halted x c stopped) (upd σ c site) (letting n c x step.sent gone) B

  abbrev pub F : Facts n (length tr) B
  F = D.kept.facts

  pub grow : logs σ ≼ logs (upd σ c site)
  grow = logs-grow n f D.history F (later_same (length tr) B) c x step.sent site refl

  -- A value that the message leads to is one of the book.
  pub base-booked : (v : Value) → Passed m (σ c).node v → Booked B v
  base-booked v h = D.history.booked k c v D.one (subst (λ z. z ∈ gone k c) h.0 D.came)

  pub told : ((v : Value) → value v ∈ step.sent → v.writer ≡ c → Booked B v) → Told B entry
  told h t i = let (v, y, w, e) = own-from n c x step.sent i in listed_of B (h v y w) w e

  pub left-now : (a : ℕ) → LeftIn n f (logs (upd σ c site)) B a
  left-now a = left_up n f grow (B.begun a) (B.fate a) (B.tag a) (D.history.left a)

  -- Nothing to note.
  pub silent : given x step.ending ≡ none
      → ((b : ℕ) (v : Value) → OneTo n b → value v ∈ front n x b step.sent → Booked B v) → Told B entry
      → (halted x c stopped c ≡ false → ModeAt n f B c site) → Noted
  silent calm values told mode = (
    B,
    next-silent tr entry D.kept refl calm told,
    history-next n f D.history F (later_same (length tr) B) c x step.sent site refl
        (λ d ne. apart-same B d) left-now values mode (λ u y k d p q t eu ey h tu ty. absurd (t ty)),
  )

  -- The same when the step sends no value of its own.
  pub quiet : given x step.ending ≡ none → Only (Passed m (σ c).node) step.sent
      → (halted x c stopped c ≡ false → ModeAt n f B c site) → Noted
  quiet calm from mode = silent calm (λ b v one h. base-booked v (from v (front-in n x b step.sent h)))
      (told (λ v h e. base-booked v (from v h))) mode

  pub mode-before : ModeAt n f B c (σ c)
  mode-before = D.history.modes c D.stands
