-- One event at a node, as the book and the history see it.
use Prim.Native.Nat.{ℕ, ◌<◌}
use native.Mathlib.Omega.{arith}
use native.Mathlib.Decide.{dec_lt}
use mathlib.Core.Path.{◌≡◌, sym, ◌∙◌, ap, subst}
use mathlib.Core.Logic.{inl, inr, ◌≢◌}
use mathlib.Core.Bool.{Bool, false}
use mathlib.Core.List.{List}
use Rattle.logs.specs.Update.{upd}
use Rattle.logs.proofs.Update.{upd-all}
use Rattle.logs.specs.Log.{◌∈◌, ◌⊑◌, here, push}
use Rattle.logs.proofs.Log.{push-or, push-up}
use Rattle.history.specs.Message.{Value, of, Message, value}
use Rattle.history.specs.Event.{Extent}
use Rattle.history.specs.Trace.{updating, tags_sent}
use Rattle.history.specs.Order.{OneTo, EndedBefore}
use Rattle.algorithm.proofs.Cert.{Logs, ◌≼◌}
use Rattle.algorithm.proofs.Meant.{pick-in, pick-of}
use Rattle.algorithm.proofs.Sites.{Site, Sites, logs}
use Rattle.eqaso.specs.Cluster.{entries, shortened, halted}
use Rattle.eqaso.proofs.Front.{front, front-is, front-in}
use Rattle.eqaso.proofs.Reach.{sent_to-in, sent_to-of, sent-reach, Reaches}
use Rattle.eqaso.proofs.Owned.{tag_by-of, tags_sent-of, tags_sent-own}
use Rattle.eqaso.proofs.Channel.{stood}
use Rattle.eqaso.proofs.Book.{Book}
use Rattle.eqaso.proofs.Facts.{Facts}
use Rattle.eqaso.proofs.Rows.{Listed}
use Rattle.eqaso.proofs.History.{Booked, Behind, behind-up, LeftIn, ModeAt, History}
use Rattle.eqaso.proofs.Later.{Later, Apart, booked-later, mode-later, behind-later}

-- The own tags that an event lets out are those of own values in the step's list.
pub own-from : {t : ℕ} (n c : ℕ) (x : Extent) (new : List Message) → t ∈ tags_sent c (shortened x (entries n new))
    → (v : Value) × (value v ∈ new) × (v.writer ≡ c) × (v.tag ≡ t)
own-from {t} n c x new i =
    let (s, j, o) = tags_sent-own c (shortened x (entries n new)) i in
    let k = sent_to-of j in
    let one : OneTo n s.to = subst (Reaches n s.to) o.is (sent-reach n s.to x new k) in
    let (l, meant) = pick-in s.to (front n x s.to new)
    (subst (λ z. s.message ∈ z) (front-is n s.to one x new) k) in
    (o.written, subst (λ z. z ∈ new) o.is (front-in n x s.to new l), o.own, o.tagged)

-- The tag of an own value that is let out to a node.
pub own_out : (n c b : ℕ) (x : Extent) (new : List Message) (v : Value) → OneTo n b → v.writer ≡ c
    → value v ∈ front n x b new
    → v.tag ∈ tags_sent c (shortened x (entries n new))
own_out n c b x new v one e m = tags_sent-of c
    (sent_to-in b (shortened x (entries n new))
    (subst (λ z. value v ∈ z) (sym (front-is n b one x new)) (pick-of b m tt)))
    (tag_by-of c v e)

pub listed_of : (B : Book) {v : Value} {c t : ℕ} → Booked B v → v.writer ≡ c → v.tag ≡ t → Listed B c t
listed_of B {v} {c} {t} (u, e, d, h) is tag =
    (u, v.report, e ∙ ap (λ z. updating z v.report) is, omega (arith, d), d ∙ tag)

module _ (n f : ℕ) {stopped : ℕ → Bool} {σ : Sites} {gone : ℕ → Logs} {B B' : Book} {now : ℕ}
    (H : History n f stopped σ gone B) (F : Facts n now B) (L : Later now B B')
    (c : ℕ) (x : Extent) (new : List Message) (s : Site) (log : s.log ≡ push new (σ c).log) where
  abbrev gone' : ℕ → Logs
  gone' = upd gone c (λ b. push (front n x b new) (gone c b))

  pub logs-grow : logs σ ≼ logs (upd σ c s)
  logs-grow = upd-all (λ k z. (σ k).log ⊑ z.log) σ c s (λ k ne. here) (rw log (push-up new (σ c).log))

  pub booked-next : ((b : ℕ) (v : Value) → OneTo n b → value v ∈ front n x b new → Booked B' v)
      → (a b : ℕ) (v : Value) → OneTo n b → value v ∈ gone' a b → Booked B' v
  booked-next values a b v one m =
      upd-all (λ a g. value v ∈ g b → Booked B' v) gone c (λ b. push (front n x b new) (gone c b))
      (λ a ne m. booked-later L (H.booked a b v one m))
      (λ m. elim (push-or (front n x b new) (gone c b) m)
      [ inl h ↦ values b v one h | inr h ↦ booked-later L (H.booked c b v one h) ]) a m

  -- The history after a step of node c, from what is new in it.
  pub history-next : ((d : ℕ) → c ≢ d → Apart B B' d) → ((a : ℕ) → LeftIn n f (logs (upd σ c s)) B' a)
      → ((b : ℕ) (v : Value) → OneTo n b → value v ∈ front n x b new → Booked B' v)
      → (halted x c stopped c ≡ false → ModeAt n f B' c s)
      → ((u y k d p q : ℕ) → ¬ (0 < B.tag y) → B'.begun u ≡ updating k p → B'.begun y ≡ updating d q
      → EndedBefore (B'.fate u) y
      → 0 < B'.tag u → 0 < B'.tag y → Behind (of (B'.tag u) k p) (of (B'.tag y) d q) (upd σ c s d).log)
      → History n f (halted x c stopped) (upd σ c s) gone' B'
  history-next apart left values mode tags = record {
    modes = upd-all (λ d z. halted x c stopped d ≡ false → ModeAt n f B' d z) σ c s
        (λ d ne h. mode-later n f F L d (σ d).op (σ d).tag (σ d).past.base (σ d).node.wait
        (apart d (λ e. ne (sym e)))
        (H.modes d (stood x c stopped d h))) mode;
    left = left;
    booked = booked-next values;
    behind = λ u y k d p q eu ey h tu ty. elim (dec_lt 0 (B.tag y)) [
      | yes t ↦ behind-up (logs-grow d) (behind-later n f F L (logs σ) H.behind u y k d p q eu ey h tu t)
      | no t ↦ tags u y k d p q t eu ey h tu ty
    ];
  }
