-- A step that was done on the bytes of a record, and what it sends written out, is the call's result. Assumes nothing.
use Rattle.std.specs.Prelude.{Ok, Err}
use Rattle.refusal.specs.Refusal.{number}
use Rattle.refusal.specs.declared.Refusal.{Refusal}
use Prim.Native.Nat.{ℕ, ◌≤◌}
use mathlib.Core.Path.{◌≡◌, refl, sym, ap, ap₂, ◌∙◌, subst}
use mathlib.Core.Bool.{true, false}
use mathlib.Core.List.{List}
use native.Mathlib.Omega.{arith}
use lib.Dec.{ltb}
use lib.ListN.{length}
use Rattle.octets.specs.Answer.{Answer, returned}
use Rattle.octets.specs.Bytes.{put}
use Rattle.octets.specs.Word.{word}
use Rattle.view.specs.Size.{nodes}
use Rattle.view.specs.View.{no_view, view_of, view_bytes}
use Rattle.view.specs.declared.View.{View}
use Rattle.wire.specs.Layout.{encode, allowed}
use Rattle.wire.specs.declared.Message.{Message}
use Rattle.wire.specs.declared.Message.TheVariants.{Read, ReadAnswer, Write, WriteAnswer, Echo, Value, Good}
use Rattle.record.specs.Usable.{usable}
use Rattle.record.specs.declared.Node.{Node}
use Rattle.record.specs.declared.Operation.{Operation}
use Rattle.step.specs.Claims.{AllLawful, sizes}
use Rattle.step.specs.Move.{move_on, message_step, begun}
use Rattle.step.specs.React.{react, is_new}
use Rattle.step.specs.Told.{told, told_view}
use Rattle.step.specs.declared.Ending.{Ending}
use Rattle.step.specs.Step.{listed, messages, started}
use Rattle.step.specs.declared.Outbox.{Outbox}
use Rattle.step.specs.declared.Sent.{Sent}
use Rattle.step.specs.declared.Step.{Step}
use Rattle.step.proofs.Numbers.{on-pick}
use Rattle.step.proofs.Theorems.{message-n}
use Rattle.calls.specs.Bytes.{run, out_bytes}
use Rattle.calls.specs.Entry.{least_output, let_out, beside}
use Rattle.calls.proofs.Rim.{read-lawful}
use Rattle.calls.proofs.Rooms.{Fit, message-fit}
use Rattle.emit.specs.Forward.{Received}
use Rattle.emit.specs.Good.{any_good}
use Rattle.emit.proofs.Runs.{handler-alone}
use Rattle.reply.proofs.Received.{react-received, message-received}
use Rattle.reply.proofs.Tells.{told-told_view}
use Rattle.region.specs.Record.{f_place, record_of, record_bytes}
use Rattle.region.proofs.Back.{sized-view}
use Rattle.react_bytes.proofs.Handling.{reacted-step}
use Rattle.step_bytes.proofs.Moved.{long_of}
use Rattle.step_bytes.specs.Moved.{IsStep, rested_of, followed, rests}
use Rattle.step_bytes.specs.declared.Plan.{Plan}
use Rattle.step_bytes.specs.declared.Plan.TheVariants.{Rest, Read as PlanRead, Compare, Agree, Borrow}
use Rattle.step_bytes.specs.declared.Effect.{Effect}
use Rattle.calls_bytes.specs.Entry.{LentResult, in_bytes, refuse}
use Rattle.calls_bytes.specs.Shown.{event_view}
use Rattle.node_bytes.specs.Called.{Reply, Tells, Shows}

pub becomes : (a : Reply) (r out : List ℕ) {e f : LentResult} → e ≡ f → Tells a r out f → Tells a r out e
becomes a r out p t = subst (Tells a r out) (sym p) t

pub becomes-shown : (a : Reply) (r out view before : List ℕ) {e f : LentResult} → e ≡ f
    → Shows a r out view f before → Shows a r out view e before
becomes-shown a r out view before p t = subst (λ (x : LentResult). Shows a r out view x before) (sym p) t

-- a refusal leaves all that is lent
pub refuses : (k : Refusal) {r out : List ℕ} {e : LentResult} → e ≡ refuse (number k) r out → Tells (Err k) r out e
refuses k {r} {out} p = becomes (Err k) r out p (refl, refl, refl, refl, refl)

pub refuses-shown : (k : Refusal) {r out view : List ℕ} {e : LentResult} → e ≡ refuse (number k) r out
    → Shows (Err k) r out view e view
refuses-shown k {r} {out} {view} p = becomes-shown (Err k) r out view view p ((refl, refl, refl, refl, refl), refl)

-- the messages of an outbox for n nodes went to the start of `out`, which was `before`, and k is their length
abbrev lets : ℕ → (out before : List ℕ) → ℕ → Outbox → Type 0
lets k out before n o = (k ≡ length (out_bytes n o)) × (out ≡ put before 0 (out_bytes n o))

-- what a call answers where its step has this ending
abbrev pub called : Ending → ℕ → Reply
called ending k = Ok (record { ending = ending; length = k })

-- r was the record before the step, r' is the one after it
pub stepped : (s : Step) (n : ℕ) (r r' out out' : List ℕ) (k : ℕ) {e : Effect} → IsStep e r' s → s.node.n ≡ n
    → lets k out' out n e.outbox → Tells (called e.ending k) r' out' (in_bytes r (let_out s out))
unfolding in_bytes let_out
stepped s n r r' out out' k {e} h q l =
    let t : lets k out' out s.node.n s.outbox =
    subst (λ (x : Effect). lets k out' out s.node.n x.outbox) h.0
    (subst (λ (j : ℕ). lets k out' out j e.outbox) (sym q) l) in
    let d : returned e.ending ≡ returned s.ending = ap (λ (x : Effect). returned x.ending) h.0 in (
      ap (λ (x : Answer Ending). told x (told_view (told (returned s.ending) s.view))) d
          ∙ told-told_view s.ending s.view,
      d,
      t.0,
      h.1,
      t.1,
    )

-- the view of the step is what is shown
pub step-shows : (s : Step) (r r' out view before : List ℕ) {e : Effect} → IsStep e r' s
    → view ≡ event_view (told (returned e.ending) e.view) before
    → view ≡ event_view (in_bytes r (let_out s out)).answer before
unfolding in_bytes let_out
step-shows s r r' out view before h q =
    q ∙ ap (λ (x : Effect). event_view (told (returned x.ending) x.view) before) h.0

pub begun_n : (c : Node) (o : Operation) → (begun c o).node.n ≡ c.n
unfolding begun
begun_n c o = refl

-- only a good message looks at the view
pub react-beside : (c : Node) (s : ℕ) (m : Message) (n : ℕ) (v : List ℕ)
    → react c s m (view_of n v) ≡ react c s m (beside n v m)
unfolding react
react-beside c s (Read q) n v = refl
react-beside c s (ReadAnswer q t) n v = refl
react-beside c s (Write q t) n v = refl
react-beside c s (WriteAnswer q t) n v = refl
react-beside c s (Echo t) n v = refl
react-beside c s (Value t w p) n v = refl
react-beside c s (Good t) n v = refl

pub f-in : (r : List ℕ) → word r f_place ≡ (record_of r).f
unfolding record_of
f-in r = refl

-- a message handled and moved on, on bytes that were r and then r', is the step of a message
pub handled : (r r' : List ℕ) (n s f : ℕ) (m : Message) (v : List ℕ) {x : Sent} → (record_of r).n ≡ n → n ≤ nodes
    → f ≡ word r f_place → x ≡ (react (record_of r) s m (view_of n v)).outbox.handler
    → r' ≡ record_bytes (react (record_of r) s m (view_of n v)).node
    → move_on f (started (record_of r') s x)
    ≡ message_step (record_of r).f (record_of r) s m (beside (record_of r).n v m)
unfolding message_step
handled r r' n s f m v e h g q p =
    ap (move_on f) (reacted-step r r' s m (view_of n v) (sized-view n v h) p q ∙ react-beside (record_of r) s m n v)
    ∙ ap₂ (λ (i j : ℕ). move_on i (react (record_of r) s m (beside j v m))) (g ∙ f-in r) (sym e)

-- what a step sends can be written
pub can_write : (s : Step) (n : ℕ) (room : ℕ) {e : Effect} {r : List ℕ} → Fit s room → IsStep e r s → s.node.n ≡ n
    → (1 ≤ n) × (n ≤ nodes) × AllLawful n e.outbox.view (messages e.outbox)
    × (sizes n (messages e.outbox) ≤ room)
can_write s n room {e} h i k =
    subst (λ (j : ℕ). (1 ≤ j) × (j ≤ nodes) × AllLawful j e.outbox.view (messages e.outbox)
    × (sizes j (messages e.outbox) ≤ room)) k
    (subst (λ (x : Effect). (1 ≤ s.node.n) × (s.node.n ≤ nodes)
    × AllLawful s.node.n x.outbox.view (messages x.outbox)
    × (sizes s.node.n (messages x.outbox) ≤ room)) (sym i.0) h)

-- ---- the step of a message that was handled, r the record before it

module _ (r : List ℕ) (n s : ℕ) (m : Message) (v : List ℕ) (e : (record_of r).n ≡ n) where
  abbrev pub step : Step
  step = message_step (record_of r).f (record_of r) s m (beside (record_of r).n v m)

  pub step-n : step.node.n ≡ n
  step-n = message-n (record_of r).f (record_of r) s m (beside (record_of r).n v m) ∙ e

  -- what it sends has room
  pub step-fit : (room : ℕ) → usable (record_of r) ≡ true → 1 ≤ s → s ≤ n → allowed n m v ≡ true → least_output ≤ room
      → Fit step room
  step-fit room u a b l k =
      let c = record_of r in
      message-fit c s m (beside c.n v m) step room refl u
      (read-lawful c.n v m (ap (λ (j : ℕ). allowed j m v) e ∙ l)) (long_of r) a
      (subst (λ (j : ℕ). s ≤ j) (sym e) b) k

-- ---- a plan for it

-- a plan to rest leaves the record, and what was sent
pub at_rest : (p : Plan) (r : List ℕ) (to : ℕ) (sent : Sent) {t : Step} → rests p ≡ true → r ≡ record_bytes
    (record_of r)
    → followed p (started (record_of r) to sent) ≡ t → IsStep (rested_of to sent) r t
at_rest Rest r to sent h b w = subst (IsStep (rested_of to sent) r) w (refl, b)
at_rest (PlanRead o t) r to sent h b w = absurd (let z : ◌≡◌ {A = ℕ} 0 1 = cc in omega arith)
at_rest (Compare k i t) r to sent h b w = absurd (let z : ◌≡◌ {A = ℕ} 0 1 = cc in omega arith)
at_rest (Agree k i t) r to sent h b w = absurd (let z : ◌≡◌ {A = ℕ} 0 1 = cc in omega arith)
at_rest (Borrow k) r to sent h b w = absurd (let z : ◌≡◌ {A = ℕ} 0 1 = cc in omega arith)

module _ (n to : ℕ) (sent : Sent) where
  alone : messages (rested_of to sent).outbox ≡ listed sent
  alone = handler-alone (rested_of to sent).outbox refl refl

  pub rest-can-write : (t : Step) (room : ℕ) {r : List ℕ} → Fit t room → IsStep (rested_of to sent) r t → t.node.n ≡ n
      → any_good (listed sent) ≡ false
      → (1 ≤ n) × (n ≤ nodes) × (any_good (listed sent) ≡ false) × AllLawful n no_view (listed sent)
      × (sizes n (listed sent) ≤ room)
  rest-can-write t room h i k g =
      let w = can_write t n room h i k in (
        w.0,
        w.1,
        g,
        subst (AllLawful n no_view) alone w.2,
        subst (λ (l : List Message). sizes n l ≤ room) alone w.3,
      )

  pub rest-lets : (k : ℕ) (out before : List ℕ)
      → (k ≡ length (run (view_bytes n no_view) (listed sent)))
      × (out ≡ put before 0 (run (view_bytes n no_view) (listed sent))) → lets k out before n (rested_of to sent).outbox
  rest-lets k out before h =
      subst (λ (l : List Message). (k ≡ length (run (view_bytes n no_view) l))
      × (out ≡ put before 0 (run (view_bytes n no_view) l))) (sym alone) h

-- a handler sends no good message
abbrev Short : Sent → Type 0
Short x = any_good (listed x) ≡ false

react-short : (c : Node) (s : ℕ) (m : Message) (v : View) → Short (react c s m v).outbox.handler
unfolding react
react-short c s (Read q) v = refl
react-short c s (ReadAnswer q t) v = refl
react-short c s (Write q t) v = on-pick Short (ltb c.maxtag t) _ _ (λ e. refl) (λ e. refl)
react-short c s (WriteAnswer q t) v = refl
react-short c s (Echo t) v = on-pick Short (ltb c.maxtag t) _ _ (λ e. refl) (λ e. refl)
react-short c s (Value t w p) v = on-pick Short (is_new c w t) _ _ (λ e. refl) (λ e. refl)
react-short c s (Good t) v = refl

pub handler-short : (c : Node) (s : ℕ) (m : Message) (v : View) {x : Sent} → x ≡ (react c s m v).outbox.handler
    → any_good (listed x) ≡ false
handler-short c s m v e = subst Short (sym e) (react-short c s m v)

-- nor does a begin
pub read_short : (c : Node) (o : Operation) {to : ℕ} {x : Sent} {r : List ℕ} → IsStep (rested_of to x) r (begun c o)
    → any_good (listed x) ≡ false
unfolding begun
read_short c o {to} {x} h = ap (λ (e : Effect). any_good (listed e.outbox.handler)) h.0

-- the value that a handler forwards is the message that it handled, whose bytes are b
pub handler-received : (c : Node) (s : ℕ) (m : Message) (v : View) (w b : List ℕ) {x : Sent}
    → x ≡ (react c s m v).outbox.handler → b ≡ encode m w → Received x b
handler-received c s m v w b e h = subst (λ (y : Sent). Received y b) (sym e) (react-received b c s m v w h)

-- so it is in what the step sends, done on bytes
pub step-received : (r : List ℕ) (n s : ℕ) (m : Message) (w b : List ℕ) (e : (record_of r).n ≡ n) {x : Effect}
    {r' : List ℕ} → IsStep x r' (step r n s m w e) → b ≡ encode m w → Received x.outbox.handler b
step-received r n s m w b e i h =
    let c = record_of r in
    subst (λ (y : Effect). Received y.outbox.handler b) (sym i.0)
    (message-received b c.f c s m (beside c.n w m) w (step r n s m w e) refl h)
