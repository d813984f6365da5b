-- A step in the making: what the code and the algorithm have in common after each of its parts, and how one part
-- follows another. A part is the handler or a pass; nothing follows an ending.
use Prim.Native.Nat.{ℕ}
use mathlib.Core.Path.{◌≡◌, refl, ◌∙◌, ap, subst}
use mathlib.Core.List.{List, [], ◌++◌, map, map-append, append-nil}
use Rattle.view.specs.declared.View.{View}
use Rattle.record.specs.declared.Wait.{Wait}
use Rattle.record.specs.declared.Wait.TheVariants.{Idle}
use Rattle.step.specs.declared.Sent.{Sent}
use Rattle.step.specs.declared.Sent.TheVariants.{Nothing}
use Rattle.step.specs.declared.Outbox.{Outbox}
use Rattle.step.specs.declared.Step.{Step}
use Rattle.step.specs.Step.{listed}
use Rattle.history.specs.Message as M
use Rattle.history.specs.Event as H
use Rattle.algorithm.specs.Algorithm as A
use Rattle.algorithm.specs.Algorithm.{◌then◌}
use Rattle.eqaso.specs.Bounded.{BoundedNode}
use Rattle.refine.specs.Meaning.{message_of, sent_of, ending_of}
use Rattle.refine.specs.Follows.{SameWait, Follows}
use Rattle.refine.specs.Lockstep.{SameStep}

-- The messages of a part mean l, whatever view goes with them: none of them is a good message.
abbrev pub Means : ℕ → ℕ → Sent → List M.Message → Type 0
Means n to m l = (v : View) → map (message_of n to v) (listed m) ≡ l

-- What is sent before agreement means l, and the places for what comes later are empty.
pub record Handled (n : ℕ) (o : Outbox) (l : List M.Message) : Type 0 where
  pub handler : Means n o.to o.handler l
  pub reading : o.reading ≡ Nothing
  pub comparing : o.comparing ≡ Nothing

pub record Asked (n : ℕ) (o : Outbox) (l : List M.Message) : Type 0 where
  pub front : (v : View) → map (message_of n o.to v) (listed o.handler ++ listed o.reading) ≡ l
  pub comparing : o.comparing ≡ Nothing

abbrev pub Whole : ℕ → Outbox → List M.Message → Type 0
Whole n o l = sent_of n o ≡ l

-- An operation that has ended is no longer open.
abbrev pub Over : H.Ending → A.Wait → Type 0
Over H.none w = Unit {0}
Over (H.done r v) w = w ≡ A.idle
Over (H.shown r v) w = w ≡ A.idle
Over H.spent w = w ≡ A.idle

-- The two steps after a part; S says what the code's outbox has to do with the messages sent.
pub record Together (n f i k : ℕ) (S : Outbox → List M.Message → Type 0) (s : Step) (t : A.Step) : Type 0 where
  pub sent : S s.outbox t.sent
  pub to : s.outbox.to ≡ k
  pub ending : ending_of n s.view s.ending ≡ t.ending
  pub node : Follows n f i t.node s.node
  pub bounded : BoundedNode n t.node
  pub over : Over t.ending t.node.wait

pub same_step : {n f i k : ℕ} {s : Step} {t : A.Step} → Together n f i k (Whole n) s t → SameStep n f i k s t
same_step T = record { to = T.to; sent = T.sent; ending = T.ending; node = T.node }

-- Nothing more is sent.
pub handled-asked : {n : ℕ} (o : Outbox) (l : List M.Message) → Handled n o l → Asked n o l
handled-asked {n} o l h = record { comparing = h.comparing; front = λ v. rw h.reading (front v) }
  where
    front : (v : View) → map (message_of n o.to v) (listed o.handler ++ []) ≡ l
    front v = ap (map (message_of n o.to v)) (append-nil (listed o.handler)) ∙ h.handler v

pub asked-whole : {n : ℕ} (o : Outbox) (l : List M.Message) → Asked n o l → Whole n o l
asked-whole {n} o l a = rw a.comparing whole
  where
    whole : map (message_of n o.to o.view) (listed o.handler ++ listed o.reading ++ []) ≡ l
    whole = ap (map (message_of n o.to o.view)) (append-nil (listed o.handler ++ listed o.reading))
        ∙ a.front o.view

-- Messages m are sent besides: after a quorum of read answers, and after agreement, with the view that goes with them.
pub asked-more : {n : ℕ} (o : Outbox) (m : Sent) {l k : List M.Message} → Handled n o l → Means n o.to m k
    → Asked n (record { to = o.to; handler = o.handler; reading = m; comparing = o.comparing; view = o.view })
    (l ++ k)
asked-more o m h e = record {
  comparing = h.comparing;
  front = λ v.
      map-append (message_of _ o.to v) (listed o.handler) (listed m) ∙ rw (h.handler v, e v) refl;
}

pub whole-more : {n : ℕ} (o : Outbox) (m : Sent) (v : View) {l k : List M.Message} → Asked n o l
    → map (message_of n o.to v) (listed m) ≡ k
    → Whole n (record { to = o.to; handler = o.handler; reading = o.reading; comparing = m; view = v }) (l ++ k)
whole-more {n} o m v a e =
    map-append (message_of n o.to v) (listed o.handler ++ listed o.reading) (listed m) ∙ rw (a.front v, e) refl

-- Only the idle wait is like the idle wait.
idle-only : {n : ℕ} {w : Wait} → SameWait n A.idle w → w ≡ Idle
idle-only SameWait.idle = refl

-- A pass leads from S to S', at least where it does nothing.
module _ {n f i k : ℕ} {S S' : Outbox → List M.Message → Type 0}
    (weaken : (o : Outbox) (l : List M.Message) → S o l → S' o l) where
  -- It does nothing on either side.
  pub nothing-done : {s : Step} {t : A.Step} → Together n f i k S s t → t.ending ≡ H.none
      → Together n f i k S' s (A.then_by t (A.still t.node) H.none)
  nothing-done {s} {t} T e = record {
    sent = rw (append-nil t.sent) (weaken s.outbox t.sent T.sent);
    to = T.to;
    ending = T.ending ∙ e;
    node = T.node;
    bounded = T.bounded;
    over = tt;
  }

  -- The code does nothing where no operation is open, so that only the going step is left to look at.
  pub follow-pass : (pass : Step → Step) (part : A.Node → A.Step) → ((s : Step) → s.node.wait ≡ Idle → pass s ≡ s)
      → (s : Step) (t : A.Step) → Together n f i k S s t
      → (t.ending ≡ H.none → Together n f i k S' (pass s) (A.then_by t (part t.node) H.none))
      → Together n f i k S' (pass s) (t then part)
  follow-pass pass part rests s t T more = go t.ending refl
    where
      stays : t.node.wait ≡ A.idle → Together n f i k S' (pass s) t
      stays e = rw (rests s (idle-only (subst (λ w. SameWait n w s.node.wait) e T.node.wait))) (record {
        sent = weaken s.outbox t.sent T.sent;
        to = T.to;
        ending = T.ending;
        node = T.node;
        bounded = T.bounded;
        over = T.over;
      })

      go : (e : H.Ending) → t.ending ≡ e → Together n f i k S' (pass s) (A.then_by t (part t.node) e)
      go H.none e = more e
      go (H.done r v) e = stays (subst (λ x. Over x t.node.wait) e T.over)
      go (H.shown r v) e = stays (subst (λ x. Over x t.node.wait) e T.over)
      go H.spent e = stays (subst (λ x. Over x t.node.wait) e T.over)
