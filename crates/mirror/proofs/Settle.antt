-- How an event ends: the node takes its step and lets its entries out, or 11 is given, alike on bytes and over sets.
use Prim.Native.Nat.{ℕ, ◌≤◌}
use native.Mathlib.Omega.{arith}
use native.Mathlib.Decide.{ℕ_discrete}
use mathlib.Core.Path.{◌≡◌, refl, sym, ap, ◌∙◌, subst}
use mathlib.Core.Bool.{Bool, true, false, Bool-discrete}
use mathlib.Core.List.{List, map}
use lib.ListN.{length, take}
use Rattle.logs.specs.Count.{count}
use Rattle.logs.specs.Log.{◌∈◌}
use Rattle.logs.specs.Update.{upd}
use Rattle.octets.specs.Answer.{returned}
use Rattle.octets.specs.Test.{pick}
use Rattle.octets.proofs.Test.{not-true-false}
use Rattle.view.specs.Size.{is_size, nodes}
use Rattle.view.specs.View.{view_bytes, no_view}
use Rattle.wire.specs.Layout.{allowed}
use Rattle.wire.specs.declared.Message.{Message}
use Rattle.record.specs.Usable.{usable}
use Rattle.step.specs.Step.{messages}
use Rattle.step.specs.declared.Ending.TheVariants.{None}
use Rattle.step.specs.declared.Step.{Step}
use Rattle.region.specs.Channel.{capacity}
use Rattle.outgoing.specs.Entries.{Entry, entries}
use Rattle.outgoing.specs.Outgoing as O
use Rattle.events.specs.Event as E
use Rattle.outgoing.specs.declared.Extent.{Extent}
use Rattle.outgoing.specs.declared.Extent.TheVariants.{Whole, Cut}
use Rattle.history.specs.Message as M
use Rattle.history.specs.Event as H
use Rattle.history.specs.Order.{OneTo}
use Rattle.algorithm.specs.Algorithm as A
use Rattle.eqaso.specs.Cluster as K
use Rattle.refine.specs.Meaning.{message_of}
use Rattle.refine.specs.Lockstep.{SameStep}
use Rattle.refine.proofs.Choice.{Tells, same-side}
use Rattle.mirror.specs.Mirrors.{channel_room, mail, extent_of, Shows, Mirrors}
use Rattle.mirror.specs.SameResult.{response_of, SameResult}
use Rattle.mirror.proofs.Channels.{channel-stopped, channel-other, emptied, emptied-gone, channels-emptied}
use Rattle.mirror.proofs.Channels.{same_entries, map-take}
use Rattle.mirror.proofs.Shows.{Gone, shows-step}
use Rattle.mirror.proofs.LetOut.{shows-out, same-roomy, room_of, roomy-at}
use Rattle.mirror.proofs.Fits.{Fits, fits-take, fits-entries}

-- What a step of the code is known to keep: its record is usable, and its messages are of the layout.
pub record Safe (n : ℕ) (s : Step) : Type 0 where
  pub node : usable s.node ≡ true
  pub layout : (m : Message) → m ∈ messages s.outbox → allowed n m (view_bytes n s.outbox.view) ≡ true

-- A test that is another one tells whether that one holds.
pub tells-true : {b c : Bool} → b ≡ c → Tells b (c ≡ true)
tells-true {b} {c} e = (λ h. e ∙ h, λ h. e ∙ not-true-false c h)

-- A refusal leaves both as they were.
pub same-refusal : {n f : ℕ} {b : List ℕ} {σ : K.Cluster} → Mirrors n f b σ → (k : ℕ)
    → SameResult n f (E.refuse k b) (K.refuse k σ)
same-refusal m k = record { answer = refl; sent = refl; mirrors = m }

module _ {n f : ℕ} (small : n ≤ nodes) (sized : is_size n ≡ true) (a c : ℕ) (from : OneTo n a) (node : OneTo n c)
    {σ : K.Cluster} (x : Extent) (few : count (K.halted (extent_of x) c σ.stopped) n ≤ f)
    {b found : List ℕ} (mirror : Mirrors n f b σ) (q : ℕ → ℕ → List M.Message)
    (S : Shows n f found σ.nodes σ.stopped q)
    (gone : Gone σ.stopped q) (room : (a d : ℕ) → OneTo n a → OneTo n d → length (q a d) ≤ capacity)
    (s : Step) (t : A.Step) (same : SameStep n f c a s t) (safe : Safe n s) where
  abbrev stopped : ℕ → Bool
  stopped = K.halted (extent_of x) c σ.stopped

  -- The same entries are let out.
  abbrev out : List Entry
  out = O.shortened x (entries n a s.outbox)

  whole_out : map (mail n) (entries n a s.outbox) ≡ K.entries n t.sent
  whole_out = same_entries n a s.outbox.view (messages s.outbox)
      ∙ ap (K.entries n) (ap (λ k. map (message_of n k s.outbox.view) (messages s.outbox)) (sym same.to)
      ∙ same.sent)

  same_out : (x : Extent) → map (mail n) (O.shortened x (entries n a s.outbox)) ≡ K.shortened (extent_of x)
      (K.entries n t.sent)
  same_out Whole = whole_out
  same_out (Cut m) = map-take (mail n) m (entries n a s.outbox) ∙ ap (take m) whole_out

  fits_out : (x : Extent) → Fits n (O.shortened x (entries n a s.outbox))
  fits_out Whole = fits-entries n a from s.outbox.view (messages s.outbox) safe.layout
  fits_out (Cut m) = fits-take n m (entries n a s.outbox)
      (fits-entries n a from s.outbox.view (messages s.outbox) safe.layout)

  -- The channels after the step, and after the entries.
  abbrev mid : ℕ → ℕ → List M.Message
  mid = emptied stopped q

  abbrev end : ℕ → ℕ → List M.Message
  end = K.channels stopped c (K.shortened (extent_of x) (K.entries n t.sent)) q

  mid-end : K.channels stopped c (map (mail n) out) mid ≡ end
  mid-end = ap (λ l. K.channels stopped c l mid) (same_out x)
      ∙ channels-emptied stopped c (K.shortened (extent_of x) (K.entries n t.sent)) q

  after-step : Shows n f (O.stepped n c x s.node found) (upd σ.nodes c t.node) stopped mid
  after-step = shows-step small S c node x same.node safe.node gone

  -- The event is accepted.
  accepts : K.roomy channel_room c n end ≡ true → SameResult n f (E.commit n a c x s found)
      (K.commit c (extent_of x) t (K.shortened (extent_of x) (K.entries n t.sent)) q σ)
  accepts e = record {
    answer = answers x;
    sent = same_out x;
    mirrors = record {
      shows = subst
          (Shows n f (O.let_out n c out (O.stepped n c x s.node found)) (upd σ.nodes c t.node) stopped)
          mid-end
          (shows-out small sized c node out after-step (emptied-gone stopped q) (fits_out x)
          (room_of small after-step c node out (ap (K.roomy channel_room c n) mid-end ∙ e)));
      room = λ a d p o. fits a d p o (stopped d) refl (ℕ_discrete a c);
      gone = λ a d h. channel-stopped stopped c (K.shortened (extent_of x) (K.entries n t.sent)) q a d h;
      few = few;
      half = mirror.half;
    };
  }
    where
      l : List H.Sent
      l = K.shortened (extent_of x) (K.entries n t.sent)

      answers : (x : Extent) → response_of n (pick (O.is_cut x) no_view s.view)
          (returned (pick (O.is_cut x) None s.ending))
          ≡ H.accepted (K.given (extent_of x) t.ending)
      answers Whole = ap H.accepted same.ending
      answers (Cut m) = refl

      fits : (a d : ℕ) → OneTo n a → OneTo n d → (y : Bool) → stopped d ≡ y → Dec (a ≡ c) → length (end a d) ≤ capacity
      fits a d p o true h z = rw (channel-stopped stopped c l q a d h) (omega arith)
      fits a d p o false h (yes z) = rw z (roomy-at c end n e d o)
      fits a d p o false h (no z) = rw (channel-other stopped c l q a d h z) (room a d p o)

  pub settles : SameResult n f (E.settle n a c x s found b) (K.settle n channel_room c (extent_of x) t q σ)
  unfolding E.settle
  settles = same-side (SameResult n f) (Bool-discrete (K.roomy channel_room c n end) true)
      (tells-true (same-roomy small after-step c node out ∙ ap (K.roomy channel_room c n) mid-end)) accepts
      (λ e. same-refusal mirror 11)
