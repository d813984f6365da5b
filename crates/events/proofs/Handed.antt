-- What each return of a delivery says, by the refusals that did not apply before it.
use Prim.Native.Nat.{ℕ}
use native.Mathlib.Omega.{arith}
use native.Mathlib.Decide.{ℕ_discrete}
use mathlib.Core.Path.{◌≡◌, refl, sym, ap, ap₂, ◌∙◌}
use mathlib.Core.Bool.{true, false}
use mathlib.Core.List.{List}
use lib.Dec.{ltb}
use borrow.Author.Tests.{lt-ltb}
use Rattle.octets.specs.Answer.{Answer, returned, refused}
use Rattle.view.specs.declared.View.{View}
use Rattle.view.specs.View.{view_of}
use Rattle.wire.specs.Codec.{front, view_at}
use Rattle.wire.specs.declared.Message.{Message}
use Rattle.wire.proofs.RoundTrip.{front-only}
use Rattle.record.specs.declared.Node.{Node}
use Rattle.step.specs.Allowed.{lawful}
use Rattle.step.specs.Move.{message_step}
use Rattle.step.specs.Stale.{stale_message}
use Rattle.step.specs.declared.Step.{Step}
use Rattle.step.proofs.Allowed.{allowed-lawful}
use Rattle.region.specs.Channel.{count_of, first}
use Rattle.block.specs.Block.{take_off}
use Rattle.layout.specs.Layout.{stated, faults_in, node, channel, on_block}
use Rattle.outgoing.specs.Outgoing.{may_cut}
use Rattle.outgoing.specs.declared.Extent.{Extent}
use Rattle.events.specs.Event.{refuse, admission, settle, hand_over, deliver_message, deliver}
use Rattle.events.proofs.Admitted.{deliver-is}

-- a message that is read is lawful with the view beside it
pub front-lawful : (n : ℕ) (s : List ℕ) (m : Message) (k : ℕ) → front n s ≡ returned (m, k)
    → lawful n m (view_of n (view_at n s)) ≡ true
front-lawful n s m k e = allowed-lawful n m (view_at n s) (front-only n s m k e).allowed-is

-- something waits
pub some-waits : (t : List ℕ) {w : ℕ} → w ≡ count_of t → (w ≡ 0 → ⊥) → ltb 0 (count_of t) ≡ true
some-waits t {w} e h = lt-ltb 0 (count_of t) (elim (ℕ_discrete w 0) [ yes z ↦ absurd (h z) | no z ↦ omega arith ])

-- a message handed to a node whose record is d
module _ (n a c : ℕ) (x : Extent) (b s : List ℕ) (m : Message) (d : Node) (at : d ≡ node b c) where
  pub hand-stale : stale_message d a m ≡ true → hand_over n a c x b s m ≡ refuse 9 b
  hand-stale h = rw (ap (λ (k : Node). stale_message k a m) (sym at) ∙ h) refl

  module _ (new : stale_message d a m ≡ false) where
    pub hand-uncut : may_cut n x b ≡ false → hand_over n a c x b s m ≡ refuse 10 b
    hand-uncut h = rw (ap (λ (k : Node). stale_message k a m) (sym at) ∙ new, h) refl

    pub hand-settles : may_cut n x b ≡ true → {t : Step} {f : ℕ} {v : View} → f ≡ faults_in b → v ≡ view_of n
        (view_at n s)
        → t ≡ message_step f d a m v → hand_over n a c x b s m ≡ settle n a c x t (on_block c (take_off a) b) b
    hand-settles h {t} {f} {v} e w q =
        rw (ap (λ (k : Node). stale_message k a m) (sym at) ∙ new, h)
        (ap (λ (u : Step). settle n a c x u (on_block c (take_off a) b) b)
        (sym (q ∙ ap₂ (λ (k : ℕ) (y : Node). message_step k y a m v) e at
        ∙ ap (λ (u : View). message_step (faults_in b) (node b c) a m u) w)))

module _ (a c : ℕ) (x : Extent) (b : List ℕ) (n : ℕ) (st : n ≡ stated b) (ok : admission a c b ≡ 0) where
  pub deliver-empty : {w : ℕ} → w ≡ count_of (channel b a c) → w ≡ 0 → deliver a c x b ≡ refuse 8 b
  deliver-empty e z = deliver-is a c x b n st ok ∙ rw (sym e ∙ z) refl

  module _ (some : ltb 0 (count_of (channel b a c)) ≡ true) where
    deliver-reads : deliver a c x b ≡ deliver_message n a c x b (first (channel b a c))
        (front n (first (channel b a c)))
    deliver-reads = deliver-is a c x b n st ok ∙ rw some refl

    pub deliver-unread : (j : ℕ) → front n (first (channel b a c)) ≡ refused j → deliver a c x b ≡ refuse 7 b
    deliver-unread j h =
        deliver-reads ∙ ap (λ (r : Answer (Message × ℕ)). deliver_message n a c x b (first (channel b a c)) r) h

    pub deliver-hands : (m : Message) (j : ℕ) → front n (first (channel b a c)) ≡ returned (m, j)
        → deliver a c x b ≡ hand_over n a c x b (first (channel b a c)) m
    deliver-hands m j h =
        deliver-reads ∙ ap (λ (r : Answer (Message × ℕ)). deliver_message n a c x b (first (channel b a c)) r) h
