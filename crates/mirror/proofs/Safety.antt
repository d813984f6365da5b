-- The steps of a run keep records usable and send messages of the layout.
use Prim.Native.Nat.{ℕ, ◌≤◌}
use mathlib.Core.Path.{◌≡◌, subst}
use mathlib.Core.Bool.{true, false}
use Rattle.view.specs.Size.{nodes}
use Rattle.view.specs.declared.View.{View}
use Rattle.wire.specs.declared.Message.{Message}
use Rattle.record.specs.Usable.{is_open, full, usable}
use Rattle.record.specs.declared.Node.{Node}
use Rattle.record.specs.declared.Operation.{Operation}
use Rattle.step.specs.Allowed.{lawful}
use Rattle.step.specs.Claims.{Long, AllLawful}
use Rattle.step.specs.Move.{message_step, begin_step}
use Rattle.step.specs.Step.{messages}
use Rattle.step.proofs.Theorems.{message-usable, message-lawful, begin-usable, begin-lawful}
use Rattle.history.specs.Order.{OneTo}
use Rattle.algorithm.specs.Algorithm as A
use Rattle.refine.specs.Follows.{Follows}
use Rattle.mirror.proofs.Lawful.{each-allowed}
use Rattle.mirror.proofs.Settle.{Safe}

long-node : {n f i : ℕ} {ν : A.Node} {c : Node} → Follows n f i ν c → Long c
long-node F = record {
  last = (F.last-size.tags, F.last-size.reports);
  atmax = (F.atmax-size.tags, F.atmax-size.reports);
  atround = (F.atround-size.tags, F.atround-size.reports);
}

module _ {n f i : ℕ} (small : n ≤ nodes) {ν : A.Node} {c : Node} (F : Follows n f i ν c) (u : usable c ≡ true) where
  pub message-safe : (k : ℕ) → OneTo n k → (m : Message) (v : View) → lawful n m v ≡ true
      → Safe n (message_step f c k m v)
  message-safe k (lo, hi) m v h =
      let h' : lawful c.n m v ≡ true = rw F.size h in
      let hi' : k ≤ c.n = rw F.size hi in
      record {
        node = message-usable f c k m v u h' (long-node F) lo hi';
        layout = each-allowed n small (message_step f c k m v).outbox.view (messages (message_step f c k m v).outbox)
            (subst (λ j. AllLawful j (message_step f c k m v).outbox.view (messages (message_step f c k m v).outbox))
            F.size
            (message-lawful f c k m v u h' (long-node F) lo hi'));
      }

  pub begin-safe : (o : Operation) → is_open c.wait ≡ false → full c ≡ false → Safe n (begin_step f c o)
  begin-safe o e d = record {
    node = begin-usable f c o u e d;
    layout = each-allowed n small (begin_step f c o).outbox.view (messages (begin_step f c o).outbox)
        (subst (λ j. AllLawful j (begin_step f c o).outbox.view (messages (begin_step f c o).outbox)) F.size
        (begin-lawful f c o u e d));
  }
