-- A value that a handler forwards is the message that it handled. Assumes nothing.
use Prim.Native.Nat.{ℕ}
use mathlib.Core.Path.{◌≡◌, refl, sym, ap, ◌∙◌, subst}
use mathlib.Core.Bool.{Bool, true, false}
use mathlib.Core.List.{List, []}
use lib.Dec.{ltb}
use Rattle.octets.proofs.Test.{true-false}
use Rattle.view.specs.declared.View.{View}
use Rattle.wire.specs.Layout.{encode}
use Rattle.wire.specs.declared.Message.{Message}
use Rattle.wire.specs.declared.Message.TheVariants.{Read, ReadAnswer, Write, WriteAnswer, Echo, Value, Good}
use Rattle.record.specs.declared.Node.{Node}
use Rattle.record.specs.declared.Operation.{Operation}
use Rattle.step.specs.Move.{message_step, begun, begin_step}
use Rattle.step.specs.React.{react, is_new}
use Rattle.step.specs.declared.Sent.{Sent}
use Rattle.step.specs.declared.Step.{Step}
use Rattle.step.proofs.Exclusive.{handler-first}
use Rattle.step.proofs.Numbers.{on-pick}
use Rattle.emit.specs.Forward.{Received}
use Rattle.emit.proofs.Runs.{run-one}

-- a part that is not one value alone
none : {X : Type 0} → ◌≡◌ {A = Bool} false true → X
none h = true-false false h refl

-- b is the bytes of the message, w those of its view
module _ (b : List ℕ) where
  abbrev Holds : Sent → Type 0
  Holds x = Received x b

  pub react-received : (c : Node) (s : ℕ) (m : Message) (v : View) (w : List ℕ) → b ≡ encode m w
      → Holds (react c s m v).outbox.handler
  unfolding react encode
  react-received c s (Read q) v w e = none
  react-received c s (ReadAnswer q t) v w e = none
  react-received c s (Write q t) v w e = on-pick Holds (ltb c.maxtag t) _ _ (λ z. none) (λ z. none)
  react-received c s (WriteAnswer q t) v w e = none
  react-received c s (Echo t) v w e = on-pick Holds (ltb c.maxtag t) _ _ (λ z. none) (λ z. none)
  react-received c s (Value t x p) v w e =
      on-pick Holds (is_new c x t) _ _ (λ z h. e ∙ sym (run-one [] (Value t x p))) (λ z. none)
  react-received c s (Good t) v w e = none

  pub message-received : (f : ℕ) (c : Node) (s : ℕ) (m : Message) (v : View) (w : List ℕ) (t : Step)
      → t ≡ message_step f c s m v → b ≡ encode m w → Holds t.outbox.handler
  unfolding message_step
  message-received f c s m v w t is e =
      subst Holds (sym (ap (λ (x : Step). x.outbox.handler) is ∙ handler-first f (react c s m v)))
      (react-received c s m v w e)

  -- a begin forwards nothing
  pub begin-received : (f : ℕ) (c : Node) (o : Operation) (t : Step) → t ≡ begin_step f c o → Holds t.outbox.handler
  unfolding begin_step begun
  begin-received f c o t is =
      subst Holds (sym (ap (λ (x : Step). x.outbox.handler) is ∙ handler-first f (begun c o))) none
