-- When an operation ends, of one message; so that at most one ending comes of messages until the next begin.
-- Assumes nothing.
use Rattle.std.specs.Prelude.{◌≡◌, true, false, ℕ}
use Rattle.view.specs.declared.View.{View}
use Rattle.wire.specs.declared.Message.{Message}
use Rattle.record.specs.Usable.{is_open}
use Rattle.record.specs.declared.Node.{Node}
use Rattle.step.specs.declared.Ending.TheVariants.{None}
use Rattle.step.specs.Move.{message_step}

-- An operation that ends is open no more.
abbrev pub EndsClosed : Type 0
EndsClosed = (f : ℕ) (c : Node) (s : ℕ) (m : Message) (v : View) → is_open (message_step f c s m v).node.wait ≡ true
    → (message_step f c s m v).ending ≡ None

-- Where none is open, a message ends none and opens none.
abbrev pub ClosedStays : Type 0
ClosedStays = (f : ℕ) (c : Node) (s : ℕ) (m : Message) (v : View) → is_open c.wait ≡ false
    → ((message_step f c s m v).ending ≡ None) × (is_open (message_step f c s m v).node.wait ≡ false)
