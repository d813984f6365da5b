-- What a step sends, in bytes. Assumes nothing.
use Rattle.std.specs.Prelude.{List, [], ◌∷◌, ◌++◌, ℕ}
use Rattle.view.specs.View.{view_bytes}
use Rattle.wire.specs.Layout.{encode}
use Rattle.wire.specs.declared.Message.{Message}
use Rattle.step.specs.declared.Outbox.{Outbox}
use Rattle.step.specs.Step.{messages}

-- messages one after the other, v the bytes of the view that a good one carries
unfoldable pub run : List ℕ → List Message → List ℕ
run v [] = []
run v (m ∷ ms) = encode m v ++ run v ms

-- the messages of an outbox, for n nodes
abbrev pub out_bytes : ℕ → Outbox → List ℕ
out_bytes n o = run (view_bytes n o.view) (messages o)
