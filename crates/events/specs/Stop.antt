-- The stop of a node (document 01: a cabinet): it takes part in nothing more, and what waits for it is gone. It is
-- refused as every event is, and with 10 where f nodes have stopped.
use Rattle.std.specs.Prelude.{ℕ, List, []}
use Rattle.octets.specs.Answer.{returned}
use Rattle.view.specs.View.{no_view}
use Rattle.step.specs.declared.Ending.TheVariants.{None}
use Rattle.block.specs.Block.{halt}
use Rattle.layout.specs.Layout.{stated, on_block}
use Rattle.outgoing.specs.Outgoing.{may_stop}
use Rattle.events.specs.Event.{Result, demand, admitted}

abbrev pub stop_in : (n c : ℕ) → List ℕ → Result
stop_in n c b =
    demand (may_stop n b) 10 b
    (record { bytes = on_block c (halt n) b; answer = returned None; view = no_view; sent = [] })

unfoldable pub stop : ℕ → List ℕ → Result
stop c b = admitted c c b (stop_in (stated b) c b)
