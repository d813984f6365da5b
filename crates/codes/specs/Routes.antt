-- What is claimed of the routes: whoever walks the output of a step and sends each message where its route says, lets
-- out the entries that a cluster lets out for that step, in their order.
use Rattle.std.specs.Prelude.{ℕ, ◌≡◌, List, [], ◌∷◌, ◌++◌, eqb}
use Rattle.octets.specs.Test.{pick}
use Rattle.view.specs.declared.View.{View}
use Rattle.wire.specs.declared.Message.{Message}
use Rattle.table.specs.Loop.{numbered}
use Rattle.step.specs.declared.Outbox.{Outbox}
use Rattle.outgoing.specs.Entries.{Entry, entry, entries}
use Rattle.calls_bytes.specs.Walk.{Piece, pieces_of}
use Rattle.codes.specs.Code.{to_sender, route_of}

-- A message goes to a, the sender of the message that was handled, or to 1 to n in turn.
abbrev pub by_route : (n a : ℕ) → View → Message → List Entry
by_route n a v m = pick (eqb (route_of m) to_sender) (entry v m a ∷ []) (numbered n (entry v m))

unfoldable pub sent_by : (n a : ℕ) → View → List Piece → List Entry
sent_by n a v [] = []
sent_by n a v (p ∷ ps) = by_route n a v p.message ++ sent_by n a v ps

abbrev pub Routes : Type 0
Routes = (n a : ℕ) (o : Outbox) → sent_by n a o.view (pieces_of n o) ≡ entries n a o
