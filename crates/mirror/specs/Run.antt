-- Runs on bytes: any list of begins, deliveries and stops, with any numbers, each on the bytes as the one before left
-- them.
use Rattle.std.specs.Prelude.{ℕ, ◌≡◌, Bool, true, List, [], ◌∷◌, map, eqb}
use Rattle.table.specs.Loop.{either}
use Rattle.octets.specs.Answer.{Answer, returned, refused}
use Rattle.record.specs.declared.Operation.{Operation}
use Rattle.step.specs.declared.Ending.{Ending}
use Rattle.events.specs.Event as E
use Rattle.events.specs.Stop as S
use Rattle.outgoing.specs.declared.Extent.{Extent}
use Rattle.history.specs.Event as H
use Rattle.history.specs.Trace.{Seen, Trace}
use Rattle.refine.specs.Meaning.{operation_of}
use Rattle.mirror.specs.Mirrors.{mail, extent_of}
use Rattle.mirror.specs.SameResult.{response_of}

pub data Event : Type 0 where
  begin : (node : ℕ) → Operation → Extent → Event
  deliver : (sender receiver : ℕ) → Extent → Event
  stop : (node : ℕ) → Event

abbrev pub event : Event → List ℕ → E.Result
event (begin c o x) b = E.begin c o x b
event (deliver a c x) b = E.deliver a c x b
event (stop c) b = S.stop c b

unfoldable pub after : List ℕ → List Event → List ℕ
after b [] = b
after b (e ∷ es) = after (event e b).bytes es

-- The same event of the algorithm's cluster.
abbrev pub meaning : Event → H.Event
meaning (begin c o x) = H.begin c (operation_of o) (extent_of x)
meaning (deliver a c x) = H.deliver a c (extent_of x)
meaning (stop c) = H.stop c

-- What is seen of a run from outside, in the algorithm's terms: of each event its answer and the entries let out.
abbrev pub seen : ℕ → Event → E.Result → Seen
seen n e r = record { event = meaning e; answer = response_of n r.view r.answer; sent = map (mail n) r.sent }

unfoldable pub trace_from : ℕ → List ℕ → List Event → Trace
trace_from n b [] = []
trace_from n b (e ∷ es) = seen n e (event e b) ∷ trace_from n (event e b).bytes es

-- The run from what fresh makes of lent bytes b.
abbrev pub trace_of : (n f : ℕ) → List ℕ → List Event → Trace
trace_of n f b es = trace_from n (E.fresh n f b).bytes es

-- The refusals that come up in a run. The others do not: 1 is for fresh, 2, 7 and 9 are for bytes that no run makes,
-- and 12 is for a lent length.
abbrev pub in_run : ℕ → Bool
in_run k =
    either (eqb k 3) (either (eqb k 4) (either (eqb k 5)
    (either (eqb k 6) (either (eqb k 8) (either (eqb k 10) (eqb k 11))))))

abbrev pub ComesUp : Answer Ending → Type 0
ComesUp (returned e) = Unit {0}
ComesUp (refused k) = in_run k ≡ true
