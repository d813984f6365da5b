-- Demand 2 of the code holds.
use Prim.Native.Nat.{ℕ, ◌+◌, ◌≤◌, ◌<◌}
use native.Mathlib.Omega.{arith}
use mathlib.Core.Path.{◌≡◌, sym, ap, ◌∙◌, subst}
use mathlib.Core.Bool.{true, false}
use mathlib.Core.List.{List, [], map}
use lib.ListN.{length}
use Rattle.view.specs.Size.{nodes}
use Rattle.view.specs.View.{AbsentPast}
use Rattle.view.proofs.First.{none-absent}
use Rattle.layout.specs.Layout.{cluster_size, stated, stopped}
use Rattle.events.specs.Event as E
use Rattle.events.proofs.Shown.{begin-absent, deliver-absent, stop-absent}
use Rattle.history.specs.Trace as T
use Rattle.history.specs.Order.{OneTo}
use Rattle.eqaso.specs.Cluster as K
use Rattle.eqaso.proofs.Linked.{linked, waits-is}
use Rattle.mirror.specs.Mirrors.{channel_room, Shows}
use Rattle.mirror.specs.Encodes.{EachEncodes}
use Rattle.mirror.specs.Run.{Event, begin, deliver, stop, event, meaning, trace_of}
use Rattle.mirror.specs.Demand2.{bytes_after, slots, Demand2}
use Rattle.mirror.proofs.Encoded.{none-encoded}
use Rattle.mirror.proofs.Run.{fresh-taken, run-mirrors, run-trace, run-refusals, run-encoded}

-- An event on bytes that state n shows nothing past n, whatever their records hold there.
event-absent : (n : ℕ) → n ≤ nodes → (e : Event) (b : List ℕ) → stated b ≡ n → AbsentPast n (event e b).view
event-absent n small (begin c o x) b is = subst (λ m. AbsentPast m (E.begin c o x b).view) is
    (begin-absent c o x b (omega (arith, is, small)))
event-absent n small (deliver a c x) b is = subst (λ m. AbsentPast m (E.deliver a c x b).view) is
    (deliver-absent a c x b (omega (arith, is, small)))
event-absent n small (stop c) b is = subst (AbsentPast n) (sym (stop-absent c b)) (none-absent n small)

pub demand2 : (n f : ℕ) → OneTo nodes n → f + f < n → (b : List ℕ) → length b ≡ cluster_size n → Demand2 n f b
demand2 n f (low, small) half b long = record {
  taken = ap (λ r. r.answer) (fresh-taken n f low small half b long);
  same = run-trace n f low small half b long;
  refusals = run-refusals n f low small half b long;
  absent-past = λ es e. event-absent n small e (bytes_after n f b es) (shown es).states;
  states = λ es. ((shown es).states, (shown es).faults);
  stops = λ es c p. flag es c p ∙ sym (gone es c);
  holds = held;
  empty = none_left;
  remembers = λ es c p. ((shown es).says c p).node;
}
  where
    end : List Event → K.Cluster
    end es = K.after n f channel_room K.start (map meaning es)

    shown : (es : List Event) → Shows n f (bytes_after n f b es) (end es).nodes (end es).stopped (end es).channel
    shown es = (run-mirrors n f low small half b long es).shows

    flag : (es : List Event) (c : ℕ) → OneTo n c → stopped (bytes_after n f b es) c ≡ (end es).stopped c
    flag es c p = ((shown es).says c p).stop

    -- The trace tells the same.
    gone : (es : List Event) (c : ℕ) → T.stopped (trace_of n f b es) c ≡ (end es).stopped c
    gone es c = ap (λ tr. T.stopped tr c) (run-trace n f low small half b long es)
        ∙ (linked n f channel_room (map meaning es)).same-stopped c

    held : (es : List Event) (a c : ℕ) → OneTo n a → OneTo n c → T.stopped (trace_of n f b es) c ≡ false
        → EachEncodes n c (slots (bytes_after n f b es) a c) (T.waits (trace_of n f b es) a c)
    held es a c o p up = subst (EachEncodes n c (slots (bytes_after n f b es) a c))
        (sym (waits-is (linked n f channel_room (map meaning es)) a c (sym (gone es c) ∙ up))
        ∙ ap (λ tr. T.waits tr a c) (sym (run-trace n f low small half b long es)))
        (run-encoded n f low small half b long es a c o p)

    none_left : (es : List Event) (a c : ℕ) → OneTo n a → OneTo n c → T.stopped (trace_of n f b es) c ≡ true
        → slots (bytes_after n f b es) a c ≡ []
    none_left es a c o p down = none-encoded n c (slots (bytes_after n f b es) a c)
        (subst (EachEncodes n c (slots (bytes_after n f b es) a c))
        ((run-mirrors n f low small half b long es).gone a c (sym (gone es c) ∙ down))
        (run-encoded n f low small half b long es a c o p))
