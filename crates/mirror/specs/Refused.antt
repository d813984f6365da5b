-- A refused event does nothing. This holds of all bytes and all events, not only in a run: every byte stays, no view is
-- given and nothing is let out. A trace shows the event as refused, with nothing sent, and goes on from the same bytes.
use Rattle.std.specs.Prelude.{ℕ, ◌≡◌, List, [], ◌∷◌}
use Rattle.octets.specs.Answer.{refused}
use Rattle.view.specs.View.{no_view}
use Rattle.history.specs.Event as H
use Rattle.mirror.specs.Run.{Event, event, meaning, trace_from}

pub record DoesNothing (e : Event) (b : List ℕ) (k : ℕ) : Type 0 where
  pub bytes : (event e b).bytes ≡ b
  pub view : (event e b).view ≡ no_view
  pub sent : (event e b).sent ≡ []
  pub seen : (n : ℕ) (es : List Event) → trace_from n b (e ∷ es)
      ≡ record { event = meaning e; answer = H.refused k; sent = [] } ∷ trace_from n b es

abbrev pub RefusedDoesNothing : Type 0
RefusedDoesNothing = (e : Event) (b : List ℕ) (k : ℕ) → (event e b).answer ≡ refused k → DoesNothing e b k
