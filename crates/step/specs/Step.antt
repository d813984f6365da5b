-- What a step answers: the record, the messages in their order, the ending.
-- Assumes nothing.
use Rattle.std.specs.Prelude.{ℕ, List, [], ◌∷◌, ◌++◌}
use Rattle.view.specs.declared.View.{View}
use Rattle.wire.specs.declared.Message.{Message}
use Rattle.view.specs.View.{no_view}
use Rattle.record.specs.declared.Node.{Node}
use Rattle.record.specs.declared.Kind.{Kind}
use Rattle.record.specs.declared.Kind.TheVariants.{Update, Scan}
use Rattle.step.specs.declared.Sent.{Sent}
use Rattle.step.specs.declared.Sent.TheVariants.{Nothing, One, Two}
use Rattle.step.specs.declared.Outbox.{Outbox}
use Rattle.step.specs.declared.Rule.{Rule}
use Rattle.step.specs.declared.Ending.{Ending}
use Rattle.step.specs.declared.Ending.TheVariants.{None, Done, Scan as Scanned}
use Rattle.step.specs.declared.Step.{Step}

-- the messages of one part, and of a whole step in the order produced
abbrev pub listed : Sent → List Message
listed Nothing = []
listed (One a) = a ∷ []
listed (Two a b) = a ∷ b ∷ []

abbrev pub messages : Outbox → List Message
messages o = listed o.handler ++ listed o.reading ++ listed o.comparing

-- a step that has handled what came
abbrev pub started : Node → ℕ → Sent → Step
started c to m =
    record {
      node = c;
      outbox = record { to = to; handler = m; reading = Nothing; comparing = Nothing; view = no_view };
      ending = None;
      view = no_view;
    }

-- the step moved on after a quorum of read answers, and after agreement with the view of the round
abbrev pub after_reading : Step → Node → Sent → Step
after_reading s c m =
    record {
      node = c;
      outbox =
          record {
            to = s.outbox.to;
            handler = s.outbox.handler;
            reading = m;
            comparing = s.outbox.comparing;
            view = s.outbox.view;
          };
      ending = s.ending;
      view = s.view;
    }

abbrev pub after_comparing : Step → Node → Sent → View → Step
after_comparing s c m v =
    record {
      node = c;
      outbox =
          record {
            to = s.outbox.to;
            handler = s.outbox.handler;
            reading = s.outbox.reading;
            comparing = m;
            view = v;
          };
      ending = s.ending;
      view = s.view;
    }

-- the step with another record, ending and view of the ending
abbrev pub ended : Step → Node → Ending → View → Step
ended s c e v = record { node = c; outbox = s.outbox; ending = e; view = v }

abbrev pub ending_of : Kind → Rule → Ending
ending_of Update r = Done r
ending_of Scan r = Scanned r
