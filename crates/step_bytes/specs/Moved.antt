-- Cited by inner contracts only: a step done on the bytes of a record, the words that the contracts use beside those of
-- the step.
use Rattle.std.specs.Prelude.{ℕ, ◌≤◌, ◌≡◌, Bool, true, false, List, leb}
use Rattle.octets.specs.Test.{pick}
use Rattle.view.specs.Size.{limit}
use Rattle.view.specs.View.{no_view}
use Rattle.view.specs.declared.View.{View}
use Rattle.record.specs.Record.{with_wait, closed}
use Rattle.record.specs.declared.Node.{Node}
use Rattle.record.specs.declared.Kind.{Kind}
use Rattle.record.specs.declared.Wait.TheVariants.{Idle, Comparing}
use Rattle.step.specs.declared.Sent.{Sent}
use Rattle.step.specs.declared.Sent.TheVariants.{Nothing}
use Rattle.step.specs.declared.Ending.{Ending}
use Rattle.step.specs.declared.Ending.TheVariants.{None}
use Rattle.step.specs.declared.Step.{Step}
use Rattle.step.specs.Step.{started, ended, ending_of}
use Rattle.step.specs.declared.Rule.TheVariants.{Borrowed}
use Rattle.step.specs.Move.{after_read, after_good, after_failed, lent_view, borrows, move_on}
use Rattle.region.specs.Record.{record_bytes}
use Rattle.step_bytes.specs.declared.Effect.{Effect}
use Rattle.step_bytes.specs.declared.Plan.{Plan}
use Rattle.step_bytes.specs.declared.Plan.TheVariants.{Rest, Read, Compare, Agree, Borrow}

abbrev pub effect_of : ℕ → (handler reading comparing : Sent) → (good : View) → Ending → View → Effect
effect_of to handler reading comparing good ending view =
    record {
      outbox = record { to = to; handler = handler; reading = reading; comparing = comparing; view = good };
      ending = ending;
      view = view;
    }

-- That of a step which sent `sent` to node `to`, and no more.
abbrev pub rested_of : ℕ → Sent → Effect
rested_of to sent = effect_of to sent Nothing Nothing no_view None no_view

-- What a step gives beside its record.
abbrev pub effect : Step → Effect
effect s = record { outbox = s.outbox; ending = s.ending; view = s.view }

-- An effect and the bytes of a record are those of a step.
abbrev pub IsStep : Effect → List ℕ → Step → Type 0
IsStep e r s = (e ≡ effect s) × (r ≡ record_bytes s.node)

-- What follows agreement, where the round is i with tag t.
abbrev pub after_agreement : Step → Kind → (i t : ℕ) → Step
after_agreement s k i t =
    pick (leb s.node.maxtag t) (after_good s s.node k i t) (borrows (after_failed s s.node k i t))

-- A step that follows a plan.
abbrev pub followed : Plan → Step → Step
followed Rest s = s
followed (Read o t) s = after_read s s.node o t
followed (Compare k i t) s = ended s (with_wait s.node (Comparing k i t)) s.ending s.view
followed (Agree k i t) s = after_agreement s k i t
followed (Borrow k) s = ended s (closed s.node Idle) (ending_of k Borrowed) (lent_view s.node)

-- Whether there is nothing to do.
abbrev pub rests : Plan → Bool
rests Rest = true
rests (Read o t) = false
rests (Compare k i t) = false
rests (Agree k i t) = false
rests (Borrow k) = false

-- The tag that a plan names, 0 where it names none.
abbrev pub plan_tag : Plan → ℕ
plan_tag Rest = 0
plan_tag (Read o t) = t
plan_tag (Compare k i t) = t
plan_tag (Agree k i t) = t
plan_tag (Borrow k) = 0

-- To follow the plan is to move on at record c, whatever was sent before; its tag keeps the limit.
abbrev pub Leads : ℕ → Plan → Node → Type 0
Leads f p c = ((to : ℕ) (sent : Sent) → move_on f (started c to sent) ≡ followed p (started c to sent))
    × (plan_tag p ≤ limit)
