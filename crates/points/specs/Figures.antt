-- The point on calls waiting, of document 02's request [3].
use Rattle.std.specs.Prelude.{ℕ, ◌+◌, ◌*◌, ◌<◌, ◌≡◌, true, List, length}
use Rattle.octets.specs.Answer.{returned}
use Rattle.view.specs.Size.{limit, nodes}
use Rattle.view.specs.View.{tag_at, report_at, view_ok}
use Rattle.view.specs.declared.Report.{Report}
use Rattle.figures.specs.declared.Totals.{Totals}
use Rattle.history.specs.Order.{OneTo}
use Rattle.points.specs.Calls.{Calls}
use Rattle.points.specs.Messages.{zeros}

-- A view of two nodes that have reported x and y calls waiting.
pub record Waiting (v : List ℕ) (x y : ℕ) : Type 0 where
  pub long : length v ≡ 32
  pub ok : view_ok 2 limit v ≡ true
  pub first : (tag_at v 0 ≡ 0 → ⊥) × ((report_at v 0).waiting ≡ x)
  pub second : (tag_at v 1 ≡ 0 → ⊥) × ((report_at v 1).waiting ≡ y)

-- The figures of two reports: 5 calls waiting, and the other counts added.
abbrev pub with_five : Report → Report → Totals
with_five p q =
    record {
      extensions = p.extensions + q.extensions;
      lines = p.lines + q.lines;
      waiting = 5;
      wakeups = p.wakeups + q.wakeups;
    }

-- All three follow from the clause on figures that are taken, and rule out no call that it does not.
pub record ThreeAndFive (calls : Calls) : Type 0 where
  pub three-five : (v : List ℕ) → Waiting v 3 5 → calls.figures 2 v ≡ returned
      (with_five (report_at v 0) (report_at v 1))
  pub five-three : (v : List ℕ) → Waiting v 5 3 → calls.figures 2 v ≡ returned
      (with_five (report_at v 0) (report_at v 1))
  pub nobody : (n : ℕ) → OneTo nodes n → (v : List ℕ) → length v ≡ 16 * n → view_ok n limit v ≡ true
      → ((i : ℕ) → i < n → tag_at v i ≡ 0) → calls.figures n v ≡ returned zeros
