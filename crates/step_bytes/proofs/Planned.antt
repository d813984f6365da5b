-- A message was handled on the bytes of a usable record, which were r and are r': there a plan can be made and
-- followed.
use Prim.Native.Nat.{ℕ, ◌≤◌, ◌<◌}
use mathlib.Core.Path.{◌≡◌, sym, ap, ◌∙◌, subst}
use mathlib.Core.Bool.{true}
use mathlib.Core.List.{List}
use lib.ListN.{length}
use Rattle.view.specs.Size.{limit, nodes}
use Rattle.view.specs.declared.View.{View}
use Rattle.wire.specs.declared.Message.{Message}
use Rattle.record.specs.Usable.{usable}
use Rattle.record.proofs.Parts.{parts}
use Rattle.step.specs.Allowed.{lawful}
use Rattle.step.specs.React.{react}
use Rattle.region.specs.Record.{record_size, record_of, record_bytes}
use Rattle.region.proofs.Back.{Sized}
use Rattle.react_bytes.proofs.Handling.{reacted, reacted-n, reacted-bytes}
use Rattle.react_bytes.proofs.Reacted.{react-usable}
use Rattle.step_bytes.specs.Moved.{plan_tag}
use Rattle.step_bytes.specs.declared.Plan.{Plan}

module _ (r r' : List ℕ) (n s : ℕ) (m : Message) (v : View) (z : Sized v)
    (e : r' ≡ record_bytes (react (record_of r) s m v).node) (k : (record_of r).n ≡ n) (u : usable (record_of r) ≡ true)
    (low : 1 ≤ s) (high : s ≤ n) (l : lawful n m v ≡ true) (long : length r' ≡ record_size) (small : n ≤ nodes) where
  still-usable : usable (record_of r') ≡ true
  still-usable =
      ap usable (reacted r r' s m v z e)
      ∙ react-usable r s m v u low (subst (λ (j : ℕ). s ≤ j) (sym k) high) (ap (λ (j : ℕ). lawful j m v) k ∙ l)

  pub can-plan : (f : ℕ) → f < n
      → (length r' ≡ record_size) × ((record_of r').n ≡ n) × (n ≤ nodes) × (f < n) × (usable (record_of r') ≡ true)
  can-plan f h = (long, reacted-n r r' s m v z e ∙ k, small, h, still-usable)

  pub can-follow : (p : Plan) → plan_tag p ≤ limit
      → (length r' ≡ record_size) × ((record_of r').n ≡ n) × (n ≤ nodes) × ((record_of r').request ≤ limit)
      × (plan_tag p ≤ limit) × (r' ≡ record_bytes (record_of r'))
  can-follow p h = (
    long,
    reacted-n r r' s m v z e ∙ k,
    small,
    (parts (record_of r') still-usable).request-high,
    h,
    reacted-bytes r r' s m v z e,
  )
