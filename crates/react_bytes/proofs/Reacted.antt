-- A usable record, and a lawful message, leave a usable record when the message is handled.
use Prim.Native.Nat.{ℕ, ◌≤◌}
use mathlib.Core.Path.{◌≡◌}
use mathlib.Core.Bool.{true}
use mathlib.Core.List.{List}
use Rattle.view.specs.declared.View.{View}
use Rattle.wire.specs.declared.Message.{Message}
use Rattle.record.specs.Usable.{usable}
use Rattle.record.proofs.Parts.{parts, usable-of}
use Rattle.step.specs.Allowed.{lawful}
use Rattle.step.specs.React.{react}
use Rattle.step.proofs.Handled.{react-parts}
use Rattle.region.specs.Record.{record_of}
use Rattle.region.proofs.Back.{sized_of}

pub react-usable : (r : List ℕ) (s : ℕ) (m : Message) (v : View) → usable (record_of r) ≡ true → 1 ≤ s
    → s ≤ (record_of r).n
    → lawful (record_of r).n m v ≡ true → usable (react (record_of r) s m v).node ≡ true
react-usable r s m v u lo hi h =
    let z = sized_of r in
    usable-of _ (react-parts (record_of r) s m v (parts (record_of r) u) (record {
      last = (z.last.tags, z.last.reports);
      atmax = (z.atmax.tags, z.atmax.reports);
      atround = (z.atround.tags, z.atround.reports);
    }) lo hi h)
