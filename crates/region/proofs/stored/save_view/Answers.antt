-- `region::stored::save_view` meets its contract.
use mathlib.Core.Path.{refl, sym, ap, ◌∙◌, ◌≡◌}
use lib.ListN.{length}
use Rattle.octets.specs.Bytes.{put, part}
use Rattle.octets.proofs.Put.{put-over, length_part}
use Rattle.view.specs.Size.{nodes, view_size}
use Rattle.view.proofs.ViewBytes.{length-view_bytes}
use native.Mathlib.Omega.{arith}
use Prim.Native.Nat.{ℕ}
use mathlib.Core.List.{List}
use Rattle.octets.proofs.Lent.{lent_back}
use Rattle.view.specs.View.{view_bytes}
use Rattle.region.specs.Record.{view_place}
use Rattle.region.proofs.stored.save_view.Goals as goal

pub returns : goal.returns
returns c = let b = c.args.b.now in
    let at = view_place c.args.i in
    let v = view_bytes nodes c.args.v in
    let same : length v ≡ length (part b at (view_size nodes)) =
    length-view_bytes nodes c.args.v ∙ sym (length_part b at (view_size nodes)
    (omega arith)) in
    lent_back b at (view_size nodes) (λ (t : List ℕ). put t 0 v) refl (omega arith)
    c.write_view.auto.out c.write_view.ensures
    ∙ ap (put b at) (put-over (part b at (view_size nodes)) v same)
