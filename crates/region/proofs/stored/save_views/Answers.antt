-- `region::stored::save_views` meets its contract.
use native.Mathlib.Omega.{arith}
use Prim.Native.Nat.{◌+◌}
use mathlib.Core.List.{◌++◌}
use mathlib.Core.Path.{◌≡◌}
use lib.ListN.{length, length-append}
use Rattle.octets.proofs.Put.{put_then}
use Rattle.view.specs.Size.{nodes}
use Rattle.view.specs.View.{view_bytes}
use Rattle.view.proofs.ViewBytes.{length-view_bytes}
use Rattle.region.specs.Record.{view_place, last_in, atmax_in, atround_in, kept_in}
use Rattle.region.proofs.stored.save_views.Goals as goal

pub returns : goal.returns
returns c =
    let b = c.args.b.now in
    let p = view_bytes nodes c.args.c.last in
    let q = view_bytes nodes c.args.c.atmax in
    let r = view_bytes nodes c.args.c.atround in
    let s = view_bytes nodes c.args.c.keptview in
    let one : view_place last_in + length p ≡ view_place atmax_in = omega (
      arith,
      length-view_bytes nodes
          c.args.c.last,
    ) in
    let two : view_place last_in + length (p ++ q) ≡ view_place atround_in =
    simp length-append (omega (
      arith,
      length-view_bytes nodes c.args.c.last,
      length-view_bytes nodes
          c.args.c.atmax,
    )) in
    let three : view_place last_in + length (p ++ q ++ r) ≡ view_place kept_in = simp length-append (omega (
      arith,
      length-view_bytes nodes
          c.args.c.last,
      length-view_bytes nodes c.args.c.atmax,
      length-view_bytes nodes c.args.c.atround,
    )) in
    put_then b (view_place last_in) (p ++ q ++ r) s (view_place kept_in) (omega arith) three
    (put_then b (view_place last_in) (p ++ q) r (view_place atround_in) (omega arith) two
    (put_then b (view_place last_in) p q (view_place atmax_in) (omega arith) one c.save_view.ensures
    c.save_view-2.ensures)
    c.save_view-3.ensures) c.save_view-4.ensures
