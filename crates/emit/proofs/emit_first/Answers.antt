-- `emit::emit_first` meets its contract. Assumes nothing.
use mathlib.Core.Path.{◌≡◌, sym, ap, ◌∙◌}
use native.Mathlib.Omega.{arith}
use Prim.Native.Nat.{◌≤◌}
use lib.ListN.{length, length-take}
use lib.Seq.{length-take-le}
use Rattle.octets.specs.Bytes.{put}
use Rattle.wire.specs.Layout.{value_size}
use Rattle.emit.proofs.Forwarded.{forward-long, forward-length, forward-run, forward-room}
use Rattle.emit.proofs.emit_first.Goals as goal

pub slice_bounds-put_run-end : goal.slice_bounds-put_run-end
slice_bounds-put_run-end c =
    let a = c.args in
    let one = sym c.is_forward.ensures ∙ c.if-is_forward.true in
    let long : length a.b.now ≡ value_size = forward-length a.m a.b.now a.v.now one c.requires.0 in
    sym (length-take-le _ a.b.now (omega (arith, long)))

pub put_run-requires : goal.put_run-requires
put_run-requires c =
    let a = c.args in
    let one = sym c.is_forward.ensures ∙ c.if-is_forward.true in
    let long : length a.b.now ≡ value_size = forward-length a.m a.b.now a.v.now one c.requires.0 in
    let room : value_size ≤ length a.out.now = forward-room a.m a.b.now a.v.now one c.requires.0 _ _
    c.requires.1 in
    simp length-take (omega (arith, long, room))

pub returns-then-is_forward : goal.returns-then-is_forward
returns-then-is_forward c =
    let a = c.args in
    let p = c.requires in
    let one = sym c.is_forward.ensures ∙ c.if-is_forward.true in (
      sym (forward-long a.m a.b.now a.v.now one p.0),
      c.put_run.ensures
          ∙ ap (put a.out.now 0) (forward-run a.m a.b.now a.v.now one p.0),
    )
