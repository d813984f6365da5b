-- `cluster::here::first_view` meets its contract.
use borrow.Author.Rules.{rules}
use mathlib.Core.Path.{◌≡◌, refl, ap, ◌∙◌}
use Prim.Native.Nat.{ℕ, ◌+◌, ◌-◌}
use native.Mathlib.Omega.{arith}
use mathlib.Core.List.{List}
use lib.ListN.{length, take, drop}
use Rattle.octets.proofs.Lent.{lent}
use Rattle.octets.proofs.Put.{length_part}
use Rattle.view.specs.Size.{view_size}
use Rattle.wire.specs.Layout.{good_head}
use Rattle.wire.specs.Codec.{view_at}
use Rattle.region.specs.Channel.{slot_size, first}
use Rattle.layout.specs.Layout.{channel}
use Rattle.layout.proofs.Blocks.{length-channel, length-first}
use Rattle.outgoing.proofs.Slot.{front-put}
use Rattle.cluster.proofs.here.first_view.Goals as goal

pub slice_bounds-put_bytes-end-2 : goal.slice_bounds-put_bytes-end-2
slice_bounds-put_bytes-end-2 c =
    let a = c.args in
    let long : length c.first_at-s.result.now ≡ slot_size =
    ap (λ (t : List ℕ). length t) c.first_at-s.ensures
    ∙ length-first (channel a.b.now a.a a.c)
    (length-channel a.b.now a.a a.c (omega arith) (omega arith) (omega arith) (omega arith)) in
    search rules

pub returns : goal.returns
returns c =
    let a = c.args in
    let p = c.requires in
    let n = a.n in
    let t = first (channel a.b.now a.a a.c) in
    let full : length t ≡ slot_size = length-first (channel a.b.now a.a a.c)
    (length-channel a.b.now a.a a.c p.1 p.2 p.3 p.4) in
    let s = c.first_at-s.result.now in
    let u = take (good_head + view_size n - good_head) (drop good_head s) in
    let is : u ≡ view_at n t = lent s good_head (view_size n) refl ∙ ap (view_at n) c.first_at-s.ensures in
    let long : length (view_at n t) ≡ view_size n
    = length_part t good_head (view_size n) (omega (arith, p.0, full)) in (
      c.put_bytes.auto.b,
      front-put _ u (view_size n) (ap (λ (x : List ℕ). length x) is ∙ long) c.put_bytes.ensures ∙ is,
    )
