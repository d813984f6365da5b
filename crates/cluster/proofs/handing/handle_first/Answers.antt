-- `cluster::handing::handle_first` meets its contract.
use borrow.Author.Rules.{rules}
use mathlib.Core.Path.{◌≡◌, refl, ap, ◌∙◌}
use Prim.Native.Nat.{ℕ, ◌+◌, ◌-◌, ◌≤◌}
use native.Mathlib.Omega.{arith}
use mathlib.Core.List.{List}
use lib.ListN.{length, take, drop}
use Rattle.octets.proofs.Lent.{lent}
use Rattle.wire.specs.Layout.{good_head}
use Rattle.view.specs.Size.{view_size}
use Rattle.region.specs.Channel.{slot_size}
use Rattle.view.specs.View.{view_of}
use Rattle.view.specs.declared.View.{View}
use Rattle.wire.specs.Codec.{view_at}
use Rattle.step.specs.React.{react}
use Rattle.region.specs.Record.{record_of, record_bytes}
use Rattle.react_bytes.proofs.Views.{long-there}
use Rattle.layout.specs.Layout.{channel}
use Rattle.layout.proofs.Blocks.{length-channel, length-first}
use Rattle.cluster.proofs.handing.handle_first.Goals as goal

pub slice_bounds-react_in-end : goal.slice_bounds-react_in-end
slice_bounds-react_in-end c =
    let a = c.args in
    let long : length c.first_at-s.result.now ≡ slot_size =
    ap (λ (t : List ℕ). length t) c.first_at-s.ensures
    ∙ length-first (channel a.b.now a.a a.c)
    (length-channel a.b.now a.a a.c (omega arith) (omega arith) (omega arith) (omega arith)) in
    search rules

pub react_in-requires : goal.react_in-requires
react_in-requires c =
    let a = c.args in
    let p = c.requires in
    let v = take (good_head + view_size a.n - good_head) (drop good_head c.first_at-s.result.now) in
    let long : view_size a.n ≤ length v = search rules in
    (p.6, p.0, long-there a.n a.m v long, p.1, omega (arith, p.0, p.2), p.7)

pub returns : goal.returns
returns c =
    let a = c.args in
    let n = a.n in
    let e = ap (λ (t : List ℕ). view_of n t) (lent c.first_at-s.result.now
    good_head (view_size n) refl)
    ∙ ap (λ (t : List ℕ). view_of n (view_at n t)) c.first_at-s.ensures in (
      c.react_in.ensures.0 ∙ ap (λ (v : View). (react (record_of a.r.now) a.a a.m
          v).outbox.handler) e,
      c.react_in.ensures.1 ∙ ap (λ (v : View). record_bytes
          (react (record_of a.r.now) a.a a.m v).node) e,
    )
