-- `cluster::here::take_first` meets its contract.
use mathlib.Core.Path.{◌≡◌, sym, ap, ap₂, ◌∙◌}
use Prim.Native.Nat.{ℕ, ◌≤◌}
use native.Mathlib.Omega.{arith}
use mathlib.Core.List.{List, []}
use lib.ListN.{length, take, length-take}
use Rattle.octets.specs.Bytes.{put}
use Rattle.view.specs.Size.{view_size}
use Rattle.view.specs.View.{view_of}
use Rattle.wire.specs.Codec.{view_at}
use Rattle.record.specs.declared.Node.{Node}
use Rattle.step.specs.React.{react}
use Rattle.step.specs.declared.Step.{Step}
use Rattle.region.specs.Channel.{first}
use Rattle.region.specs.Record.{record_of, record_bytes}
use Rattle.block.specs.Block.{record_in}
use Rattle.react_bytes.proofs.Views.{long-there}
use Rattle.layout.specs.Layout.{block, channel}
use Rattle.cluster.specs.First.{record_at, react_to}
use Rattle.cluster.proofs.InPlace.{record-taken, react-blind, no-view}
use Rattle.cluster.proofs.here.take_first.Goals as goal

pub slice_bounds-react_at-end : goal.slice_bounds-react_at-end
slice_bounds-react_at-end c =
    simp length-take (omega (arith, c.first_view-v.ensures.0, c.requires.0))

pub react_at-requires : goal.react_at-requires
react_at-requires c =
    let a = c.args in
    let p = c.requires in
    let v = take (view_size a.n) c.first_view-v.result in
    let long : view_size a.n ≤ length v = simp length-take (omega (arith, c.first_view-v.ensures.0, p.0)) in
    (p.0, p.1, p.2, p.3, p.4, omega (arith, c.take_off_at.auto.b, p.5), long-there a.n a.m v long, p.6)

pub returns-then-is_good : goal.returns-then-is_good
returns-then-is_good c =
    let a = c.args in
    let p = c.requires in
    let b = a.b.now in
    let b' = c.take_off_at.new.b in
    let same : record_of (record_in (block b' a.c)) ≡ record_of (record_in (block b a.c))
    = ap record_of (ap (λ (t : List ℕ). record_in (block t a.c)) c.take_off_at.ensures
    ∙ record-taken b a.a a.c p.1 p.2 p.3 p.5) in
    let does : react (record_of (record_in (block b' a.c))) a.a a.m
    (view_of a.n (take (view_size a.n) c.first_view-v.result)) ≡ react_to a.n a.a a.c a.m b
    = ap₂ (λ (d : Node) (v : List ℕ). react d a.a a.m (view_of a.n v)) same c.first_view-v.ensures.1 in (
      c.react_at.ensures.0 ∙ ap (λ (s : Step). s.outbox.handler) does,
      c.react_at.ensures.1 ∙ ap₂ (λ (t : List ℕ) (s : Step). put t (record_at a.c) (record_bytes
          s.node))
          c.take_off_at.ensures does,
    )

pub react_at-requires-else-is_good : goal.react_at-requires-else-is_good
react_at-requires-else-is_good c =
    let a = c.args in
    let p = c.requires in (
      p.0,
      p.1,
      p.2,
      p.3,
      p.4,
      omega (arith, c.take_off_at-else-is_good.auto.b, p.5),
      no-view a.n a.m [] (sym c.is_good.ensures ∙ c.if-is_good.false),
      p.6,
    )

pub returns-else-is_good : goal.returns-else-is_good
returns-else-is_good c =
    let a = c.args in
    let p = c.requires in
    let b = a.b.now in
    let b' = c.take_off_at-else-is_good.new.b in
    let same : record_of (record_in (block b' a.c)) ≡ record_of (record_in (block b a.c))
    = ap record_of (ap (λ (t : List ℕ). record_in (block t a.c)) c.take_off_at-else-is_good.ensures
    ∙ record-taken b a.a a.c p.1 p.2 p.3 p.5) in
    let does : react (record_of (record_in (block b' a.c))) a.a a.m (view_of a.n [])
    ≡ react_to a.n a.a a.c a.m b
    = ap (λ (d : Node). react d a.a a.m (view_of a.n [])) same
    ∙ react-blind (record_of (record_in (block b a.c))) a.a a.m (view_of a.n [])
    (view_of a.n (view_at a.n (first (channel b a.a a.c)))) (sym c.is_good.ensures ∙ c.if-is_good.false) in (
      c.react_at-else-is_good.ensures.0 ∙ ap (λ (s : Step). s.outbox.handler) does,
      c.react_at-else-is_good.ensures.1 ∙ ap₂ (λ (t : List ℕ) (s : Step). put t (record_at a.c) (record_bytes
          s.node))
          c.take_off_at-else-is_good.ensures does,
    )
