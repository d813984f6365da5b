-- Clusters in which a value waits at a node that has not had it, and at one that has had it once.
use Prim.Native.Nat.{ℕ, ◌+◌, ◌≤◌, ◌<◌}
use native.Mathlib.Omega.{arith}
use mathlib.Core.Path.{◌≡◌, refl, ap, ◌∙◌, subst}
use mathlib.Core.Bool.{Bool, true, false}
use mathlib.Core.List.{[]}
use borrow.Author.Tests.{lt-ltb, le-ltb}
use Rattle.logs.specs.Log.{◌∈◌}
use Rattle.octets.specs.Test.{pick}
use Rattle.view.specs.Size.{nodes}
use Rattle.view.specs.View.{no_view}
use Rattle.view.specs.declared.Report.{Report}
use Rattle.wire.specs.Layout.{allowed}
use Rattle.wire.specs.declared.Message.TheVariants.{Value}
use Rattle.table.specs.Table.{tag_of, heard_of, put_entry}
use Rattle.record.specs.Usable.{usable, is_open}
use Rattle.record.specs.declared.Node.{Node}
use Rattle.step.specs.Move.{message_step}
use Rattle.step.specs.React.{is_new, received, react}
use Rattle.step.specs.declared.Step.{Step}
use Rattle.step.specs.Allowed.{lawful}
use Rattle.table.proofs.Entries.{put_entry-tag}
use Rattle.outgoing.specs.Outgoing.{is_cut}
use Rattle.outgoing.specs.declared.Extent.{Extent}
use Rattle.layout.specs.Layout.{node}
use Rattle.history.specs.Message as M
use Rattle.history.specs.Order.{OneTo}
use Rattle.algorithm.specs.Algorithm as A
use Rattle.eqaso.specs.Bounded.{BoundedNode, Arrives}
use Rattle.refine.specs.Follows.{Follows}
use Rattle.refine.proofs.Received.{value_of}
use Rattle.refine.proofs.Steps.{same-idle, message-follows}
use Rattle.refine.proofs.Tables.{sized-absent, heard-set}
use Rattle.mirror.proofs.Checks.{is-usable}
use Rattle.mirror.proofs.Safety.{message-safe}
use Rattle.points.specs.Forward.{ValueWaits}
use Rattle.points.proofs.Channels.{rests}
use Rattle.points.proofs.ValueWaits.{tag-some, writer_in, base, start, waits_there}

module _ (n f : ℕ) (size : OneTo nodes n) (half : f + f < n) (a c : ℕ) (from : OneTo n a) (at : OneTo n c)
    (t w : ℕ) (p : Report) (ok : allowed n (Value t w p) [] ≡ true) where
  small : n ≤ 16
  small = size.1

  some : 1 ≤ t
  some = tag-some n t w p ok

  writer : OneTo n w
  writer = writer_in n t w p ok

  -- ---- the record of node c when it is fresh

  abbrev first-node : Node
  first-node = node (base n f size half) c

  first-follows : Follows n f c A.fresh first-node
  first-follows = ((start n f size half).shows.says c at).node

  first-usable : usable first-node ≡ true
  first-usable = is-usable size.0 small (start n f size half) c at

  first-idle : is_open first-node.wait ≡ false
  first-idle = same-idle first-follows.wait

  first-tag : tag_of first-node.last w ≡ 0
  unfolding A.newest
  first-tag = ap (λ (e : M.Entry). e.tag) (first-follows.last w writer)

  first-heard : heard_of first-node.heard a w ≡ 0
  unfolding A.newest
  first-heard = first-follows.heard a w from writer

  first-new : is_new first-node w t ≡ true
  first-new = rw first-tag (lt-ltb 0 t (omega (arith, some)))

  -- ---- the record of node c when it has handled the value once

  nothing : (v : M.Value) {X : Type 0} → v ∈ [] → X
  nothing v i = elim i [ ]

  bounded : BoundedNode n A.fresh
  bounded = record {
    tagged = λ v i. nothing v i;
    writer = λ v i. nothing v i;
    one = λ u v i j. nothing u i;
    low = λ u v i j. nothing u i;
    known = λ k v i. nothing v i;
    segment = λ k u v i j. nothing v i;
  }

  arrives : Arrives n [] (λ j. []) 0 a (value_of t w p)
  arrives = record {
    tagged = omega (arith, some);
    writer = writer;
    seen = λ u i. nothing u i;
    older = λ u i. nothing u i;
    low = λ u i. nothing u i;
    rise = λ u i. nothing u i;
  }

  abbrev second : Node
  second = (message_step f first-node a (Value t w p) no_view).node

  second_is : second ≡ received first-node a w t p
  unfolding message_step react received
  second_is = ap (λ (s : Step). s.node) (rests f (react first-node a (Value t w p) no_view) first-idle)

  abbrev sets : A.Node
  sets = (A.message_step n f c a (M.value (value_of t w p)) A.fresh).node

  second-follows : Follows n f c sets second
  second-follows = (message-follows small first-follows bounded a from (Value t w p) no_view sized-absent arrives).node

  lawful-is : lawful n (Value t w p) no_view ≡ true
  unfolding allowed
  lawful-is = ok

  second-usable : usable second ≡ true
  second-usable = (message-safe small first-follows first-usable a from (Value t w p) no_view lawful-is).node

  second-idle : is_open second.wait ≡ false
  unfolding received
  second-idle = ap (λ (d : Node). is_open d.wait) second_is ∙ first-idle

  second-tag : tag_of second.last w ≡ t
  unfolding received
  second-tag = ap (λ (d : Node). tag_of d.last w) second_is
      ∙ ap (λ y. tag_of (pick y (put_entry first-node.last w t p) first-node.last) w) first-new
      ∙ put_entry-tag first-node.last w t p writer.0 (omega (arith, writer.1, small))
      (first-follows.last-size.tags, first-follows.last-size.reports)

  second-heard : heard_of second.heard a w ≡ t
  unfolding received
  second-heard = ap (λ (d : Node). heard_of d.heard a w) second_is
      ∙ heard-set small first-node.heard a w t from writer first-follows.heard-size

  -- At a node that has not had it, and at one that has.
  pub value-waits : (x : Extent) → (is_cut x ≡ true → 0 < f) → (y : Bool) → ValueWaits n f a c x t w p y
  value-waits x may true = subst (ValueWaits n f a c x t w p) first-new
      (waits_there n f size half a c from at t w p ok first-node A.fresh first-follows first-usable first-idle
      (rw (
        first-heard,
        first-tag,
        le-ltb t 0 (omega arith),
        lt-ltb 0 t (omega (arith, some)),
        le-ltb first-node.maxtag 0 (omega arith),
      ) refl)
      x may)
  value-waits x may false = subst (ValueWaits n f a c x t w p) old
      (waits_there n f size half a c from at t w p ok second sets second-follows second-usable second-idle
      (rw (second-heard, second-tag, le-ltb t t (omega arith)) refl) x may)
    where
      old : is_new second w t ≡ false
      old = rw (second-tag, le-ltb t t (omega arith)) refl
