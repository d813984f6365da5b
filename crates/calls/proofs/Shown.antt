-- The view that a call shows has nothing past the record's n: the claims of specs/Shown. Assumes nothing.
use Prim.Native.Nat.{ℕ, ◌≤◌}
use mathlib.Core.List.{List}
use lib.Dec.{leb, ltb}
use lib.ListN.{length}
use Rattle.octets.specs.Answer.{Answer, returned, refused}
use Rattle.octets.specs.Test.{both}
use Rattle.view.specs.Size.{nodes}
use Rattle.view.specs.View.{AbsentPast}
use Rattle.view.specs.declared.View.{View}
use Rattle.view.proofs.First.{none-absent}
use Rattle.wire.specs.Codec.{decode, view_part}
use Rattle.wire.specs.declared.Message.{Message}
use Rattle.record.specs.Usable.{usable, is_open, full}
use Rattle.record.specs.declared.Node.{Node}
use Rattle.step.specs.declared.Ending.{Ending}
use Rattle.step.specs.declared.Ending.TheVariants.{None, Done, Scan, Spent}
use Rattle.step.specs.declared.Step.{Step}
use Rattle.step.specs.Move.{message_step, begin_step}
use Rattle.step.specs.Stale.{stale_message}
use Rattle.step.specs.Told.{told, told_view}
use Rattle.step.proofs.Numbers.{on-pick}
use Rattle.step.proofs.Theorems as step
use Rattle.calls.specs.Entry.{least_output, let_out, beside, taken, begin, message}
use Rattle.calls.specs.CallResult.{CallResult}
use Rattle.calls.specs.Shown as claim

module _ (n : ℕ) (h : n ≤ nodes) where
  abbrev Shows : CallResult → Type 0
  Shows r = AbsentPast n (told_view r.answer)

  -- only the ending of a scan shows a view
  pub by-ending : (e : Ending) (v : View) → AbsentPast n v → AbsentPast n (told_view (told (returned e) v))
  by-ending None v a = none-absent n h
  by-ending (Done r) v a = none-absent n h
  by-ending (Scan r) v a = a
  by-ending Spent v a = none-absent n h

  let-out : (s : Step) (out : List ℕ) → AbsentPast n s.view → Shows (let_out s out)
  unfolding let_out
  let-out s out a = by-ending s.ending s.view a

pub begin-absent : claim.BeginAbsent
unfolding begin
begin-absent c o out h =
    let none = none-absent c.n h in
    on-pick (Shows c.n h) (ltb (length out) least_output) _ _ (λ e. none) (λ e.
    on-pick (Shows c.n h) (usable c) _ _ (λ e.
    on-pick (Shows c.n h) (is_open c.wait) _ _ (λ e. none) (λ e.
    on-pick (Shows c.n h) (full c) _ _ (λ e. none) (λ e.
    let-out c.n h (begin_step c.f c o) out (step.begin-absent c.f c o h)))) (λ e. none))

-- what is read is handled, or refused
handled : (c : Node) (h : c.n ≤ nodes) (s : ℕ) (v out : List ℕ) (m : Answer Message)
    → Shows c.n h (taken c s v out m)
unfolding taken
handled c h s v out (refused k) = none-absent c.n h
handled c h s v out (returned m) =
    on-pick (Shows c.n h) (stale_message c s m) _ _ (λ e. none-absent c.n h) (λ e.
    let-out c.n h (message_step c.f c s m (beside c.n v m)) out
    (step.message-absent c.f c s m (beside c.n v m) h))

pub message-absent : claim.MessageAbsent
unfolding message
message-absent c s b out h =
    let none = none-absent c.n h in
    on-pick (Shows c.n h) (ltb (length out) least_output) _ _ (λ e. none) (λ e.
    on-pick (Shows c.n h) (usable c) _ _ (λ e.
    on-pick (Shows c.n h) (both (leb 1 s) (leb s c.n)) _ _
    (λ e. handled c h s (view_part c.n b) out (decode c.n b)) (λ e. none)) (λ e. none))
