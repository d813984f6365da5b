-- One step of the code is one step of the algorithm over sets, for each message that a run hands over and each begin.
use Prim.Native.Nat.{ℕ, ◌-◌, ◌≤◌}
use native.Mathlib.Omega.{arith}
use mathlib.Core.Path.{◌≡◌, refl}
use mathlib.Core.Bool.{true, false, not}
use borrow.Author.Tests.{lt-ltb, le-ltb}
use Rattle.view.specs.declared.Report.{Report}
use Rattle.view.specs.declared.View.{View}
use Rattle.wire.specs.declared.Message.{Message}
use Rattle.view.specs.Size.{limit, nodes}
use Rattle.record.specs.declared.Node.{Node}
use Rattle.record.specs.declared.Operation.{Operation}
use Rattle.record.specs.declared.Wait.{Wait}
use Rattle.record.specs.Usable.{is_open, full, stale}
use Rattle.step.specs.declared.Step.{Step}
use Rattle.step.specs.Move.{move_on, message_step, begun, begin_step}
use Rattle.history.specs.Message as M
use Rattle.history.specs.Order.{OneTo}
use Rattle.algorithm.specs.Algorithm as A
use Rattle.eqaso.specs.Cluster.{is_idle}
use Rattle.eqaso.specs.Bounded.{BoundedNode}
use Rattle.eqaso.specs.Bounded.{Expected}
use Rattle.refine.specs.Meaning.{message_of, operation_of}
use Rattle.refine.specs.Follows.{Sized, SameWait, Follows}
use Rattle.refine.specs.Lockstep.{SameStep}
use Rattle.refine.proofs.Quorums.{same-nobody}
use Rattle.refine.proofs.Turned.{follows-with_request_and_wait, request-next}
use Rattle.refine.proofs.Lockstep.{Handled, Whole, Together, same_step}
use Rattle.refine.proofs.React.{react-follows}
use Rattle.refine.proofs.Answers.{reads-follow, writes-follow}
use Rattle.refine.proofs.Compares.{compares-follow, borrows-follow}
use Rattle.refine.proofs.Received.{value_of, not-stale}

moves-follow : {n i k : ℕ} → n ≤ nodes → (f : ℕ) (s : Step) (t : A.Step) → Together n f i k (Handled n) s t
    → Together n f i k (Whole n) (move_on f s) (A.move_on n f i t)
unfolding move_on A.move_on
moves-follow small f s t T = borrows-follow _ _
    (compares-follow small f _ _ (writes-follow small f _ _ (reads-follow small f s t T)))

module _ {n f i : ℕ} (small : n ≤ nodes) {ν : A.Node} {c : Node} (F : Follows n f i ν c) (b : BoundedNode n ν) where
  -- A message m from node k, with the view that a good message carries.
  pub message-follows : (k : ℕ) → OneTo n k → (m : Message) (v : View) → Sized v → Expected n k ν (message_of n i v m)
      → SameStep n f i k (message_step f c k m v) (A.message_step n f i k (message_of n i v m) ν)
  unfolding message_step
  message-follows k o m v z a = same_step (moves-follow small f _ _ (react-follows small F b k o m v z a))

  pub begin-follows : (o : Operation) → SameStep n f i i (begin_step f c o) (A.begin_step n f i (operation_of o) ν)
  unfolding begin_step begun
  begin-follows o = same_step (moves-follow small f (begun c o) _ (record {
    sent = record { handler = λ v. rw (request-next F) refl; reading = refl; comparing = refl };
    to = F.own;
    ending = refl;
    node = follows-with_request_and_wait F (request-next F) (SameWait.reading (same-nobody n)) tt F.atround-size;
    bounded = b;
    over = tt;
  }))

-- Refusals 5 and 6 are given alike.
pub same-idle : {n : ℕ} {w : A.Wait} {w' : Wait} → SameWait n w w' → is_open w' ≡ not (is_idle w)
same-idle SameWait.idle = refl
same-idle (SameWait.reading same) = refl
same-idle (SameWait.writing same) = refl
same-idle SameWait.comparing = refl
same-idle SameWait.borrowing = refl

module _ {n f i : ℕ} {ν : A.Node} {c : Node} (F : Follows n f i ν c) where
  pub not_full : 5 ≤ A.limit - ν.request → full c ≡ false
  unfolding A.limit
  not_full h = le-ltb (limit - c.request) 5 (rw F.request h)

  pub is-full : ¬ (5 ≤ A.limit - ν.request) → full c ≡ true
  unfolding A.limit
  is-full h = lt-ltb (limit - c.request) 5 (rw F.request (omega arith))

  -- Refusal 9 is not given to a value that a run may hand over.
  pub never-stale : n ≤ nodes → (k : ℕ) → OneTo n k → (t w : ℕ) (p : Report) → Expected n k ν (M.value (value_of t w p))
      → stale c k w t ≡ false
  never-stale small k o t w p a = not-stale small F k w t p o a
