-- Answers are counted alike: only those of the awaited kind with the current number, one for each sender.
use Prim.Native.Nat.{ℕ}
use native.Mathlib.Decide.{ℕ_discrete}
use mathlib.Core.Path.{◌≡◌, sym, subst}
use mathlib.Core.Bool.{true}
use lib.Dec.{eqb}
use Rattle.logs.specs.Update.{upd}
use Rattle.octets.specs.Test.{pick}
use Rattle.table.specs.Quorum.{member, with}
use Rattle.record.specs.Record.{with_wait}
use Rattle.record.specs.declared.Node.{Node}
use Rattle.record.specs.declared.Wait.{Wait}
use Rattle.record.specs.declared.Wait.TheVariants.{Writing}
use Rattle.step.specs.React.{read_wait, write_wait}
use Rattle.history.specs.Order.{OneTo}
use Rattle.algorithm.specs.Algorithm as A
use Rattle.refine.specs.Meaning.{kind_of, number}
use Rattle.refine.specs.Follows.{SameWait, HoldsRound, Follows}
use Rattle.refine.proofs.Choice.{split, Tells, eq-tells, same-side, same_test}
use Rattle.refine.proofs.Quorums.{same-with, same-again}
use Rattle.refine.proofs.Turned.{follows-with_request_and_wait}

module _ {n f i : ℕ} {ν : A.Node} {c : Node} (F : Follows n f i ν c) (k q t : ℕ) (sender : OneTo n k) where
  R : Wait → A.Node → Type 0
  R w μ = Follows n f i μ (with_wait c w)

  current : Tells (eqb q c.request) (q ≡ ν.request)
  current = rw F.request (eq-tells q ν.request)

  -- The wait as it was.
  unmoved : {w' : Wait} → c.wait ≡ w' → Follows n f i ν (with_wait c w')
  unmoved e = subst (λ w. Follows n f i ν (with_wait c w)) e F

  -- Another wait that holds the same reports for its round.
  rewaits : {w : A.Wait} {w' : Wait} → SameWait n w w' → HoldsRound n c.atround w ν.all
      → Follows n f i (A.with_wait w ν) (with_wait c w')
  rewaits same h = follows-with_request_and_wait F F.request same h F.atround-size

  pub read-answered : {w : A.Wait} {w' : Wait} → c.wait ≡ w' → SameWait n w w'
      → Follows n f i (A.read_answered k q t ν w) (with_wait c (read_wait c.request k q t w'))
  unfolding R
  read-answered e (SameWait.reading {o} {s} {a} {u} same) = same-side R (ℕ_discrete q ν.request) current
      (λ d. same_test R (s k) (sym (same k sender)) (λ y. unmoved e)
      (λ y. rewaits (SameWait.reading (same-with n a k s sender same)) tt)) (λ d. unmoved e)
  read-answered e SameWait.idle = unmoved e
  read-answered e (SameWait.writing same) = unmoved e
  read-answered e SameWait.comparing = unmoved e
  read-answered e SameWait.borrowing = unmoved e

  pub write-answered : {w : A.Wait} {w' : Wait} → ν.wait ≡ w → c.wait ≡ w' → SameWait n w w'
      → Follows n f i (A.write_answered k q t ν w) (with_wait c (write_wait c.request k q t w'))
  unfolding R
  write-answered e e' (SameWait.writing {op} {r} {t = u} {a} {s} same) =
      same-side R (ℕ_discrete q ν.request) current
      (λ d. same-side R (ℕ_discrete t u) (eq-tells t u) (λ d. count) (λ d. unmoved e')) (λ d. unmoved e')
    where
      held : HoldsRound n c.atround (A.writing op r u s) ν.all
      held = subst (λ w. HoldsRound n c.atround w ν.all) e F.atround

      round : ℕ → Wait
      round b = Writing (kind_of op) (number r) u b

      count : Follows n f i (A.with_wait (A.writing op r u (upd s k true)) ν)
          (with_wait c (pick (member a k) (round a) (round (with a k))))
      count = split (member a k)
          (λ y. rw y (rewaits (SameWait.writing (same-again n a k s y same)) held))
          (λ y. rw y (rewaits (SameWait.writing (same-with n a k s sender same)) held))
  write-answered e e' SameWait.idle = unmoved e'
  write-answered e e' (SameWait.reading same) = unmoved e'
  write-answered e e' SameWait.comparing = unmoved e'
  write-answered e e' SameWait.borrowing = unmoved e'
