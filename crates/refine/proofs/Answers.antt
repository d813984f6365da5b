-- The passes that count answers: after a quorum of read answers, and after one of write answers.
use Prim.Native.Nat.{ℕ, ◌+◌, ◌-◌, ◌≤◌, max}
use native.Mathlib.Omega.{arith}
use native.Mathlib.Decide.{ℕ_discrete}
use native.Mathlib.Numerals.{add-one}
use mathlib.Core.Path.{◌≡◌, refl, sym, ◌∙◌, subst}
use mathlib.Core.List.{append-nil}
use Rattle.logs.specs.Count as C
use Rattle.wire.specs.declared.Message.TheVariants.{Value}
use Rattle.view.specs.Size.{limit, nodes}
use Rattle.table.specs.Quorum.{members_in, is_quorum}
use Rattle.record.specs.declared.Node.{Node}
use Rattle.record.specs.declared.Operation.{Operation}
use Rattle.record.specs.declared.Operation.TheVariants.{Update, Scan}
use Rattle.record.specs.declared.Wait.{Wait}
use Rattle.record.specs.declared.Wait.TheVariants.{Idle}
use Rattle.step.specs.declared.Sent.TheVariants.{One, Two}
use Rattle.step.specs.declared.Step.{Step}
use Rattle.step.specs.Move.{writing, after_read, read_pass, write_pass, reads, writes}
use Rattle.history.specs.Event as H
use Rattle.algorithm.specs.Algorithm as A
use Rattle.algorithm.specs.Algorithm.{◌then◌}
use Rattle.refine.specs.Meaning.{operation_of}
use Rattle.refine.specs.Follows.{SameNodes, SameWait, HoldsRound, Follows}
use Rattle.refine.proofs.Choice.{Tells, eq-tells, same-side}
use Rattle.refine.proofs.Quorums.{members_in-tells}
use Rattle.refine.proofs.Turned.{follows-with_request_and_wait, follows-opened, follows-closed, request-next}
use Rattle.refine.proofs.Lockstep.{Handled, Asked, Together, handled-asked, asked-more, follow-pass}
use Rattle.refine.proofs.Lockstep.{nothing-done}

-- A quorum of the senders counted, at a record that follows.
answers-tell : {n f i : ℕ} {ν : A.Node} {c : Node} → Follows n f i ν c → (a : ℕ) (s : A.Nodes) → SameNodes n s a
    → Tells (is_quorum c.n f (members_in c.n a)) (n - f ≤ C.count s n)
answers-tell {n} {f} F a s same = rw F.size (members_in-tells n f a s same)

module _ {n i k : ℕ} (small : n ≤ nodes) (f : ℕ) (s : Step) (t : A.Step) where
  module _ (T : Together n f i k (Handled n) s t) (going : t.ending ≡ H.none) where
    R : Step → A.Step → Type 0
    R x y = Together n f i k (Asked n) x (A.then_by t y H.none)

    -- With the tag u used.
    after-read : (o : Operation) (u : ℕ) → t.node.maxtag ≤ u
        → R (after_read s s.node o u) (A.after_read i u (operation_of o) t.node)
    unfolding R after_read A.limit
    after-read (Update p) u high = same-side R (ℕ_discrete u limit) (eq-tells u limit)
        (λ h. record {
          sent = rw (append-nil t.sent) (handled-asked s.outbox t.sent T.sent);
          ending = refl;
          node = follows-closed T.node;
          to = T.to;
          bounded = T.bounded;
          over = refl;
        })
        (λ h. record {
          sent = asked-more s.outbox (Two (Value (u + 1) s.node.own p) (writing s.node u)) T.sent
              (λ v. rw (T.node.own, add-one u, request-next T.node) refl);
          ending = T.ending ∙ going;
          node = follows-opened T.node small T.bounded (H.update _) H.round0 u high;
          to = T.to;
          bounded = T.bounded;
          over = tt;
        })
    after-read Scan u high = record {
      sent = asked-more s.outbox (One (writing s.node u)) T.sent (λ v. rw (request-next T.node) refl);
      ending = T.ending ∙ going;
      node = follows-opened T.node small T.bounded H.scan H.round1 u high;
      to = T.to;
      bounded = T.bounded;
      over = tt;
    }

    read_by : {w : A.Wait} {w' : Wait} → SameWait n w w' → R (read_pass f s s.node w') (A.read_pass n f i t.node w)
    unfolding R read_pass
    read_by (SameWait.reading {o} {s = answered} {a} {u} same) =
        same-side R (A.quorum? n f answered) (answers-tell T.node a answered same)
        (λ h. subst (λ m. R (after_read s s.node o (max u m))
        (A.after_read i (max u t.node.maxtag) (operation_of o) t.node))
        (sym T.node.maxtag) (after-read o (max u t.node.maxtag) (omega arith)))
        (λ h. nothing-done handled-asked T going)
    read_by SameWait.idle = nothing-done handled-asked T going
    read_by (SameWait.writing same) = nothing-done handled-asked T going
    read_by SameWait.comparing = nothing-done handled-asked T going
    read_by SameWait.borrowing = nothing-done handled-asked T going

  pub reads-follow : Together n f i k (Handled n) s t
      → Together n f i k (Asked n) (reads f s) (t then (λ ν. A.read_pass n f i ν ν.wait))
  unfolding R read_pass
  reads-follow T = follow-pass handled-asked (reads f) (λ ν. A.read_pass n f i ν ν.wait) rests s t T
      (λ e. read_by T e T.node.wait)
    where
      rests : (s : Step) → s.node.wait ≡ Idle → reads f s ≡ s
      rests s e = rw e refl

  module _ (T : Together n f i k (Asked n) s t) (going : t.ending ≡ H.none) where
    Q : Step → A.Step → Type 0
    Q x y = Together n f i k (Asked n) x (A.then_by t y H.none)

    write-by : {w : A.Wait} {w' : Wait} → t.node.wait ≡ w → SameWait n w w'
        → Q (write_pass f s s.node w') (A.write_pass n f t.node w)
    unfolding Q write_pass
    write-by e (SameWait.writing {op} {r} {t = u} {a} {s = answered} same) =
        same-side Q (A.quorum? n f answered) (answers-tell T.node a answered same)
        (λ h. record {
          sent = rw (append-nil t.sent) T.sent;
          ending = T.ending ∙ going;
          to = T.to;
          bounded = T.bounded;
          over = tt;
          node = follows-with_request_and_wait T.node T.node.request SameWait.comparing
              (subst (λ w. HoldsRound n s.node.atround w t.node.all) e T.node.atround)
              T.node.atround-size;
        })
        (λ h. nothing-done (λ o l h. h) T going)
    write-by e SameWait.idle = nothing-done (λ o l h. h) T going
    write-by e (SameWait.reading same) = nothing-done (λ o l h. h) T going
    write-by e SameWait.comparing = nothing-done (λ o l h. h) T going
    write-by e SameWait.borrowing = nothing-done (λ o l h. h) T going

  pub writes-follow : Together n f i k (Asked n) s t
      → Together n f i k (Asked n) (writes f s) (t then (λ ν. A.write_pass n f ν ν.wait))
  unfolding Q write_pass
  writes-follow T = follow-pass (λ o l h. h) (writes f) (λ ν. A.write_pass n f ν ν.wait) rests s t T
      (λ e. write-by T e refl T.node.wait)
    where
      rests : (s : Step) → s.node.wait ≡ Idle → writes f s ≡ s
      rests s e = rw e refl
