-- The passes that end an operation: after agreement, and with a view that another node lent.
use Prim.Native.Nat.{ℕ, suc, ◌+◌, ◌-◌, ◌≤◌, max}
use native.Mathlib.Omega.{arith}
use native.Mathlib.Decide.{dec_le}
use native.Mathlib.Numerals.{add-one}
use mathlib.Core.Path.{◌≡◌, refl, sym, ◌∙◌, ap, ap₂, subst}
use mathlib.Core.List.{[], ◌∷◌, append-nil}
use Rattle.view.specs.Size.{nodes}
use Rattle.logs.specs.Count as C
use Rattle.view.specs.declared.View.{View}
use Rattle.wire.specs.declared.Message.TheVariants.{Good}
use Rattle.view.specs.View.{no_view, first_of}
use Rattle.record.specs.Record.{closed}
use Rattle.record.specs.declared.Node.{Node}
use Rattle.record.specs.declared.Wait.{Wait}
use Rattle.record.specs.declared.Wait.TheVariants.{Idle}
use Rattle.step.specs.declared.Sent.TheVariants.{Nothing, One, Two}
use Rattle.step.specs.declared.Rule.{Rule}
use Rattle.step.specs.declared.Rule.TheVariants.{Direct, Borrowed}
use Rattle.step.specs.declared.Step.{Step}
use Rattle.step.specs.Step as S
use Rattle.step.specs.Move.{agreement}
use Rattle.step.specs.Move.{opened, writing, held_view, lent_view, after_good, after_failed, compare_pass, borrow_pass}
use Rattle.step.specs.Move.{compares, borrows}
use Rattle.history.specs.Message as M
use Rattle.history.specs.Event as H
use Rattle.algorithm.specs.Algorithm as A
use Rattle.algorithm.specs.Algorithm.{◌then◌}
use Rattle.eqaso.specs.Bounded.{BoundedNode}
use Rattle.refine.specs.Meaning.{view_meaning, kind_of, number, rule_of, ending_of}
use Rattle.refine.specs.Follows.{SameWait, Holds, HoldsRound, Follows}
use Rattle.refine.proofs.Choice.{Tells, le-tells-as, same-side}
use Rattle.refine.proofs.Tables.{same_view, view_first, sized-absent}
use Rattle.refine.proofs.Agreement.{agreeing-tells}
use Rattle.refine.proofs.Turned.{follows-with_request_and_wait, follows-opened, follows-closed, request-next}
use Rattle.refine.proofs.Lockstep.{Asked, Whole, Over, Together, asked-whole, whole-more, follow-pass}
use Rattle.refine.proofs.Lockstep.{nothing-done}

-- The ending of an operation with its rule and view.
same-finish : (n : ℕ) (op : H.Operation) (r : Rule) (v : View) {l : M.View} → view_meaning n v ≡ l
    → ending_of n v (S.ending_of (kind_of op) r) ≡ A.finish op (rule_of r) l
same-finish n (H.update p) r v e = ap (H.done (rule_of r)) e
same-finish n H.scan r v e = ap (H.shown (rule_of r)) e

over-finish : (op : H.Operation) (r : H.Rule) (l : M.View) → Over (A.finish op r l) A.idle
over-finish (H.update p) r l = refl
over-finish H.scan r l = refl

-- A view that is given out means what the table of the record means.
given_out : {n m : ℕ} → m ≡ n → (v : View) → view_meaning n (first_of m v) ≡ view_meaning n v
given_out {n} e v = ap (λ k. view_meaning n (first_of k v)) e ∙ view_first n v

-- A quorum of agreeing nodes, at a record that follows.
agreement-tells : {n f i : ℕ} {ν : A.Node} {c : Node} (F : Follows n f i ν c) → BoundedNode n ν → (u : ℕ)
    → Holds n c.atround u ν.all
    → Tells (agreement f c)
    (n - f ≤ C.count (A.agrees i ν u) n)
agreement-tells F b u held = rw (F.size, F.own) (agreeing-tells F b u held)

module _ {n i k : ℕ} (small : n ≤ nodes) (f : ℕ) (s : Step) (t : A.Step) where
  module _ (T : Together n f i k (Asked n) s t) (going : t.ending ≡ H.none) (op : H.Operation) (u : ℕ) where
    R : Step → A.Step → Type 0
    R x y = Together n f i k (Whole n) x (A.then_by t y H.none)

    -- The tag of the round after round 0.
    next-tag : max (u + 1) s.node.maxtag ≡ max (suc u) t.node.maxtag
    next-tag = rw (add-one u, T.node.maxtag) refl

    -- The next round opens with tag x.
    opens : (r : H.Round) {x y : ℕ} → x ≡ y → t.node.maxtag ≤ y
        → R (S.after_comparing s (opened s.node (kind_of op) (number r) x) (One (writing s.node x)) no_view)
        (A.opening op r y t.node)
    unfolding R
    opens r {x} {y} e high = subst
        (λ z. R (S.after_comparing s (opened s.node (kind_of op) (number r) z) (One (writing s.node z)) no_view)
        (A.opening op r y t.node)) (sym e) (record {
          sent = whole-more s.outbox (One (writing s.node y)) no_view T.sent (rw (request-next T.node) refl);
          ending = T.ending ∙ going;
          node = follows-opened T.node small T.bounded op r y high;
          to = T.to;
          bounded = T.bounded;
          over = tt;
        })

    after-failed : (r : H.Round) → R (after_failed s s.node (kind_of op) (number r) u) (A.after_failed op r u t.node)
    unfolding R after_failed
    after-failed H.round0 = opens H.round1 next-tag (omega arith)
    after-failed H.round1 = opens H.round2 T.node.maxtag (omega arith)
    after-failed H.round2 = opens H.round3 T.node.maxtag (omega arith)
    after-failed H.round3 = record {
      sent = whole-more s.outbox Nothing no_view T.sent refl;
      ending = T.ending ∙ going;
      node = follows-with_request_and_wait T.node T.node.request SameWait.borrowing tt sized-absent;
      to = T.to;
      bounded = T.bounded;
      over = tt;
    }

    module _ (held : Holds n s.node.atround u t.node.all) where
      view : view_meaning n (held_view s.node) ≡ A.view_upto n u t.node.all
      view = given_out T.node.size s.node.atround ∙ same_view n u s.node.atround t.node.all held

      -- A good round ends the operation.
      ends : (j : ℕ) (r : H.Round) → rule_of (Direct j) ≡ H.direct r
          → R (S.ended (S.after_comparing s s.node (One (Good u)) (held_view s.node)) (closed s.node Idle)
          (S.ending_of (kind_of op) (Direct j)) (held_view s.node))
          (A.ended (A.finish op (H.direct r) (A.view_upto n u t.node.all))
          (M.good u (A.view_upto n u t.node.all) ∷ [])
          (A.with_wait A.idle t.node))
      unfolding R
      ends j r e = record {
        sent = whole-more s.outbox (One (Good u)) (held_view s.node) T.sent (ap (λ l. M.good u l ∷ []) view);
        ending = same-finish n op (Direct j) (held_view s.node) view
            ∙ ap (λ x. A.finish op x (A.view_upto n u t.node.all)) e;
        node = follows-closed T.node;
        to = T.to;
        bounded = T.bounded;
        over = over-finish op (H.direct r) (A.view_upto n u t.node.all);
      }

      after-good : (r : H.Round) → R (after_good s s.node (kind_of op) (number r) u)
          (A.after_good op r u (A.view_upto n u t.node.all) t.node)
      unfolding R after_good
      after-good H.round0 = subst (λ z. R
          (S.after_comparing s (opened s.node (kind_of op) 1 z) (Two (Good u) (writing s.node z))
          (held_view s.node))
          (A.after_good op H.round0 u (A.view_upto n u t.node.all) t.node)) (sym next-tag) (record {
            sent = whole-more s.outbox (Two (Good u) (writing s.node (max (suc u) t.node.maxtag)))
                (held_view s.node) T.sent
                (ap₂ (λ l q. M.good u l ∷ M.write q (max (suc u) t.node.maxtag) ∷ []) view
                (request-next T.node));
            ending = T.ending ∙ going;
            node = follows-opened T.node small T.bounded op H.round1 _ (omega arith);
            to = T.to;
            bounded = T.bounded;
            over = tt;
          })
      after-good H.round1 = ends 1 H.round1 refl
      after-good H.round2 = ends 2 H.round2 refl
      after-good H.round3 = ends 3 H.round3 refl

  module _ (T : Together n f i k (Asked n) s t) (going : t.ending ≡ H.none) where
    compare-by : {w : A.Wait} {w' : Wait} → t.node.wait ≡ w → SameWait n w w'
        → Together n f i k (Whole n) (compare_pass f s s.node w')
        (A.then_by t (A.compare_pass n f i t.node w) H.none)
    unfolding compare_pass R
    compare-by e (SameWait.comparing {op} {r} {t = u}) =
        let held : Holds n s.node.atround u t.node.all =
        subst (λ w. HoldsRound n s.node.atround w t.node.all) e T.node.atround in
        same-side (R T going op u) (A.quorum? n f (A.agrees i t.node u))
        (agreement-tells T.node T.bounded u held)
        (λ q. same-side (R T going op u) (dec_le t.node.maxtag u) (le-tells-as T.node.maxtag refl)
        (λ h. after-good T going op u held r) (λ h. after-failed T going op u r))
        (λ q. nothing-done asked-whole T going)
    compare-by e SameWait.idle = nothing-done asked-whole T going
    compare-by e (SameWait.reading same) = nothing-done asked-whole T going
    compare-by e (SameWait.writing same) = nothing-done asked-whole T going
    compare-by e SameWait.borrowing = nothing-done asked-whole T going

  pub compares-follow : Together n f i k (Asked n) s t
      → Together n f i k (Whole n) (compares f s) (t then (λ ν. A.compare_pass n f i ν ν.wait))
  unfolding compare_pass
  compares-follow T = follow-pass asked-whole (compares f) (λ ν. A.compare_pass n f i ν ν.wait) rests s t T
      (λ e. compare-by T e refl T.node.wait)
    where
      rests : (s : Step) → s.node.wait ≡ Idle → compares f s ≡ s
      rests s e = rw e refl

-- The kept view is borrowed.
module _ {n f i k : ℕ} (s : Step) (t : A.Step) where
  borrow-by : Together n f i k (Whole n) s t → t.ending ≡ H.none → {w : A.Wait} {w' : Wait} → SameWait n w w'
      → Together n f i k (Whole n) (borrow_pass s s.node w') (A.then_by t (A.borrow_pass n t.node w) H.none)
  unfolding borrow_pass
  borrow-by T going (SameWait.borrowing {op} {t = u}) =
      same-side (λ x y. Together n f i k (Whole n) x (A.then_by t y H.none)) (dec_le u (A.kept n t.node.goods).tag)
      (le-tells-as refl T.node.kept)
      (λ h. record {
        sent = rw (append-nil t.sent) T.sent;
        ending = same-finish n op Borrowed (lent_view s.node)
            (given_out T.node.size s.node.keptview ∙ T.node.keptview);
        node = follows-closed T.node;
        to = T.to;
        bounded = T.bounded;
        over = over-finish op H.borrowed (A.kept n t.node.goods).view;
      })
      (λ h. nothing-done (λ o l h. h) T going)
  borrow-by T going SameWait.idle = nothing-done (λ o l h. h) T going
  borrow-by T going (SameWait.reading same) = nothing-done (λ o l h. h) T going
  borrow-by T going (SameWait.writing same) = nothing-done (λ o l h. h) T going
  borrow-by T going SameWait.comparing = nothing-done (λ o l h. h) T going

  pub borrows-follow : Together n f i k (Whole n) s t
      → Together n f i k (Whole n) (borrows s) (t then (λ ν. A.borrow_pass n ν ν.wait))
  unfolding borrow_pass
  borrows-follow T = follow-pass (λ o l h. h) borrows (λ ν. A.borrow_pass n ν ν.wait) rests s t T
      (λ e. borrow-by T e T.node.wait)
    where
      rests : (s : Step) → s.node.wait ≡ Idle → borrows s ≡ s
      rests s e = rw e refl
