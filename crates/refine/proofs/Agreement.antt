-- Agreement: the code's test by the tags heard is the algorithm's test by equal sets.
use Prim.Native.Nat.{ℕ, ◌-◌, ◌≤◌}
use mathlib.Core.Path.{◌≡◌, refl, ap}
use mathlib.Core.Logic.{◌⊎◌, inl, inr, ◌↔◌}
use mathlib.Core.Bool.{Bool, true, false}
use lib.Dec.{leb, eqb}
use borrow.Author.Tests.{le-leb, leb-true, eq-eqb, eqb-true}
use Rattle.logs.specs.Count as C
use Rattle.table.specs.Loop.{either, all}
use Rattle.table.specs.Table.{at, tag_of, heard_of}
use Rattle.table.specs.Quorum.{agrees, agreeing, is_quorum}
use Rattle.table.proofs.Laws.{all-at, all-all}
use Rattle.record.specs.declared.Node.{Node}
use Rattle.history.specs.Order.{OneTo}
use Rattle.algorithm.specs.Algorithm as A
use Rattle.eqaso.proofs.Bounded.{BoundedNode, Covers, agrees-by-tags}
use Rattle.refine.specs.Follows.{Holds, Follows}
use Rattle.refine.proofs.Choice.{Tells, same_bool}
use Rattle.refine.proofs.Quorums.{same_count, quorum-tells}

either_true : (a b : Bool) → either a b ≡ true → (a ≡ true) ⊎ (b ≡ true)
either_true true b e = inl refl
either_true false b e = inr e

either_left : (a b : Bool) → a ≡ true → either a b ≡ true
either_left a b e = rw e refl

either-right : (a b : Bool) → b ≡ true → either a b ≡ true
either-right true b e = refl
either-right false b e = e

module _ {n f i : ℕ} {ν : A.Node} {c : Node} (F : Follows n f i ν c) (b : BoundedNode n ν) (t : ℕ)
    (held : Holds n c.atround t ν.all) where
  covers : ℕ → ℕ → Bool
  covers k w = leb (at c.atround.tags w) (heard_of c.heard k w)

  tag-held : (w : ℕ) → OneTo n w → tag_of c.atround w ≡ (A.newest w t ν.all).tag
  tag-held w o = ap (λ e. e.tag) (held w o)

  agrees-told : (k : ℕ) → OneTo n k → (agrees n i c.heard c.atround.tags k ≡ true) ↔ ((k ≡ i) ⊎ Covers b t k)
  unfolding agrees covers
  agrees-told k o = (λ e. to (either_true (eqb k i) (all n (covers k)) e), of)
    where
      to : (eqb k i ≡ true) ⊎ (all n (covers k) ≡ true) → (k ≡ i) ⊎ Covers b t k
      to (inl e) = inl (eqb-true k i e)
      to (inr e) = inr λ w p.
          rw (← tag-held w p, ← F.heard k w o p)
          (leb-true (tag_of c.atround w) (heard_of c.heard k w) (all-at n (covers k) w e p.0 p.1))

      of : (k ≡ i) ⊎ Covers b t k → either (eqb k i) (all n (covers k)) ≡ true
      of (inl e) = either_left (eqb k i) (all n (covers k)) (eq-eqb k i e)
      of (inr h) = either-right (eqb k i) (all n (covers k)) (all-all n (covers k) λ w lo hi.
          le-leb (tag_of c.atround w) (heard_of c.heard k w)
          (rw (tag-held w (lo, hi), F.heard k w o (lo, hi)) (h w (lo, hi))))

  same-agrees : (k : ℕ) → OneTo n k → A.agrees i ν t k ≡ agrees n i c.heard c.atround.tags k
  same-agrees k o = same_bool (A.agrees i ν t k) (agrees n i c.heard c.atround.tags k) (
    λ e. (agrees-told k o).1 ((agrees-by-tags i ν b t k).0 e),
    λ e. (agrees-by-tags i ν b t k).1
        ((agrees-told k o).0 e),
  )

  -- A quorum of agreeing nodes.
  pub agreeing-tells : Tells (is_quorum n f (agreeing n i c.heard c.atround.tags))
      (n - f ≤ C.count (A.agrees i ν t) n)
  unfolding agreeing
  agreeing-tells = quorum-tells n f _ (A.agrees i ν t)
      (same_count n (agrees n i c.heard c.atround.tags) (A.agrees i ν t) same-agrees)
