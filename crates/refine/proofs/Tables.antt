-- Tables: what a view of the code has of each writer, after each change that a step makes in it.
use Prim.Native.Nat.{ℕ, zero, suc, ◌-◌, ◌≤◌, ◌<◌}
use native.Mathlib.Omega.{arith}
use native.Mathlib.Decide.{dec_le}
use mathlib.Core.Path.{◌≡◌, refl, ◌∙◌, ap, ap₂}
use mathlib.Core.Logic.{ite, ◌≢◌}
use mathlib.Core.List.{List, [], ◌∷◌, ◌++◌}
use borrow.Author.Tests.{le-leb, lt-leb}
use lib.ListN.{length, get_or, set, replicate, length-set, length-replicate}
use lib.Seq.{get_or-set_same, get_or-set_other}
use Rattle.view.specs.Size.{nodes}
use Rattle.view.specs.declared.Report.{Report}
use Rattle.view.specs.declared.View.{View}
use Rattle.view.specs.Report.{no_report}
use Rattle.view.specs.View.{no_view, first_of}
use Rattle.view.proofs.First.{first-tag, first-report}
use Rattle.table.specs.Table.{tag_of, put_entry, newest, newest_tag, newest_report, cell, heard_of, cells}
use Rattle.table.proofs.Laws.{length-numbered}
use Rattle.table.proofs.Entries.{newest-tag, newest-report, put_entry-tag, put_entry-report, put_entry-tag-other}
use Rattle.table.proofs.Entries.{put_entry-report-other}
use Rattle.history.specs.Message as M
use Rattle.history.specs.Order.{OneTo}
use Rattle.algorithm.specs.Algorithm as A
use Rattle.refine.specs.Meaning.{code, entry_of, view_meaning}
use Rattle.refine.specs.Follows.{Sized, Holds}

-- The view with no report, of any writer and in every place.
pub sized-absent : Sized no_view
sized-absent = record { tags = length-replicate {A = ℕ} nodes 0; reports = length-replicate nodes no_report }

get_d-all : {X : Type 0} (n i : ℕ) (x : X) → get_or (replicate n x) i x ≡ x
get_d-all zero i x = refl
get_d-all (suc n) zero x = refl
get_d-all (suc n) (suc i) x = get_d-all n i x

pub entry_absent : (w : ℕ) → entry_of no_view w ≡ M.absent
entry_absent w = rw (get_d-all {X = ℕ} nodes (w - 1) 0, get_d-all nodes (w - 1) no_report) refl

-- One entry more.
pub sized-put_entry : (v : View) (w t : ℕ) (p : Report) → Sized v → Sized (put_entry v w t p)
sized-put_entry v w t p z = record {
  tags = length-set v.tags (w - 1) t ∙ z.tags;
  reports = length-set v.reports (w - 1) p ∙ z.reports;
}

module _ {n : ℕ} (small : n ≤ nodes) (v : View) (w t : ℕ) (p : Report) (at : OneTo n w) where
  pub entry-put_entry : Sized v → entry_of (put_entry v w t p) w ≡ record { tag = t; report = code p }
  entry-put_entry z =
      let k : w ≤ nodes = omega arith in
      let pair : (length v.tags ≡ nodes) × (length v.reports ≡ nodes) = (z.tags, z.reports) in
      rw (put_entry-tag v w t p at.0 k pair, put_entry-report v w t p at.0 k pair) refl

  pub entry-put_entry-other : (x : ℕ) → OneTo n x → x ≢ w → entry_of (put_entry v w t p) x ≡ entry_of v x
  entry-put_entry-other x to ne =
      let k : w ≤ nodes = omega arith in
      rw (put_entry-tag-other v w t p at.0 k x to.0 ne, put_entry-report-other v w t p at.0 k x to.0 ne) refl

-- The newest up to t, by the last of each writer and one held for a lower tag.
pub sized-newest : (t : ℕ) (last held : View) → Sized (newest t last held)
unfolding newest
sized-newest t last held = record {
  tags = length-numbered nodes (newest_tag t last held);
  reports = length-numbered nodes (newest_report t last held);
}

pub entry-newest : {n : ℕ} → n ≤ nodes → (t : ℕ) (last held : View) (w : ℕ) → OneTo n w
    → entry_of (newest t last held) w ≡ ite (dec_le (tag_of last w) t) (entry_of last w) (entry_of held w)
entry-newest small t last held w at =
    let k : w ≤ nodes = omega arith in
    rw (newest-tag t last held w at.0 k, newest-report t last held w at.0 k)
    (elim (dec_le (tag_of last w) t)
    as (λ d. ◌≡◌ {A = M.Entry} (record { tag = newest_tag t last held w; report = code (newest_report t last held w) })
    (ite d (entry_of last w) (entry_of held w)))
    [ yes h ↦ rw (le-leb (tag_of last w) t h) refl | no h ↦ rw (lt-leb (tag_of last w) t (omega arith)) refl ])

-- A view of the code has what a view over sets has, if it has the same of each writer.
pub same-table : {X : Type 0} (n : ℕ) (f g : ℕ → X) → ((w : ℕ) → OneTo n w → f w ≡ g w) → A.table f n ≡ A.table g n
unfolding A.table
same-table zero f g h = refl
same-table (suc n) f g h = ap₂ (λ l x. l ++ (x ∷ [])) (same-table n f g (λ w (lo, hi). h w (lo, omega arith)))
    (h (suc n) (omega arith, omega arith))

pub same_view : (n t : ℕ) (v : View) (l : List M.Value) → Holds n v t l → view_meaning n v ≡ A.view_upto n t l
same_view n t v l h = same-table n (entry_of v) (λ w. A.newest w t l) h

-- The first places of a view have what the view has of the nodes 1 to n.
pub view_first : (n : ℕ) (v : View) → view_meaning n (first_of n v) ≡ view_meaning n v
view_first n v = same-table n (entry_of (first_of n v)) (entry_of v) (λ w at.
    let i : w - 1 < n = omega (arith, at.0, at.1) in
    ap₂ (λ (t : ℕ) (p : Report). entry t p) (first-tag n v (w - 1) i) (first-report n v (w - 1) i))
  where
    entry : ℕ → Report → M.Entry
    entry t p = record { tag = t; report = code p }

pub view-absent : (n : ℕ) → view_meaning n no_view ≡ replicate n M.absent
unfolding A.table
view-absent n = same-table n (entry_of no_view) (λ w. M.absent) (λ w h. entry_absent w) ∙ constant n
  where
    shift : (n : ℕ) (x : M.Entry) → replicate n x ++ (x ∷ []) ≡ x ∷ replicate n x
    shift zero x = refl
    shift (suc n) x = ap (λ l. x ∷ l) (shift n x)

    constant : (n : ℕ) → A.table (λ w. M.absent) n ≡ replicate n M.absent
    constant zero = refl
    constant (suc n) = rw (constant n) (shift n M.absent)

-- The tags heard.
pub heard-set : {n : ℕ} → n ≤ nodes → (h : List ℕ) (k w t : ℕ) → OneTo n k → OneTo n w → length h ≡ cells
    → heard_of (set h (cell k w) t) k w ≡ t
heard-set small h k w t at to z =
    let i : cell k w < length h = rw z (omega arith) in get_or-set_same h (cell k w) t 0 i

pub heard-set-other : {n : ℕ} → n ≤ nodes → (h : List ℕ) (k w t : ℕ) → OneTo n k → OneTo n w → (j x : ℕ) → OneTo n j
    → OneTo n x
    → ((j ≡ k) × (x ≡ w) → ⊥) → heard_of (set h (cell k w) t) j x ≡ heard_of h j x
heard-set-other small h k w t at to j x at' to' ne =
    get_or-set_other h (cell k w) (cell j x) t 0 (λ e. ne (omega arith, omega arith))

pub heard-none : (k w : ℕ) → heard_of (replicate cells 0) k w ≡ 0
heard-none k w = get_d-all {X = ℕ} cells (cell k w) 0
