-- Laws of views: their entries after a change, and that they stay within a tag. Assumes nothing.
use mathlib.Core.Path.{◌≡◌, refl}
use mathlib.Core.Bool.{Bool, true, false}
use mathlib.Core.List.{List}
use Prim.Native.Nat.{ℕ, ◌-◌, ◌≤◌, ◌<◌}
use native.Mathlib.Nat.{le_trans, lt_of_not-le}
use native.Mathlib.Decide.{ℕ_discrete, dec_le, dec_lt}
use native.Mathlib.Omega.{arith}
use lib.Dec.{leb, leb-zero}
use lib.ListN.{length, get_or, set}
use lib.Seq.{get_or-set_same, get_or-set_other, set_out}
use borrow.Author.Tests.{leb-true, le-leb}
use Rattle.view.specs.declared.Report.{Report}
use Rattle.view.specs.declared.View.{View}
use Rattle.octets.proofs.Test.{both_left, both_right, both_true}
use Rattle.octets.specs.Test.{pick}
use Rattle.view.specs.Report.{no_report, is_none}
use Rattle.view.specs.Size.{limit, nodes}
use Rattle.view.specs.View.{no_view, first_of}
use Rattle.view.proofs.First.{first-tag, first-report, first_absent}
use Rattle.table.specs.Loop.{either, all}
use Rattle.table.specs.Table.{at, tag_of, report_of, put_entry, newest_tag, newest_report, newest, entry_ok}
use Rattle.table.specs.Table.{entry_within, view_within, heard_within}
use Rattle.table.specs.Table.{cells}
use Rattle.table.proofs.Laws.{all-at, all-all, get_d_numbered}

-- ---- the entries of a view by the newest reports

pub newest-tag : (t : ℕ) (last held : View) (w : ℕ) → 1 ≤ w → w ≤ nodes
    → tag_of (newest t last held) w ≡ newest_tag t last held w
unfolding newest
newest-tag t last held w l k = get_d_numbered nodes (newest_tag t last held) w 0 l k

pub newest-report : (t : ℕ) (last held : View) (w : ℕ) → 1 ≤ w → w ≤ nodes
    → report_of (newest t last held) w ≡ newest_report t last held w
unfolding newest
newest-report t last held w l k = get_d_numbered nodes (newest_report t last held) w no_report l k

-- ---- views within a tag

pub view_within-at : (t : ℕ) (v : View) (w : ℕ) → view_within t v ≡ true → 1 ≤ w → w ≤ nodes → entry_within t v w ≡ true
unfolding view_within
view_within-at t v w h l k = all-at nodes (entry_within t v) w h l k

pub view_within-all : (t : ℕ) (v : View) → ((w : ℕ) → 1 ≤ w → w ≤ nodes → entry_within t v w ≡ true)
    → view_within t v ≡ true
unfolding view_within
view_within-all t v h = all-all nodes (entry_within t v) h

pub view_within-absent : (t : ℕ) → view_within t no_view ≡ true
unfolding view_within all
view_within-absent t = simp (leb-zero t)

-- so are its first places
pub view_within-first : (n t : ℕ) (v : View) → view_within t v ≡ true → view_within t (first_of n v) ≡ true
view_within-first n t v e = view_within-all t (first_of n v) (λ w l k. elim (dec_le w n) [
  | yes h ↦ let i : w - 1 < n = omega arith in
      rw (first-tag n v (w - 1) i, first-report n v (w - 1) i) (view_within-at t v w e l k)
  | no h ↦ let i : n ≤ w - 1 = omega arith in
      let a = first_absent n v (omega arith) in
      rw (a.no-tag (w - 1) i, a.no-report (w - 1) i) (rw (leb-zero t) refl)
])

-- an entry that keeps a tag keeps a larger one
entry-up : (t u x : ℕ) (p : Report) → t ≤ u → entry_ok t x p ≡ true → entry_ok u x p ≡ true
entry-up t u x p h e =
    both_true (le-leb x u (le_trans (leb-true x t (both_left (leb x t) (either (leb 1 x) (is_none p)) e)) h))
    (both_right (leb x t) (either (leb 1 x) (is_none p)) e)

-- the tag of an entry of such a view
pub view_within-tag : (t : ℕ) (v : View) (w : ℕ) → view_within t v ≡ true → 1 ≤ w → w ≤ nodes → tag_of v w ≤ t
view_within-tag t v w e l k =
    leb-true (tag_of v w) t (both_left (leb (tag_of v w) t) (either (leb 1 (tag_of v w)) (is_none (report_of v w)))
    (view_within-at t v w e l k))

-- of two entries that are fit for t, the chosen one
entry-pick : (b : Bool) (t x y : ℕ) (p q : Report) → (b ≡ true → entry_ok t x p ≡ true)
    → (b ≡ false → entry_ok t y q ≡ true)
    → entry_ok t (pick b x y) (pick b p q) ≡ true
entry-pick true t x y p q f g = f refl
entry-pick false t x y p q f g = g refl

pub view_within-newest : (u m t : ℕ) (last held : View) → view_within u last ≡ true → view_within m held ≡ true → m ≤ t
    → view_within t (newest t last held) ≡ true
view_within-newest u m t last held a b h = view_within-all t (newest t last held) (λ w l k.
    rw (newest-tag t last held w l k, newest-report t last held w l k)
    (entry-pick (leb (tag_of last w) t) t (tag_of last w) (tag_of held w) (report_of last w) (report_of held w)
    (λ e. both_true e (both_right (leb (tag_of last w) u) (either (leb 1 (tag_of last w)) (is_none (report_of last w)))
    (view_within-at u last w a l k)))
    (λ e. entry-up m t (tag_of held w) (report_of held w) h (view_within-at m held w b l k))))

-- ---- one entry stored

-- as long as a view of the type is
abbrev pub Sized : View → Type 0
Sized v = (length v.tags ≡ nodes) × (length v.reports ≡ nodes)

module _ (v : View) (w : ℕ) (t : ℕ) (p : Report) (l : 1 ≤ w) (k : w ≤ nodes) where
  pub put_entry-tag : Sized v → tag_of (put_entry v w t p) w ≡ t
  put_entry-tag z = get_or-set_same v.tags (w - 1) t 0 (rw z.0 (omega arith))

  pub put_entry-report : Sized v → report_of (put_entry v w t p) w ≡ p
  put_entry-report z = get_or-set_same v.reports (w - 1) p no_report (rw z.1 (omega arith))

  pub put_entry-tag-other : (x : ℕ) → 1 ≤ x → (x ≡ w → ⊥) → tag_of (put_entry v w t p) x ≡ tag_of v x
  put_entry-tag-other x m d = get_or-set_other v.tags (w - 1) (x - 1) t 0 (λ e. d (omega arith))

  pub put_entry-report-other : (x : ℕ) → 1 ≤ x → (x ≡ w → ⊥) → report_of (put_entry v w t p) x ≡ report_of v x
  put_entry-report-other x m d = get_or-set_other v.reports (w - 1) (x - 1) p no_report (λ e. d (omega arith))

  pub view_within-put_entry : (u : ℕ) → Sized v → 1 ≤ t → t ≤ u → view_within u v ≡ true
      → view_within u (put_entry v w t p) ≡ true
  view_within-put_entry u z a b e = view_within-all u (put_entry v w t p) (λ x m j. elim (ℕ_discrete x w) [
    | yes q ↦ rw (q, put_entry-tag z, put_entry-report z) (both_true (le-leb t u b) (rw (le-leb 1 t a)))
    | no d ↦ rw (put_entry-tag-other x m d, put_entry-report-other x m d) (view_within-at u v x e m j)
  ])

-- ---- the tags heard

-- a store is read back, or it was outside of the list, which then stays
set_cases : {X : Type 0} (l : List ℕ) (i t : ℕ) → (get_or (set l i t) i 0 ≡ t → X) → (set l i t ≡ l → X) → X
set_cases l i t f g = elim (dec_lt i (length l)) [
  | yes h ↦ f (get_or-set_same l i t 0 h)
  | no h ↦ g (set_out l i t (not-lt-of h))
]
  where
    not-lt-of : {a b : ℕ} → (a < b → ⊥) → b ≤ a
    not-lt-of {a} {b} h = elim (dec_le b a) [ yes k ↦ k | no k ↦ absurd (h (lt_of_not-le k)) ]

pub heard-within-set : (h : List ℕ) (i t : ℕ) → t ≤ limit → heard_within h ≡ true → heard_within (set h i t) ≡ true
unfolding heard_within
heard-within-set h i t b e = set_cases h i t
    (λ q. all-all cells (λ k. leb (at (set h i t) k) limit) (λ k l m. elim (ℕ_discrete (k - 1) i) [
      | yes d ↦ rw (d, q) (le-leb t limit b)
      | no d ↦ rw (get_or-set_other h i (k - 1) t 0 d) (all-at cells (λ j. leb (at h j) limit) k e l m)
    ]))
    (λ q. rw q e)
