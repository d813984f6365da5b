-- The layout by value and in bytes: what a step sends may be written, what is read may be handed to a step, and a
-- value names a writer. Assumes nothing.
use Prim.Native.Nat.{ℕ, ◌+◌, ◌-◌, ◌*◌, ◌<◌, ◌≤◌}
use native.Mathlib.Nat.{mul-pos}
use native.Mathlib.Omega.{arith}
use native.Mathlib.Decide.{dec_le, dec_lt}
use mathlib.Core.Path.{◌≡◌, refl, sym, ap, ap₂, ◌∙◌, subst}
use mathlib.Core.Bool.{true}
use mathlib.Core.List.{List, [], ◌∷◌, append-nil}
use lib.Dec.{leb, eqb, leb-zero}
use lib.ListN.{length, get_or, replicate}
use lib.Pow.{pow_pos}
use borrow.Author.Tests.{leb-true, le-leb, eqb-true, eq-eqb}
use Rattle.octets.specs.Bytes.{num, part}
use Rattle.octets.specs.Test.{pick, both}
use Rattle.octets.proofs.Loop.{all_to-at}
use Rattle.octets.proofs.Put.{length_part}
use Rattle.octets.proofs.Table.{get_d-padded, get_d_past}
use Rattle.octets.proofs.Test.{both_left, both_right, both_true}
use Rattle.view.specs.Size.{nodes, view_size, entry_size, tag_size, report_size}
use Rattle.view.specs.Report.{no_report, is_none, report_of}
use Rattle.view.specs.View.{tag_at, report_at, report_word, entry_ok_at, view_bytes, view_of, view_ok}
use Rattle.view.specs.declared.Report.{Report}
use Rattle.view.specs.declared.View.{View}
use Rattle.view.proofs.ViewBytes.{length-view_bytes, ok-written}
use Rattle.wire.specs.Layout.{is_tag, allowed}
use Rattle.wire.specs.declared.Message.{Message}
use Rattle.wire.specs.declared.Message.TheVariants.{Read, ReadAnswer, Write, WriteAnswer, Echo, Value, Good}
use Rattle.wire.proofs.Numbers.{view-length}
use Rattle.table.specs.Loop.{either}
use Rattle.table.specs.Table.{view_within, entry_ok}
use Rattle.table.proofs.Entries.{view_within-at, view_within-all, view_within-tag}
use Rattle.step.specs.Allowed.{lawful}
use Rattle.step.specs.Stale.{writer_within}

-- ---- from the view to its bytes

-- no report, tested and as a value
none_is : (p : Report) → is_none p ≡ true → p ≡ no_report
none_is p h =
    let a = both_left (eqb p.extensions 0) _ h in
    let r = both_right (eqb p.extensions 0) _ h in
    let b = both_left (eqb p.lines 0) _ r in
    let q = both_right (eqb p.lines 0) _ r in
    let c = both_left (eqb p.waiting 0) _ q in
    let d = both_right (eqb p.waiting 0) _ q in
    rw (eqb-true p.extensions 0 a, eqb-true p.lines 0 b, eqb-true p.waiting 0 c, eqb-true p.wakeups 0 d)
    refl

-- entry i of a view within t
module _ (t : ℕ) (v : View) (h : view_within t v ≡ true) (i : ℕ) (l : i < nodes) where
  back : i + 1 - 1 ≡ i
  back = omega arith

  entry-tag : get_or v.tags i 0 ≤ t
  entry-tag = rw back at (view_within-tag t v (i + 1) h (omega arith) (omega arith))

  entry-none : get_or v.tags i 0 ≡ 0 → get_or v.reports i no_report ≡ no_report
  entry-none z =
      let x = get_or v.tags i 0 in
      let p = get_or v.reports i no_report in
      let e : entry_ok t x p ≡ true = rw back at (view_within-at t v (i + 1) h (omega arith) (omega arith)) in
      none_is p (rw z at (both_right (leb x t) (either (leb 1 x) (is_none p)) e))

pub lawful-allowed : (n : ℕ) (m : Message) (v : View) → n ≤ nodes → lawful n m v ≡ true → allowed n m (view_bytes n v)
    ≡ true
unfolding allowed
lawful-allowed n (Read q) v l h = h
lawful-allowed n (ReadAnswer q t) v l h = h
lawful-allowed n (Write q t) v l h = h
lawful-allowed n (WriteAnswer q t) v l h = h
lawful-allowed n (Echo t) v l h = h
lawful-allowed n (Value t w p) v l h = h
lawful-allowed n (Good t) v l h =
    let o : view_within t v ≡ true = both_right (is_tag t) (view_within t v) h in
    both_true (eq-eqb (length (view_bytes n v)) (view_size n) (length-view_bytes n v))
    (both_true (both_left (is_tag t) (view_within t v) h)
    (ap (view_ok n t) (sym (append-nil (view_bytes n v)))
    ∙ ok-written n t v [] (λ i k. entry-tag t v o i (omega arith)) (λ i k. entry-none t v o i (omega arith))))

-- ---- from bytes to the view

-- bytes of which the number is 0 are zeros
num-none : (s : List ℕ) → num s ≡ 0 → s ≡ replicate (length s) 0
num-none [] e = refl
num-none (x ∷ s) e = elim (dec_lt 0 x) [
  | yes h ↦ absurd (omega (arith, mul-pos h (pow_pos (8 * length s))))
  | no h ↦ let z : x ≡ 0 = omega arith in ap₂ (λ y t. y ∷ t) z (num-none s (omega arith))
]

none_read : (s : List ℕ) → length s ≡ 8 → num s ≡ 0 → report_of s ≡ no_report
unfolding report_of part
none_read s l e = ap report_of (num-none s e ∙ ap (λ k. replicate k 0) l)

-- entry by entry, where it stands and past n
module _ (n t : ℕ) (b : List ℕ) (l : length b ≡ view_size n) (h : view_ok n t b ≡ true) where
  entry_read : (i : ℕ) → i < n → entry_ok t (tag_at b i) (report_at b i) ≡ true
  unfolding view_ok
  entry_read i k =
      let ok : entry_ok_at t b i ≡ true = all_to-at n (entry_ok_at t b) i h k in
      let low : leb (tag_at b i) t ≡ true = both_left (leb (tag_at b i) t) _ ok in
      both_true low (elim (dec_lt 0 (tag_at b i)) [
        | yes p ↦ rw (le-leb 1 (tag_at b i) p) refl
        | no p ↦
            let z : tag_at b i ≡ 0 = omega arith in
            let e : eqb (report_word b i) 0 ≡ true =
            subst (λ y. pick y (eqb (report_word b i) 0) true ≡ true) (eq-eqb (tag_at b i) 0 z)
            (both_right (leb (tag_at b i) t) _ ok) in
            rw (
              z,
              none_read (part b (entry_size * i + tag_size) report_size)
                  (length_part b (entry_size * i + tag_size) report_size (omega arith))
                  (eqb-true (report_word b i) 0 e),
            ) refl
      ])

  view_within-read : view_within t (view_of n b) ≡ true
  unfolding view_of
  view_within-read = view_within-all t (view_of n b) (λ w lo hi. elim (dec_le w n) [
    | yes k ↦ let i : w - 1 < n = omega arith in
        rw (get_d-padded n nodes (tag_at b) (w - 1) 0 i, get_d-padded n nodes (report_at b) (w - 1) no_report i)
        (entry_read (w - 1) i)
    | no k ↦ let i : n ≤ w - 1 = omega arith in
        rw (get_d_past n nodes (tag_at b) (w - 1) 0 i, get_d_past n nodes (report_at b) (w - 1) no_report i)
        (rw (leb-zero t) refl)
  ])

pub allowed-lawful : (n : ℕ) (m : Message) (b : List ℕ) → allowed n m b ≡ true → lawful n m (view_of n b) ≡ true
unfolding allowed
allowed-lawful n (Read r) b h = h
allowed-lawful n (ReadAnswer r t) b h = h
allowed-lawful n (Write r t) b h = h
allowed-lawful n (WriteAnswer r t) b h = h
allowed-lawful n (Echo t) b h = h
allowed-lawful n (Value t w p) b h = h
allowed-lawful n (Good t) b h =
    let rest = both_right (eqb (length b) (view_size n)) (both (is_tag t) (view_ok n t b)) h in
    both_true (both_left (is_tag t) (view_ok n t b) rest)
    (view_within-read n t b (view-length n t b h) (both_right (is_tag t) (view_ok n t b) rest))

-- ---- the writer of a lawful message

pub lawful-writer : (n : ℕ) (m : Message) (v : View) → n ≤ nodes → lawful n m v ≡ true → writer_within nodes m ≡ true
lawful-writer n (Read q) v l h = refl
lawful-writer n (ReadAnswer q t) v l h = refl
lawful-writer n (Write q t) v l h = refl
lawful-writer n (WriteAnswer q t) v l h = refl
lawful-writer n (Echo t) v l h = refl
lawful-writer n (Value t w p) v l h =
    let k : both (leb 1 w) (leb w n) ≡ true = both_right (both (leb 1 t) (is_tag t)) (both (leb 1 w) (leb w n)) h in
    let m : w ≤ n = leb-true w n (both_right (leb 1 w) (leb w n) k) in
    both_true (both_left (leb 1 w) (leb w n) k) (le-leb w nodes (omega arith))
lawful-writer n (Good t) v l h = refl

pub writer-from : (w : ℕ) → both (leb 1 w) (leb w nodes) ≡ true → (1 ≤ w) × (w ≤ nodes)
writer-from w h =
    (leb-true 1 w (both_left (leb 1 w) (leb w nodes) h), leb-true w nodes (both_right (leb 1 w) (leb w nodes) h))
