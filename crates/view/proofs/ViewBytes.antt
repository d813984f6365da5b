-- A view and its bytes give back each other, and what the test of view bytes tells.
use Prim.Native.Nat.{ℕ, zero, suc, ◌+◌, ◌*◌, ◌<◌, ◌≤◌}
use mathlib.Core.Path.{◌≡◌, refl, sym, ap, ap₂, ◌∙◌}
use mathlib.Core.Bool.{Bool, true, false}
use mathlib.Core.List.{List, ◌++◌}
use native.Mathlib.Nat.{add-zero}
use native.Mathlib.Omega.{arith}
use Rattle.octets.specs.Loop.{join}
use lib.ListN.{length, get_or, take}
use lib.Seq.{take_all, take-append-le}
use lib.Dec.{leb, eqb}
use borrow.Author.Tests.{leb-true, le-leb, eqb-true, eq-eqb}
use Rattle.octets.specs.Test.{pick}
use Rattle.octets.specs.Bytes.{Bytes, num, part}
use Rattle.octets.specs.Word.{word}
use Rattle.octets.proofs.Test.{both_left, both_right, both_true}
use Rattle.octets.proofs.Number.{num-be-suc}
use Rattle.octets.proofs.Put.{part_left, part-part, part-add, part_bytes, length_part}
use Rattle.octets.proofs.Loop.{all_to-at, all_to-all}
use Rattle.octets.proofs.Table.{length-join, part_join, join-parts, join-ext, padded, get_d-padded, get_d_past}
use Rattle.octets.proofs.Table.{length-padded}
use Rattle.view.specs.Size.{nodes, tag_size, report_size, entry_size, view_size}
use Rattle.view.specs.Report.{no_report, report_bytes, report_of}
use Rattle.view.specs.View.{entry_bytes, view_bytes, tag_at, report_at, report_word, view_of, AbsentPast, entry_ok}
use Rattle.view.specs.View.{entry_ok_at, view_ok}
use Rattle.view.specs.declared.Report.{Report}
use Rattle.view.specs.declared.View.{View}
use Rattle.view.proofs.ReportBytes.{report-back, report-bytes-back, be-part, zero-report}

pub length-view_bytes : (n : ℕ) (v : View) → length (view_bytes n v) ≡ view_size n
unfolding view_bytes
length-view_bytes n v = length-join n entry_size (λ i. entry_bytes (get_or v.tags i 0) (get_or v.reports i no_report))
    (λ i. refl)

-- the bytes of more places begin with those of fewer
one_more : (n m : ℕ) (v : View) → n ≤ m → take (view_size n) (view_bytes (suc m) v) ≡ take (view_size n)
    (view_bytes m v)
unfolding view_bytes join
one_more n m v h =
    take-append-le (view_size n) (view_bytes m v) (entry_bytes (get_or v.tags m 0) (get_or v.reports m no_report))
    (rw (length-view_bytes m v) (omega arith))

pub front-view_bytes : (n k : ℕ) (v : View) → take (view_size n) (view_bytes (n + k) v) ≡ view_bytes n v
front-view_bytes n zero v =
    ap (λ (m : ℕ). take (view_size n) (view_bytes m v)) (add-zero n)
    ∙ take_all (view_size n) (view_bytes n v) (rw (length-view_bytes n v) (omega arith))
front-view_bytes n (suc k) v =
    let e : n + suc k ≡ suc (n + k) = omega arith in
    ap (λ (m : ℕ). take (view_size n) (view_bytes m v)) e ∙ one_more n (n + k) v (omega arith) ∙ front-view_bytes n k v

-- ---- entries of a view's bytes, with anything after them

module _ (n : ℕ) (v : View) (rest : List ℕ) (i : ℕ) (l : i < n) where
  entry-part : (j k : ℕ) → j + k ≤ entry_size
      → part (view_bytes n v ++ rest) (entry_size * i + j) k
      ≡ part (entry_bytes (get_or v.tags i 0) (get_or v.reports i no_report)) j k
  unfolding view_bytes
  entry-part j k h =
      let m : entry_size * i + j + k ≤ length (view_bytes n v) = rw (length-view_bytes n v) (omega arith) in
      let f : ℕ → List ℕ = λ j. entry_bytes (get_or v.tags j 0) (get_or v.reports j no_report) in
      part_left (view_bytes n v) rest (entry_size * i + j) k m ∙ sym (part-part (view_bytes n v) (entry_size * i)
      entry_size
      j k h)
      ∙ ap (λ (e : List ℕ). part e j k) (part_join n entry_size f i (λ j. refl) l)

  pub tag-written : tag_at (view_bytes n v ++ rest) i ≡ get_or v.tags i 0
  unfolding part
  tag-written =
      ap (λ (k : ℕ). word (view_bytes n v ++ rest) k) (sym (add-zero (entry_size * i)))
      ∙ ap num (entry-part 0 tag_size (omega arith)) ∙ num-be-suc 7 (get_or v.tags i 0)

  pub report-written : report_at (view_bytes n v ++ rest) i ≡ get_or v.reports i no_report
  unfolding part
  report-written = ap report_of (entry-part tag_size report_size (omega arith))
      ∙ report-back (get_or v.reports i no_report)

  pub word-written : report_word (view_bytes n v ++ rest) i ≡ num (report_bytes (get_or v.reports i no_report))
  unfolding part
  word-written = ap num (entry-part tag_size report_size (omega arith))

-- ---- both ways

pub view-back : (n : ℕ) (v : View) (rest : List ℕ) → AbsentPast n v → view_of n (view_bytes n v ++ rest) ≡ v
unfolding view_of
view-back n v rest h =
    ap₂ (λ (t : List ℕ) (p : List Report). with t p)
    (padded n nodes (tag_at (view_bytes n v ++ rest)) 0 v.tags h.size h.tags-length
    (λ i l. tag-written n v rest i l)
    h.no-tag)
    (padded n nodes (report_at (view_bytes n v ++ rest)) no_report v.reports h.size h.reports-length
    (λ i l. report-written n v rest i l) h.no-report)
  where
    with : List ℕ → List Report → View
    with t p = record { tags = t; reports = p }

pub view-absent : (n : ℕ) (b : List ℕ) → n ≤ nodes → AbsentPast n (view_of n b)
unfolding view_of
view-absent n b h =
    record {
      size = h;
      tags-length = length-padded n nodes (tag_at b) 0 h;
      reports-length = length-padded n nodes (report_at b) no_report h;
      no-tag = λ i l. get_d_past n nodes (tag_at b) i 0 l;
      no-report = λ i l. get_d_past n nodes (report_at b) i no_report l;
    }

entry-back : (b : List ℕ) (i : ℕ) → Bytes b → entry_size * i + entry_size ≤ length b → entry_bytes (tag_at b i)
    (report_at b i) ≡ part b
    (entry_size * i) entry_size
entry-back b i h l =
    ap₂ (λ (s t : List ℕ). s ++ t) (be-part b (entry_size * i) tag_size h (omega arith))
    (report-bytes-back (part b (entry_size * i + tag_size) report_size) (part_bytes b (entry_size * i + tag_size)
    report_size
    h)
    (length_part b (entry_size * i + tag_size) report_size (omega arith)))
    ∙ sym (part-add b (entry_size * i) tag_size report_size)

pub view-bytes-back : (n : ℕ) (b : List ℕ) → Bytes b → view_size n ≤ length b → view_bytes n (view_of n b)
    ≡ take (view_size n) b
unfolding view_bytes view_of
view-bytes-back n b h l =
    join-ext n (λ i. entry_bytes (get_or (view_of n b).tags i 0) (get_or (view_of n b).reports i no_report))
    (λ i. part b (entry_size * i) entry_size)
    (λ i m. ap₂ (λ (t : ℕ) (p : Report). entry_bytes t p) (get_d-padded n nodes (tag_at b) i 0 m)
    (get_d-padded n nodes (report_at b) i no_report m) ∙ entry-back b i h (omega arith))
    ∙ join-parts n entry_size b

-- ---- the test of view bytes

beside-zero : (tag report : ℕ) → pick (eqb tag 0) (eqb report 0) true ≡ true → tag ≡ 0 → report ≡ 0
beside-zero tag report h e = eqb-true report 0 (rw (eq-eqb tag 0 e) at h)

ok-entry : (top tag : ℕ) (p : Report) → tag ≤ top → (tag ≡ 0 → p ≡ no_report) → entry_ok top tag (num (report_bytes p))
    ≡ true
ok-entry top tag p l h = both_true (le-leb tag top l) (go (eqb tag 0) refl)
  where
    go : (t : Bool) → eqb tag 0 ≡ t → pick t (eqb (num (report_bytes p)) 0) true ≡ true
    go true e = ap (λ (q : Report). eqb (num (report_bytes q)) 0) (h (eqb-true tag 0 e))
    go false e = refl

module _ (n top : ℕ) (b : List ℕ) (ok : view_ok n top b ≡ true) (i : ℕ) (l : i < n) where
  beside : Bool
  beside = pick (eqb (tag_at b i) 0) (eqb (report_word b i) 0) true

  entry-ok : entry_ok_at top b i ≡ true
  unfolding view_ok
  entry-ok = all_to-at n (entry_ok_at top b) i ok l

  pub ok-tag : tag_at b i ≤ top
  unfolding beside
  ok-tag = leb-true (tag_at b i) top (both_left (leb (tag_at b i) top) beside entry-ok)

  pub ok-report : Bytes b → view_size n ≤ length b → tag_at b i ≡ 0 → report_at b i ≡ no_report
  unfolding beside
  ok-report h m e =
      zero-report (part b (entry_size * i + tag_size) report_size) (part_bytes b (entry_size * i + tag_size)
      report_size h)
      (length_part b (entry_size * i + tag_size) report_size (omega arith))
      (beside-zero (tag_at b i) (report_word b i) (both_right (leb (tag_at b i) top) beside entry-ok) e)

pub ok-written : (n top : ℕ) (v : View) (rest : List ℕ) → ((i : ℕ) → i < n → get_or v.tags i 0 ≤ top)
    → ((i : ℕ) → i < n → get_or v.tags i 0 ≡ 0 → get_or v.reports i no_report ≡ no_report)
    → view_ok n top (view_bytes n v ++ rest) ≡ true
unfolding view_ok
ok-written n top v rest tags reports =
    all_to-all n (entry_ok_at top (view_bytes n v ++ rest))
    (λ i l. ap₂ (λ (t r : ℕ). entry_ok top t r) (tag-written n v rest i l) (word-written n v rest i l)
    ∙ ok-entry top (get_or v.tags i 0) (get_or v.reports i no_report) (tags i l) (reports i l))
