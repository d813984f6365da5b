-- The first places of a view: what they are, that nothing is past them, and that their bytes are those of the view.
use Prim.Native.Nat.{ℕ, zero, suc, ◌+◌, ◌-◌, ◌<◌, ◌≤◌}
use mathlib.Core.Path.{◌≡◌, refl, sym, ap, ap₂, ◌∙◌}
use mathlib.Core.List.{List, ◌++◌, append-nil, append_assoc}
use native.Mathlib.Nat.{add-zero}
use native.Mathlib.Omega.{arith}
use lib.ListN.{get_or, drop, replicate, replicate-append-replicate}
use lib.Seq.{drop_at}
use Rattle.octets.specs.Loop.{tab, join}
use Rattle.octets.proofs.Table.{join-ext, padded, get_d-padded, get_d_past, length-padded}
use Rattle.view.specs.Size.{nodes, entry_size, view_size}
use Rattle.view.specs.Report.{no_report}
use Rattle.view.specs.View.{no_view, entry_bytes, view_bytes, tag_at, report_at, view_of, first_of, AbsentPast}
use Rattle.view.specs.declared.Report.{Report}
use Rattle.view.specs.declared.View.{View}
use Rattle.view.proofs.ViewBytes.{length-view_bytes, view-absent}

-- ---- the places

pub first-tag : (n : ℕ) (v : View) (i : ℕ) → i < n → get_or (first_of n v).tags i 0 ≡ get_or v.tags i 0
unfolding first_of
first-tag n v i l = get_d-padded n nodes (λ k. get_or v.tags k 0) i 0 l

pub first-report : (n : ℕ) (v : View) (i : ℕ) → i < n
    → get_or (first_of n v).reports i no_report ≡ get_or v.reports i no_report
unfolding first_of
first-report n v i l = get_d-padded n nodes (λ k. get_or v.reports k no_report) i no_report l

-- ---- nothing past n

pub first_absent : (n : ℕ) (v : View) → n ≤ nodes → AbsentPast n (first_of n v)
unfolding first_of
first_absent n v h =
    record {
      size = h;
      tags-length = length-padded n nodes (λ i. get_or v.tags i 0) 0 h;
      reports-length = length-padded n nodes (λ i. get_or v.reports i no_report) no_report h;
      no-tag = λ i l. get_d_past n nodes (λ i. get_or v.tags i 0) i 0 l;
      no-report = λ i l. get_d_past n nodes (λ i. get_or v.reports i no_report) i no_report l;
    }

pub none-absent : (n : ℕ) → n ≤ nodes → AbsentPast n no_view
unfolding tab
none-absent n h =
    record {
      size = h;
      tags-length = refl;
      reports-length = refl;
      no-tag = λ i l. get_d_past 0 nodes (λ k. 0) i 0 (omega arith);
      no-report = λ i l. get_d_past 0 nodes (λ k. no_report) i no_report (omega arith);
    }

-- ---- their bytes

-- the same as those of the view
pub first-bytes : (n : ℕ) (v : View) → view_bytes n (first_of n v) ≡ view_bytes n v
unfolding view_bytes
first-bytes n v =
    join-ext n (λ i. entry_bytes (get_or (first_of n v).tags i 0) (get_or (first_of n v).reports i no_report))
    (λ i. entry_bytes (get_or v.tags i 0) (get_or v.reports i no_report))
    (λ i l. ap₂ entry_bytes (first-tag n v i l) (first-report n v i l))

-- of the bytes of all entries the first n are read
pub first_read : (n : ℕ) (b : List ℕ) → n ≤ nodes → first_of n (view_of nodes b) ≡ view_of n b
unfolding first_of view_of
first_read n b h =
    let o = view-absent n b h in
    ap₂ (λ (t : List ℕ) (p : List Report). with t p)
    (padded n nodes (λ i. get_or (view_of nodes b).tags i 0) 0 (view_of n b).tags h o.tags-length
    (λ i l. get_d-padded nodes nodes (tag_at b) i 0 (omega arith) ∙ sym (get_d-padded n nodes (tag_at b) i 0 l))
    o.no-tag)
    (padded n nodes (λ i. get_or (view_of nodes b).reports i no_report) no_report (view_of n b).reports h
    o.reports-length
    (λ i l. get_d-padded nodes nodes (report_at b) i no_report (omega arith)
    ∙ sym (get_d-padded n nodes (report_at b) i no_report l)) o.no-report)
  where
    with : List ℕ → List Report → View
    with t p = record { tags = t; reports = p }

-- zeros, past n
zeros-past : (n k : ℕ) (v : View) → AbsentPast n v → view_bytes (n + k) v ≡ view_bytes n v ++ replicate (view_size k) 0
unfolding view_bytes join
zeros-past n zero v a = ap (λ (m : ℕ). view_bytes m v) (add-zero n) ∙ sym (append-nil (view_bytes n v))
zeros-past n (suc k) v a =
    let e : n + suc k ≡ suc (n + k) = omega arith in
    let m : view_size k + entry_size ≡ view_size (suc k) = omega arith in
    ap (λ (m : ℕ). view_bytes m v) e
    ∙ ap₂ (λ (s t : List ℕ). s ++ t) (zeros-past n k v a)
    (ap₂ entry_bytes (a.no-tag (n + k) (omega arith)) (a.no-report (n + k) (omega arith)))
    ∙ append_assoc (view_bytes n v) (replicate (view_size k) 0) (replicate entry_size 0)
    ∙ ap (λ (t : List ℕ). view_bytes n v ++ t)
    (replicate-append-replicate (view_size k) entry_size 0 ∙ ap (λ (m : ℕ). replicate m 0) m)

pub absent-bytes : (n : ℕ) (v : View) → AbsentPast n v
    → drop (view_size n) (view_bytes nodes v) ≡ replicate (view_size (nodes - n)) 0
absent-bytes n v a =
    let h = a.size in
    let e : nodes ≡ n + (nodes - n) = omega arith in
    ap (λ (m : ℕ). drop (view_size n) (view_bytes m v)) e
    ∙ ap (drop (view_size n)) (zeros-past n (nodes - n) v a)
    ∙ drop_at (view_bytes n v) (replicate (view_size (nodes - n)) 0) (view_size n) (length-view_bytes n v)
