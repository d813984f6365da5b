-- A page is read back as what it tells, and what is read is a page.
use Prim.Native.Nat.{ℕ, ◌+◌, ◌*◌, ◌<◌}
use mathlib.Core.Path.{◌≡◌, refl, sym, ap, ap₂, ◌∙◌, subst}
use mathlib.Core.Bool.{Bool, true, false}
use mathlib.Core.List.{List, ◌++◌}
use mathlib.Core.Option.{Option, none, some}
use native.Mathlib.Nat.{le_of_eq, lt_of_not-le}
use native.Mathlib.Decide.{dec_le}
use native.Mathlib.Omega.{arith}
use lib.ListN.{length, get_or, get_or-eq_default}
use lib.Dec.{eqb, ltb}
use borrow.Author.Tests.{ltb-true}
use Rattle.octets.specs.Answer.{Answer, returned, refused}
use Rattle.octets.specs.Bytes.{Bytes}
use Rattle.octets.specs.Loop.{tab}
use Rattle.octets.specs.Test.{pick}
use Rattle.octets.proofs.Loop.{all_to-at}
use Rattle.octets.proofs.Put.{part_left, part_right, part-all}
use Rattle.octets.proofs.Table.{length-tab, get_d-tab, tab-ext, part-join-below}
use Rattle.octets.proofs.Test.{both_left, both_right, both_true, same_true, same_refl}
use Rattle.view.specs.Size.{nodes, limit, view_size}
use Rattle.view.specs.View.{tag_at, report_at, view_ok}
use Rattle.view.specs.declared.Report.{Report}
use Rattle.figures.specs.Figures.{figures_of}
use Rattle.figures.specs.declared.Totals.{Totals}
use Rattle.figures.proofs.Accepted.{Accepted, accepted, accepted-size, accepted-fit}
use Rattle.page.specs.Page.{line_size, node_line, figures_line, shown_at, node_lines, Contents, map_result, contents}
use Rattle.page.specs.Page.{contents_of, page_text, page_of}
use Rattle.page.specs.Read.{line_at, shown_in, figures_in, nodes_on, contents_in, view_for, all_bytes, answers}
use Rattle.page.specs.Read.{is_page_of, read}
use Rattle.page.proofs.LineBack.{none-back, some_back, figures-back}
use Rattle.page.proofs.Lines.{counts-at, node-length, nodes-length, figures-length}
use Rattle.page.proofs.Pages.{page-is, page-length}
use Rattle.page.proofs.Showing.{Counted, same-page, length-for, shown-for, ok-for, all-bytes-for}

-- ---- where there is a page there are figures

pub record Printing (n : ℕ) (v p : List ℕ) : Type 0 where
  pub totals : Totals
  pub given : Accepted n v totals
  pub bytes : p ≡ node_lines n v ++ figures_line totals

pub printing : (n : ℕ) (v p : List ℕ) → page_of n v ≡ returned p → Printing n v p
unfolding page_of contents_of
printing n v p e = by (figures_of n v) refl e
  where
    by : (a : Answer Totals) → figures_of n v ≡ a → map_result page_text (map_result (contents n v) a) ≡ returned p
        → Printing n v p
    by (returned t) is e =
        let h : Accepted n v t = accepted n v t is in
        let q : returned (node_lines n v ++ figures_line t) ≡ returned p = sym (page-is n v t h) ∙ ap
        (λ (a : Answer Totals). map_result page_text (map_result (contents n v) a)) is ∙ e in
        record { totals = t; given = h; bytes = cc q }
    by (refused k) is e = let z : ◌≡◌ {A = ℕ} 0 1 = cc in absurd (omega arith)

-- ---- its lines

module _ (n : ℕ) (v : List ℕ) (t : Totals) (h : Accepted n v t) (b : Bytes v) where
  abbrev text : List ℕ
  text = node_lines n v ++ figures_line t

  long : length (node_lines n v) ≡ line_size * n
  long = nodes-length n v b (accepted-size n v t h)

  pub node-line : (i : ℕ) → i < n → line_at text i ≡ node_line (i + 1) (shown_at v i)
  node-line i l =
      let m = accepted-size n v t h in
      part_left (node_lines n v) (figures_line t) (line_size * i) line_size (omega (arith, long))
      ∙ part-join-below n line_size (λ j. node_line (j + 1) (shown_at v j)) i (λ j k. node-length v j b (omega arith)) l

  pub last_line : line_at text n ≡ figures_line t
  last_line =
      part_right (node_lines n v) (figures_line t) (line_size * n) 0 line_size (omega (arith, long))
      ∙ part-all (figures_line t) line_size (le_of_eq (figures-length t (accepted-fit n v t h b)))

  -- ---- and what they tell

  shown_by : (i : ℕ) → i < nodes → (x : Bool) → shown_in (node_line (i + 1) (pick x none (some (report_at v i))))
      ≡ pick x none (some (report_at v i))
  shown_by i l true = none-back (i + 1) (omega arith)
  shown_by i l false = some_back (i + 1) (report_at v i) (omega arith) (counts-at v i b)

  shown-back : (i : ℕ) → i < n → shown_in (line_at text i) ≡ shown_at v i
  shown-back i l =
      let m = accepted-size n v t h in
      ap shown_in (node-line i l) ∙ shown_by i (omega arith) (eqb (tag_at v i) 0)

  count-back : nodes_on text ≡ n
  count-back = let l = page-length n v t h b in omega (arith, l)

  contents-back : contents_in text ≡ contents n v t
  unfolding contents_in
  contents-back =
      ap₂ (λ (s : List (Option Report)) (u : Totals). with s u)
      (ap (λ (k : ℕ). tab k (λ i. shown_in (line_at text i))) count-back
      ∙ tab-ext n (λ i. shown_in (line_at text i)) (shown_at v) shown-back)
      (ap (λ (k : ℕ). figures_in (line_at text k)) count-back ∙ ap figures_in last_line
      ∙ figures-back t (accepted-fit n v t h b))
    where
      with : List (Option Report) → Totals → Contents
      with s u = record { shown = s; figures = u }

  -- ---- it is a page

  abbrev reports : List (Option Report)
  reports = tab n (shown_at v)

  length-reports : length reports ≡ n
  length-reports = length-tab n (shown_at v)

  counts-by : (i : ℕ) → i < nodes → (x : Bool) → Counted (pick x none (some (report_at v i)))
  counts-by i m true = record {
    extensions = omega arith;
    lines = omega arith;
    waiting = omega arith;
    wakeups = omega arith;
  }
  counts-by i m false = counts-at v i b

  counted : (i : ℕ) → i < length reports → Counted (get_or reports i none)
  counted i m =
      let k = accepted-size n v t h in
      let q : i < n = omega (arith, length-reports, m) in
      rw (get_d-tab n (shown_at v) i none q) (counts-by i (omega arith) (eqb (tag_at v i) 0))

  its-page : page_of (length reports) (view_for reports) ≡ returned text
  its-page =
      let w : List ℕ = view_for reports in
      ap (λ (k : ℕ). page_of k w) length-reports
      ∙ same-page n v w t h (length-for reports ∙ ap view_size length-reports)
      (ap (λ (k : ℕ). view_ok k limit w) (sym length-reports) ∙ ok-for reports)
      (λ i m. sym (get_d-tab n (shown_at v) i none m) ∙ sym (shown-for reports i (omega (arith, length-reports, m))))
      ∙ page-is n v t h

  is-page : is_page_of text reports ≡ true
  unfolding is_page_of
  is-page =
      both_true (all-bytes-for reports counted)
      (ap (λ (a : Answer (List ℕ)). answers a text) its-page ∙ same_refl text)

  pub read_is : read text ≡ returned (contents n v t)
  unfolding read
  read_is = rw (contents-back, is-page) refl

-- ---- and what is read is a page

answered : (a : Answer (List ℕ)) (b : List ℕ) → answers a b ≡ true → a ≡ returned b
answered (returned p) b e = ap returned (same_true p b e)
answered (refused k) b e = let z : ◌≡◌ {A = Bool} true false = sym e in cc

pub all-bytes : (v : List ℕ) → all_bytes v ≡ true → Bytes v
all-bytes v e i = elim (dec_le (length v) i) [
  | yes m ↦ rw (get_or-eq_default v 0 m) (omega arith)
  | no m ↦ ltb-true (get_or v i 0) 256
      (all_to-at (length v) (λ j. ltb (get_or v j 0) 256) i e (lt_of_not-le m))
]

pub record IsRead (b : List ℕ) (l : List (Option Report)) : Type 0 where
  pub bytes : Bytes (view_for l)
  pub page : page_of (length l) (view_for l) ≡ returned b

is_read : (b : List ℕ) (l : List (Option Report)) → is_page_of b l ≡ true → IsRead b l
unfolding is_page_of
is_read b l e =
    let v = view_for l in
    let r = answers (page_of (length l) v) b in
    record {
      bytes = all-bytes v (both_left (all_bytes v) r e);
      page = answered (page_of (length l) v) b (both_right (all_bytes v) r e);
    }

pub reading : (b : List ℕ) (c : Contents) → read b ≡ returned c → IsRead b c.shown
unfolding read
reading b c e = by (is_page_of b (contents_in b).shown) refl e
  where
    by : (x : Bool) → is_page_of b (contents_in b).shown ≡ x → pick x (returned (contents_in b)) (refused 7) ≡ returned
        c
        → IsRead b c.shown
    by true is e =
        let q : contents_in b ≡ c = cc in
        subst (λ (d : Contents). IsRead b d.shown) q (is_read b (contents_in b).shown is)
    by false is e = let z : ◌≡◌ {A = ℕ} 0 1 = cc in absurd (omega arith)
