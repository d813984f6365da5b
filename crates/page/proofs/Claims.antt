-- The claims of specs/Claims hold.
use Prim.Native.Nat.{ℕ, zero, suc, ◌+◌, ◌*◌, ◌<◌, ◌≤◌}
use mathlib.Core.Path.{◌≡◌, refl, sym, ap, ◌∙◌}
use mathlib.Core.Bool.{Bool, true, false}
use mathlib.Core.List.{List, ◌++◌}
use mathlib.Core.Option.{Option, none}
use native.Mathlib.Omega.{arith}
use lib.ListN.{length, drop, get_or}
use lib.Dec.{leb}
use Rattle.octets.specs.Answer.{Answer, returned, refused}
use Rattle.octets.specs.Bytes.{Bytes, part, put}
use Rattle.octets.specs.Test.{pick}
use Rattle.octets.specs.Loop.{up_to, all_to, tab, join}
use Rattle.octets.proofs.Table.{length-tab, get_d-tab}
use Rattle.view.specs.Size.{nodes, limit}
use Rattle.view.specs.Report.{report_of}
use Rattle.view.specs.View.{view_ok}
use Rattle.view.specs.declared.Report.{Report}
use Rattle.digits.specs.Decimal.{fewest, decimal}
use Rattle.figures.specs.Figures.{figure_most, figures_of, totals}
use Rattle.figures.specs.declared.Totals.{Totals}
use Rattle.figures.proofs.Accepted.{Accepted, accepted, accepted-back, accepted-fit}
use Rattle.figures.proofs.Bounds.{Fit}
use Rattle.page.specs.Page.{count_width, line_size, shown_at, node_lines, figures_line, Contents, contents, contents_of}
use Rattle.page.specs.Page.{page_size, right, page_line, page_text, page_of, page_in, in_room, page_left}
use Rattle.page.specs.Example.{Example, full, Reached}
use Rattle.page.specs.Read.{view_for, read}
use Rattle.page.specs.Claims as claim
use Rattle.page.proofs.Lines.{digits-most}
use Rattle.page.proofs.Pages.{contents-are, page-is, page-length, in-room, too_long, in-refused}
use Rattle.page.proofs.ReadBack.{printing, node-line, last_line, read_is, all-bytes, reading}
use Rattle.page.proofs.Showing.{same-page}

pub page-sized : claim.PageSized
page-sized n v p b e =
    let g = printing n v p e in
    ap length g.bytes ∙ page-length n v g.totals g.given b ∙ (omega arith)

-- the figures that a page was printed with
own : (n : ℕ) (v p : List ℕ) (t : Totals) → figures_of n v ≡ returned t → page_of n v ≡ returned p
    → p ≡ node_lines n v ++ figures_line t
own n v p t f e =
    let q : returned (node_lines n v ++ figures_line t) ≡ returned p = sym (page-is n v t (accepted n v t f)) ∙ e in
    cc q

pub lined : claim.Lined
lined n v p t b f e =
    let h = accepted n v t f in
    let q = own n v p t f e in (
      λ i l. ap (λ (s : List ℕ). part s (line_size * i) line_size) q ∙ node-line n v t h b i l,
      ap (λ (s : List ℕ). part s (line_size * n) line_size) q ∙ last_line n v t h b,
    )

-- a figure that is at most the greatest
fit : (x : ℕ) → x ≤ figure_most → (x ≤ figure_most) × (length (decimal x) ≤ count_width)
fit x l = (l, digits-most count_width x (omega arith) (omega arith))

fit_all : (n : ℕ) (v : List ℕ) (t : Totals) → Bytes v → figures_of n v ≡ returned t → Fit t
fit_all n v t b f = accepted-fit n v t (accepted n v t f) b

pub fits : claim.Fits
unfolding fewest
fits =
    record {
      extensions = λ n v t b f. fit t.extensions (fit_all n v t b f).extensions;
      lines = λ n v t b f. fit t.lines (fit_all n v t b f).lines;
      waiting = λ n v t b f. fit t.waiting (fit_all n v t b f).waiting;
      wakeups = λ n v t b f. fit t.wakeups (fit_all n v t b f).wakeups;
      greatest = (refl, refl);
    }

pub read_back : claim.ReadBack
read_back n v p b e =
    let g = printing n v p e in
    ap read g.bytes ∙ read_is n v g.totals g.given b ∙ sym (contents-are n v g.totals g.given)

pub page-back : claim.PageBack
page-back b c e =
    let r = reading b c e in
    let v = view_for c.shown in
    (v, r.bytes, sym (read_back (length c.shown) v b r.bytes r.page) ∙ e, r.page)

-- contents that are the same are of as many nodes, show the same and have the same figures
same-contents : (n m : ℕ) (v w : List ℕ) (t u : Totals) → contents n v t ≡ contents m w u
    → (n ≡ m) × ((i : ℕ) → i < n → shown_at v i ≡ shown_at w i) × (t ≡ u)
same-contents n m v w t u e =
    let s : tab n (shown_at v) ≡ tab m (shown_at w) = ap (λ (c : Contents). c.shown) e in
    let q : n ≡ m = sym (length-tab n (shown_at v)) ∙ ap length s ∙ length-tab m (shown_at w) in (
      q,
      λ i l. sym (get_d-tab n (shown_at v) i none l) ∙ ap (λ (o : List (Option Report)). get_or o i none) s
          ∙ get_d-tab m (shown_at w) i none (omega arith),
      ap (λ (c : Contents). c.figures) e,
    )

pub tells : claim.Tells
tells n m v w p b d e f =
    let g = printing n v p e in
    let h = printing m w p f in
    let q : returned (contents n v g.totals) ≡ returned (contents m w h.totals) =
    sym (contents-are n v g.totals g.given) ∙ sym (read_back n v p b e) ∙ read_back m w p d f
    ∙ contents-are m w h.totals h.given in
    let s = same-contents n m v w g.totals h.totals (cc q) in (
      s.0,
      s.1,
      accepted-back n v g.totals g.given ∙ ap returned s.2 ∙ sym (accepted-back m w h.totals h.given),
    )

pub tells-only : claim.TellsOnly
tells-only n v w t f l ok s = same-page n v w t (accepted n v t f) l ok s

pub refuses : claim.Refuses
refuses =
    record {
      figures-first = λ n v room k e. in-refused n v k e room;
      short-last = λ n v room t b f l. too_long n v t (accepted n v t f) room b (omega arith);
      long-enough = λ n v room t b f l.
          let h = accepted n v t f in
          (node_lines n v ++ figures_line t, in-room n v t h room b (omega arith), page-is n v t h);
    }

-- a view of one report, whatever its tag
tagged-accepted : (t : ℕ) → view_ok 1 limit (claim.tagged t) ≡ true
    → Accepted 1 (claim.tagged t) (totals 1 (claim.tagged t))
tagged-accepted t ok = record { sized = refl; long = refl; ok = ok; are = refl }

tag-ok : (view_ok 1 limit (claim.tagged 1) ≡ true) × (view_ok 1 limit (claim.tagged 2) ≡ true)
unfolding view_ok all_to part
tag-ok = (refl, refl)

same-shown : (i : ℕ) → i < 1 → shown_at (claim.tagged 1) i ≡ shown_at (claim.tagged 2) i
unfolding part report_of
same-shown zero l = refl
same-shown (suc i) l = absurd (omega arith)

pub tags-untold : claim.TagsUntold
tags-untold =
    let v = claim.tagged 1 in
    let w = claim.tagged 2 in
    let h = tagged-accepted 1 tag-ok.0 in (
      sym (same-page 1 v w (totals 1 v) h refl tag-ok.1 same-shown),
      (node_lines 1 v ++ figures_line (totals 1 v), page-is 1 v (totals 1 v) h),
      λ e. let z : ◌≡◌ {A = ℕ} 1 2 = ap (λ (l : List ℕ). get_or l 7 0) e in omega arith,
    )

-- what there is room for is the page
in-page : (room : ℕ) (a : Answer (List ℕ)) (p : List ℕ) → in_room room a ≡ returned p → a ≡ returned p
in-page room (returned q) p e = by (leb (length q) room) e
  where
    by : (x : Bool) → pick x (returned q) (refused 15) ≡ returned p → returned q ≡ returned p
    by true e = e
    by false e = let z : ◌≡◌ {A = ℕ} 0 1 = cc in absurd (omega arith)
in-page room (refused k) p e = let z : ◌≡◌ {A = ℕ} 0 1 = cc in absurd (omega arith)

pub leaves : claim.Leaves
unfolding page_in put
leaves =
    record {
      front = λ n v out p b e.
          let s = page-sized n v p b (in-page (length out) (page_of n v) p e) in
          let l : 0 + length p ≡ page_size n = omega (arith, s) in
          ap (λ (a : Answer (List ℕ)). page_left a out) e ∙ ap (λ (k : ℕ). p ++ drop k out) l;
      kept = λ n v out k e. ap (λ (a : Answer (List ℕ)). page_left a out) e;
    }

-- ---- computed

pub example : Example
unfolding page_of contents_of figures_of totals page_text join page_line right fewest tab view_ok up_to all_to part
    report_of
example = refl

pub reached : Reached
unfolding figures_of totals join view_ok up_to all_to part report_of
reached = (all-bytes full refl, (totals nodes full, refl, refl))
