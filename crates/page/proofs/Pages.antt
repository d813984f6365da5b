-- The page of a view whose figures are accepted: its lines, its length, and the answer by the room there is.
use Prim.Native.Nat.{ℕ, ◌+◌, ◌*◌, ◌<◌, ◌≤◌}
use mathlib.Core.Path.{◌≡◌, ap, ap₂, ◌∙◌}
use mathlib.Core.Bool.{Bool}
use mathlib.Core.List.{List, ◌++◌}
use mathlib.Core.Option.{Option, none}
use lib.ListN.{length, get_or, length-append}
use borrow.Author.Tests.{le-leb, lt-leb}
use Rattle.octets.specs.Answer.{Answer, returned, refused}
use Rattle.octets.specs.Bytes.{Bytes}
use Rattle.octets.specs.Loop.{tab, join}
use Rattle.octets.specs.Test.{pick}
use Rattle.octets.proofs.Table.{length-tab, get_d-tab, join-ext}
use Rattle.view.specs.declared.Report.{Report}
use Rattle.figures.specs.Figures.{figures_of}
use Rattle.figures.specs.declared.Totals.{Totals}
use Rattle.figures.proofs.Accepted.{Accepted, accepted-back, accepted-size, accepted-fit}
use Rattle.page.specs.Page.{line_size, node_line, figures_line, shown_at, node_lines, Contents, map_result, contents}
use Rattle.page.specs.Page.{contents_of, page_text, page_of, in_room, page_in}
use Rattle.page.proofs.Lines.{nodes-length, figures-length}

-- the lines of a view are those of its contents
printed-is : (n : ℕ) (v : List ℕ) (t : Totals) → page_text (contents n v t) ≡ node_lines n v ++ figures_line t
unfolding page_text
printed-is n v t =
    let l : List (Option Report) = tab n (shown_at v) in
    ap (λ (s : List ℕ). s ++ figures_line t)
    (ap (λ (k : ℕ). join k (λ i. node_line (i + 1) (get_or l i none))) (length-tab n (shown_at v))
    ∙ join-ext n (λ i. node_line (i + 1) (get_or l i none)) (λ i. node_line (i + 1) (shown_at v i))
    (λ i m. ap (λ (o : Option Report). node_line (i + 1) o) (get_d-tab n (shown_at v) i none m)))

module _ (n : ℕ) (v : List ℕ) (t : Totals) (h : Accepted n v t) where
  pub contents-are : contents_of n v ≡ returned (contents n v t)
  unfolding contents_of
  contents-are = ap (λ (a : Answer Totals). map_result (contents n v) a) (accepted-back n v t h)

  pub page-is : page_of n v ≡ returned (node_lines n v ++ figures_line t)
  unfolding page_of
  page-is = ap (λ (a : Answer Contents). map_result page_text a) contents-are ∙ ap returned (printed-is n v t)

  pub page-length : Bytes v → length (node_lines n v ++ figures_line t) ≡ line_size * n + line_size
  page-length b =
      length-append (node_lines n v) (figures_line t)
      ∙ ap₂ (λ (x y : ℕ). x + y) (nodes-length n v b (accepted-size n v t h))
      (figures-length t (accepted-fit n v t h b))

  pub in-room : (room : ℕ) → Bytes v → line_size * n + line_size ≤ room
      → page_in n v room ≡ returned (node_lines n v ++ figures_line t)
  unfolding page_in
  in-room room b l =
      let p : List ℕ = node_lines n v ++ figures_line t in
      ap (in_room room) page-is
      ∙ ap (λ (x : Bool). pick x (returned p) (refused 15)) (le-leb (length p) room (rw (page-length b) l))

  pub too_long : (room : ℕ) → Bytes v → room < line_size * n + line_size → page_in n v room ≡ refused 15
  unfolding page_in
  too_long room b l =
      let p : List ℕ = node_lines n v ++ figures_line t in
      ap (in_room room) page-is
      ∙ ap (λ (x : Bool). pick x (returned p) (refused 15)) (lt-leb (length p) room (rw (page-length b) l))

module _ (n : ℕ) (v : List ℕ) (k : ℕ) (e : figures_of n v ≡ refused k) where
  page-refused : page_of n v ≡ refused k
  unfolding page_of contents_of
  page-refused = ap (λ (a : Answer Totals). map_result page_text (map_result (contents n v) a)) e

  pub in-refused : (room : ℕ) → page_in n v room ≡ refused k
  unfolding page_in
  in-refused room = ap (in_room room) page-refused
