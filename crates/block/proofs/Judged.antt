-- A record judged in its bytes is judged as its values are.
use Prim.Native.Nat.{ℕ, zero, suc, ◌+◌, ◌-◌, ◌*◌, ◌<◌, ◌≤◌}
use mathlib.Core.Path.{◌≡◌, refl, sym, ap, ap₂, ◌∙◌}
use mathlib.Core.Bool.{Bool, true, false}
use mathlib.Core.List.{List}
use native.Mathlib.Nat.{lt_of_not-le}
use native.Mathlib.Decide.{dec_le}
use native.Mathlib.Numerals.{add-one}
use Rattle.std.proofs.Common.{◌&&◌}
use native.Mathlib.Omega.{arith}
use lib.ListN.{length, get_or}
use lib.Dec.{leb, ltb, eqb}
use borrow.Author.Tests.{lt-ltb, le-ltb, le-leb, lt-leb, ne_eqb, eqb-true}
use Rattle.octets.specs.Test.{pick, both}
use Rattle.octets.specs.Bytes.{Bytes, num, part}
use Rattle.octets.specs.Loop.{all_to}
use Rattle.octets.specs.Word.{word, words, word_size}
use Rattle.octets.proofs.Loop.{all_to-at, all_to-all}
use Rattle.octets.proofs.Test.{both_left, both_right, not-true-false}
use Rattle.octets.proofs.Number.{num-eight}
use Rattle.octets.proofs.Put.{part_bytes, length_part, get_d_part}
use Rattle.octets.proofs.Table.{get_d-tab, get_d-padded}
use Rattle.view.specs.Size.{limit, nodes, tag_size, report_size, entry_size, view_size}
use Rattle.view.specs.Report.{no_report, is_none}
use Rattle.view.specs.View.{tag_at, report_at, report_word, view_of, entry_ok_at, view_ok}
use Rattle.view.specs.declared.Report.{Report}
use Rattle.view.proofs.ReportBytes.{none-zero}
use Rattle.table.specs.Loop.{either, all}
use Rattle.table.specs.Table.{at, tag_of, report_of as report_in, entry_ok, entry_within, view_within, heard_within}
use Rattle.table.specs.Table.{cells}
use Rattle.record.specs.Usable.{round_tag, sizes_within, numbers_within, numbers_ok, tables_ok, usable}
use Rattle.region.specs.Record.{heard_place, view_in, wait_in, record_of, codes_known, n_place, f_place, own_place}
use Rattle.region.specs.Record.{maxtag_place}
use Rattle.region.specs.Record.{request_place, kept_place, last_in, atmax_in, atround_in, kept_in}
use Rattle.table.proofs.Laws.{all-at, all-all}
use Rattle.block.specs.Block.{record_sound}
use Rattle.block.specs.Judge.{group, cell_within, stated}

-- ---- a word within the limit

-- eight bytes are at most 2^63 - 1 exactly where the first of them is below 128
first_of : (s : List ℕ) → Bytes s → length s ≡ word_size → ltb (get_or s 0 0) 128 ≡ leb (num s) limit
first_of s h l = elim (dec_le 128 (get_or s 0 0)) [
  | yes m ↦ le-ltb (get_or s 0 0) 128 m ∙ sym (lt-leb (num s) limit (omega (arith, num-eight s l)))
  | no m ↦ let k : get_or s 0 0 < 128 = lt_of_not-le m in
      lt-ltb (get_or s 0 0) 128 k
      ∙ sym (le-leb (num s) limit (omega (arith, num-eight s l, h 1, h 2, h 3, h 4, h 5, h 6, h 7)))
]

-- the tag of cell k, as the loop over the table meets it
pub cell-within : (b : List ℕ) (n place k : ℕ) → Bytes b → place + word_size * n ≤ length b → k < n
    → ltb (get_or b (place + word_size * k) 0) 128 ≡ leb (at (words n b place) (k + 1)) limit
cell-within b n place k h l m =
    let e : k + 1 - 1 ≡ k = omega arith in
    let p : place + word_size * k + word_size ≤ length b = omega arith in
    ap (λ (x : ℕ). ltb x 128) (ap (λ (j : ℕ). get_or b j 0) (zero_more (place + word_size * k))
    ∙ sym (get_d_part b (place + word_size * k) word_size 0 (omega arith)))
    ∙ first_of (part b (place + word_size * k) word_size) (part_bytes b (place + word_size * k) word_size h)
    (length_part b (place + word_size * k) word_size p)
    ∙ ap (λ (x : ℕ). leb x limit) (sym (ap (λ (j : ℕ). get_or (words n b place) j 0) e
    ∙ get_d-tab n (λ i. word b (place + word_size * i)) k 0 m))
  where
    zero_more : (j : ℕ) → j ≡ j + 0
    zero_more j = omega arith

-- ---- a view within a tag

beside : (x : ℕ) (t u : Bool) → t ≡ u → pick (eqb x 0) u true ≡ either (leb 1 x) t
beside zero t u e = sym e
beside (suc x) t u e = rw (ne_eqb (suc x) 0 (λ q. omega arith), le-leb 1 (suc x) (omega arith))

all-all_to : (n : ℕ) (p q : ℕ → Bool) → ((i : ℕ) → i < n → q i ≡ p (i + 1)) → all_to n q ≡ all n p
unfolding all_to all
all-all_to zero p q h = refl
all-all_to (suc k) p q h =
    let e : k + 1 ≡ suc k = omega arith in
    ap₂ both (h k (omega arith) ∙ ap p e) (all-all_to k p q (λ i l. h i (omega arith)))

pub view-within : (t : ℕ) (b : List ℕ) → Bytes b → length b ≡ view_size nodes → view_ok nodes t b
    ≡ view_within t (view_of nodes b)
unfolding view_ok view_within view_of
view-within t b h l = all-all_to nodes (entry_within t (view_of nodes b)) (entry_ok_at t b) (λ i m.
    let e : i + 1 - 1 ≡ i = omega arith in
    let s = part b (entry_size * i + tag_size) report_size in
    let tag : tag_of (view_of nodes b) (i + 1) ≡ tag_at b i =
    ap (λ (j : ℕ). get_or (view_of nodes b).tags j 0) e ∙ get_d-padded nodes nodes (tag_at b) i 0 m in
    let report : report_in (view_of nodes b) (i + 1) ≡ report_at b i =
    ap (λ (j : ℕ). get_or (view_of nodes b).reports j no_report) e ∙ get_d-padded nodes nodes (report_at b) i no_report
    m in
    ap (both (leb (tag_at b i) t)) (beside (tag_at b i) (is_none (report_at b i)) (eqb (report_word b i) 0)
    (none-zero s (part_bytes b (entry_size * i + tag_size) report_size h) (length_part b (entry_size * i + tag_size)
    report_size (omega arith))))
    ∙ sym (ap₂ (λ (x : ℕ) (p : Report). entry_ok t x p) tag report))

-- ---- a whole record

abbrev pub tables_within : (maxtag round kept : ℕ) → List ℕ → Bool
tables_within maxtag round kept r =
    both (both (heard_within (words cells r heard_place)) (view_within limit (view_in r last_in)))
    (both (both (view_within maxtag (view_in r atmax_in)) (view_within round (view_in r atround_in)))
    (view_within kept (view_in r kept_in)))

-- the numbers and the tables, of n nodes
abbrev pub judged_as : ℕ → List ℕ → Bool
judged_as n r =
    both (numbers_within n (word r maxtag_place) (word r request_place) (word r kept_place) (wait_in r))
    (tables_within (word r maxtag_place) (round_tag (wait_in r)) (word r kept_place) r)

module _ (n f c : ℕ) (r : List ℕ) where
  abbrev cluster : Bool
  cluster = both (eqb (word r n_place) n) (eqb (word r f_place) f)

  abbrev whole : (x y z : ℕ) → Bool
  whole x y z = both (codes_known r) (both (sizes_within x y z) (judged_as x r))

  -- where there may be such a node
  pub judged : sizes_within n f c ≡ true
      → both (stated n f c r) (both (codes_known r) (judged_as n r)) ≡ record_sound n f c r
  unfolding usable numbers_ok tables_ok record_of
  judged s = first (stated n f c r) refl
    where
      known : Bool
      known = both (codes_known r) (usable (record_of r))

      never : (t : Bool) → false ≡ both t false
      never true = refl
      never false = refl

      only : (t : Bool) → t ≡ both t true
      only true = refl
      only false = refl

      first : (t : Bool) → stated n f c r ≡ t
          → both t (both (codes_known r) (judged_as n r)) ≡ record_sound n f c r
      first false h = never known ∙ sym (ap (both known) h)
      first true h =
          let same = both_left cluster (eqb (word r own_place) c) h in
          let n-is = eqb-true (word r n_place) n (both_left (eqb (word r n_place) n) (eqb (word r f_place) f) same) in
          let f-is = eqb-true (word r f_place) f (both_right (eqb (word r n_place) n) (eqb (word r f_place) f) same) in
          let own_is = eqb-true (word r own_place) c (both_right cluster (eqb (word r own_place) c) h) in
          sym (ap (λ (t : Bool). both (codes_known r) (both t (judged_as n r))) s)
          ∙ ap₂ (λ (x y : ℕ). whole x y c) (sym n-is) (sym f-is)
          ∙ ap (λ (z : ℕ). whole (word r n_place) (word r f_place) z) (sym own_is)
          ∙ only known
          ∙ sym (ap (both known) h)

-- ---- the cells of the table of tags heard, judged in groups

abbrev Within : List ℕ → ℕ → Bool
Within r k = leb (at (words cells r heard_place) k) limit

pub group-next : (k : ℕ) (p : ℕ → Bool) (ok b : Bool) → ok ≡ all_to k p → b ≡ p k → (ok && b) ≡ all_to (k + 1) p
unfolding all_to
group-next k p ok b e f = rw (e, f, add-one k) (turned (all_to k p) (p k))
  where
    turned : (x y : Bool) → (x && y) ≡ both y x
    turned true true = refl
    turned true false = refl
    turned false true = refl
    turned false false = refl

-- the cells before a group keep the limit, and so do those of the group
pub groups-more : (r : List ℕ) (i : ℕ) → all (group * i) (Within r) ≡ true
    → all_to group (λ j. cell_within r (group * i + j)) ≡ true → all (group * (i + 1)) (Within r) ≡ true
groups-more r i h g = all-all (group * (i + 1)) (Within r) (λ w lo hi. elim (dec_le w (group * i)) [
  | yes l ↦ all-at (group * i) (Within r) w h lo l
  | no l ↦
      let m = lt_of_not-le l in
      let j = w - 1 - group * i in
      let e : group * i + j + 1 ≡ w = omega arith in
      ap (Within r) (sym e) ∙ all_to-at group (λ j. cell_within r (group * i + j)) j g (omega arith)
])

-- a group in which one does not is part of a table in which one does not
pub group-fails : (r : List ℕ) (i : ℕ) → group * i + group ≤ cells
    → all_to group (λ j. cell_within r (group * i + j)) ≡ false → all cells (Within r) ≡ false
group-fails r i l g = not-true-false (all cells (Within r)) (λ h.
    let t : all_to group (λ j. cell_within r (group * i + j)) ≡ true =
    all_to-all group (λ j. cell_within r (group * i + j)) (λ j m. all-at cells (Within r) (group * i + j + 1) h
    (omega arith) (omega arith)) in
    let z : ◌≡◌ {A = Bool} true false = sym t ∙ g in let n : ◌≡◌ {A = ℕ} 0 1 = cc in omega arith)
