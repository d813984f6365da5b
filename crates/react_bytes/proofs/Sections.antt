-- The tables of a record in its bytes: what stands there after one of them is changed, and a record put together from
-- its head and its tables.
use Prim.Native.Nat.{ℕ, zero, suc, ◌+◌, ◌-◌, ◌*◌, ◌<◌, ◌≤◌}
use mathlib.Core.Path.{◌≡◌, refl, sym, ap, ap₂, ◌∙◌, subst}
use mathlib.Core.Bool.{Bool, true, false}
use mathlib.Core.List.{List, [], ◌∷◌, ◌++◌, append_assoc}
use native.Mathlib.Nat.{lt_of_not-le}
use native.Mathlib.Decide.{ℕ_discrete, dec_le}
use native.Mathlib.Omega.{arith}
use lib.Dec.{leb}
use lib.ListN.{length, get_or, set, take, drop, length-set, length-drop}
use lib.Seq.{get_or-set_same, get_or-set_other, take_all}
use Rattle.octets.specs.Test.{pick}
use Rattle.octets.specs.Bytes.{Bytes, be, part, put}
use Rattle.octets.specs.Loop.{tab, join}
use Rattle.octets.specs.Word.{word, words, word_bytes, word_size}
use Rattle.octets.proofs.Put.{part-other, part_same, part-add, part-part, part_bytes, length_part, length-put}
use Rattle.octets.proofs.Put.{put-inside}
use Rattle.octets.proofs.Table.{length-tab, get_d-tab, get_d-padded, part_join, join-ext, join-parts}
use Rattle.octets.proofs.Word.{word_of}
use Rattle.view.specs.Size.{nodes, entry_size, view_size}
use Rattle.view.specs.Report.{no_report}
use Rattle.view.specs.View.{no_view, entry_bytes, view_bytes, view_of, tag_at}
use Rattle.view.specs.declared.Report.{Report}
use Rattle.view.specs.declared.View.{View}
use Rattle.view.proofs.ReportBytes.{be-part}
use Rattle.view.proofs.ViewBytes.{length-view_bytes, view-bytes-back}
use Rattle.table.specs.Table.{tag_of, report_of, cell, heard_of, newest, newest_tag, newest_report, put_entry, cells}
use Rattle.table.proofs.Laws.{get_d_numbered}
use Rattle.record.specs.declared.Node.{Node}
use Rattle.region.specs.Record.{record_size, heard_place, view_place, view_in, record_bytes, n_place, heard_size}
use Rattle.region.specs.Record.{last_in}
use Rattle.region.specs.Record.{atmax_in, atround_in, kept_in, views, head_in, head_bytes}
use Rattle.region.proofs.Saved.{head-end}
use Rattle.region.proofs.Back.{Sized}
use Rattle.react_bytes.proofs.Replaced.{strict, put_word, put-entry}
use Rattle.react_bytes.specs.Handled.{cell_place, entry_place, put_where, newest_entry}

-- ---- the tables in a record's bytes

-- View i where it stands.
abbrev section : List ℕ → ℕ → List ℕ
section r i = part r (view_place i) (view_size nodes)

pub record Tables (r heard : List ℕ) (each : List View) : Type 0 where
  pub size : length r ≡ record_size
  pub count : length each ≡ views
  pub of_heard : part r heard_place heard_size ≡ word_bytes heard
  pub of_view : (i : ℕ) → i < views → section r i ≡ view_bytes nodes (get_or each i no_view)

whole : (s : List ℕ) (n : ℕ) → length s ≡ n → take n s ≡ s
whole s n e = let q : length s ≤ n = omega arith in take_all n s q

-- a view where it stands
view-there : (r : List ℕ) → Bytes r → (at : ℕ) → at + view_size nodes ≤ length r → part r at (view_size nodes)
    ≡ view_bytes nodes (view_of nodes (part r at (view_size nodes)))
view-there r h at m =
    let e : length (part r at (view_size nodes)) ≡ view_size nodes = length_part r at (view_size nodes) m in
    sym (view-bytes-back nodes (part r at (view_size nodes)) (part_bytes r at (view_size nodes) h) (omega arith)
    ∙ whole (part r at (view_size nodes)) (view_size nodes) e)

-- words where they stand
pub words-there : (r : List ℕ) → Bytes r → (k at : ℕ) → at + word_size * k ≤ length r
    → word_bytes (words k r at) ≡ part r at (word_size * k)
words-there r h k at m =
    let f : ℕ → ℕ = λ i. word r (at + word_size * i) in
    ap (λ (n : ℕ). join n (λ i. be word_size (get_or (words k r at) i 0))) (length-tab k f)
    ∙ join-ext k (λ i. be word_size (get_or (words k r at) i 0))
    (λ i. part (part r at (word_size * k)) (word_size * i) word_size)
    (λ i l. ap (be word_size) (get_d-tab k f i 0 l) ∙ be-part r (at + word_size * i) word_size h (omega arith)
    ∙ sym (part-part r at (word_size * k) (word_size * i) word_size (omega arith)))
    ∙ join-parts k word_size (part r at (word_size * k))
    ∙ whole (part r at (word_size * k)) (word_size * k) (length_part r at (word_size * k) m)

-- as they stand
pub tables-of : (r : List ℕ) → Bytes r → length r ≡ record_size
    → Tables r (words cells r heard_place)
    (view_in r last_in ∷ view_in r atmax_in ∷ view_in r atround_in ∷ view_in r kept_in ∷ [])
unfolding tab
tables-of r h l =
    record {
      size = l;
      count = refl;
      of_heard = sym (words-there r h cells heard_place (omega arith));
      of_view = λ i b. view-there r h (view_place i) (omega arith)
          ∙ ap (view_bytes nodes) (sym (get_d-tab views (view_in r) i no_view b));
    }

-- what is put inside a section
part-inner : (r : List ℕ) (at len j : ℕ) (v : List ℕ) → at + len ≤ length r → j + length v ≤ len
    → part (put r (at + j) v) at len ≡ put (part r at len) j v
part-inner r at len j v h l =
    let e : length (part r at len) ≡ len = length_part r at len h in
    ap (λ (t : List ℕ). part t at len) (put-inside r at len j v h l)
    ∙ part_same r at (put (part r at len) j v) len (omega arith) (length-put (part r at len) j v (omega arith) ∙ e)

set_self : (l : List View) (i : ℕ) → set l i (get_or l i no_view) ≡ l
set_self [] i = refl
set_self (x ∷ l) zero = refl
set_self (x ∷ l) (suc i) = ap (λ (t : List View). x ∷ t) (set_self l i)

module _ {r heard : List ℕ} {each : List View} (T : Tables r heard each) where
  long : length r ≡ record_size
  long = T.size

  -- a tag heard
  pub heard-put : (k x : ℕ) → k < cells → length heard ≡ cells
      → Tables (put r (heard_place + word_size * k) (be word_size x)) (set heard k x) each
  heard-put k x l z =
      let m : heard_place + word_size * k + word_size ≤ length r = omega (arith, long) in
      record {
        size = length-put r (heard_place + word_size * k) (be word_size x) m ∙ long;
        count = T.count;
        of_heard = part-inner r heard_place heard_size (word_size * k) (be word_size x) (omega (arith, long))
            (omega arith)
            ∙ ap (λ (t : List ℕ). put t (word_size * k) (be word_size x)) T.of_heard ∙ put_word heard k x (omega arith);
        of_view = λ i b. part-other r (heard_place + word_size * k) (be word_size x) (view_place i) (view_size nodes)
            (omega arith) (λ p. omega arith) (λ p. omega arith) ∙ T.of_view i b;
      }

  -- view k: the whole of it, and one entry where the flag says so
  module _ (k : ℕ) (b : k < views) where
    pub view-put : (v : View) → Tables (put r (view_place k) (view_bytes nodes v)) heard (set each k v)
    view-put v =
        record {
          size = length-put r (view_place k) (view_bytes nodes v) room ∙ long;
          count = length-set each k v ∙ T.count;
          of_heard = part-other r (view_place k) (view_bytes nodes v) heard_place heard_size from (λ p. omega arith)
              (λ p. omega arith) ∙ T.of_heard;
          of_view = λ i l. elim (ℕ_discrete i k) [
            | yes e ↦ same i e
            | no e ↦ other i e (dec_le k i) ∙ T.of_view i l
                ∙ ap (view_bytes nodes) (sym (get_or-set_other each k i v no_view e))
          ];
        }
      where
        size : length (view_bytes nodes v) ≡ view_size nodes
        size = length-view_bytes nodes v

        room : view_place k + length (view_bytes nodes v) ≤ length r
        room = omega (arith, size, long)

        from : view_place k ≤ length r
        from = omega (arith, long)

        same : (i : ℕ) → i ≡ k
            → section (put r (view_place k) (view_bytes nodes v)) i ≡ view_bytes nodes (get_or (set each k v) i no_view)
        same i e =
            ap (section (put r (view_place k) (view_bytes nodes v))) e
            ∙ part_same r (view_place k) (view_bytes nodes v) (view_size nodes) from size
            ∙ ap (view_bytes nodes) (sym (get_or-set_same each k v no_view (omega (arith, T.count)))
            ∙ ap (λ (j : ℕ). get_or (set each k v) j no_view) (sym e))

        other : (i : ℕ) → (i ≡ k → ⊥) → Dec (k ≤ i)
            → section (put r (view_place k) (view_bytes nodes v)) i ≡ section r i
        other i e (yes q) =
            let h : k < i = strict k i q (λ p. e (sym p)) in
            part-other r (view_place k) (view_bytes nodes v) (view_place i) (view_size nodes) from (λ p. omega arith)
            (λ p. omega (arith, size))
        other i e (no q) =
            let h : i < k = lt_of_not-le q in
            part-other r (view_place k) (view_bytes nodes v) (view_place i) (view_size nodes) from (λ p. omega arith)
            (λ p. omega arith)

    pub view-entry : (flag : Bool) (w t : ℕ) (p : Report) → Sized (get_or each k no_view) → 1 ≤ w → w ≤ nodes
        → Tables (put_where flag k w t p r) heard
        (set each k (pick flag (put_entry (get_or each k no_view) w t p) (get_or each k no_view)))
    view-entry true w t p z lo hi =
        let v = get_or each k no_view in
        subst (λ (u : List ℕ). Tables u heard (set each k (put_entry v w t p)))
        (sym (put-inside r (view_place k) (view_size nodes) (entry_size * (w - 1)) (entry_bytes t p)
        (omega (arith, long))
        (omega arith)
        ∙ ap (λ (u : List ℕ). put r (view_place k) (put u (entry_size * (w - 1)) (entry_bytes t p))) (T.of_view k b)
        ∙ ap (put r (view_place k)) (put-entry v w t p z lo hi))) (view-put (put_entry v w t p))
    view-entry false w t p z lo hi = subst (Tables r heard) (sym (set_self each k)) T

-- ---- a record from its head and its tables

part-rest : (r : List ℕ) (at len : ℕ) → length (drop at r) ≤ len → part r at len ≡ drop at r
unfolding part
part-rest r at len q = take_all len (drop at r) q

pub assembled : (c : Node) {r : List ℕ} → Tables r c.heard
    (c.last ∷ c.atmax ∷ c.atround ∷ c.keptview ∷ []) → put r n_place (head_bytes (head_in c)) ≡ record_bytes c
unfolding put record_bytes
assembled c {r} T =
    let h = head_bytes (head_in c) in
    let l : length r ≡ record_size = T.size in
    ap (λ (k : ℕ). h ++ drop k r) (head-end (head_in c))
    ∙ ap (λ (t : List ℕ). h ++ t) (rest l ∙ ap₂ (λ (x y : List ℕ). x ++ y) T.of_heard
    (ap₂ (λ (x y : List ℕ). x ++ y) (ap₂ (λ (x y : List ℕ). x ++ y)
    (ap₂ (λ (x y : List ℕ). x ++ y) (T.of_view last_in (omega arith)) (T.of_view atmax_in (omega arith)))
    (T.of_view atround_in (omega arith))) (T.of_view kept_in (omega arith))))
    ∙ sym (append_assoc h (word_bytes c.heard) _)
  where
    rest : length r ≡ record_size → drop heard_place r
        ≡ part r heard_place heard_size ++ (section r last_in ++ section r atmax_in ++ section r atround_in ++ section r
        kept_in)
    rest l =
        let q : length (drop heard_place r) ≤ record_size - heard_place = simp length-drop (omega arith) in
        sym (part-rest r heard_place (record_size - heard_place) q) ∙ part-add r heard_place heard_size
        (view_size nodes * views)
        ∙ ap (λ (t : List ℕ). part r heard_place heard_size ++ t) (part-add r (view_place last_in)
        (view_size nodes * kept_in)
        (view_size nodes)
        ∙ ap (λ (t : List ℕ). t ++ section r kept_in) (part-add r (view_place last_in) (view_size nodes * atround_in)
        (view_size nodes)
        ∙ ap (λ (t : List ℕ). t ++ section r atround_in) (part-add r (view_place last_in) (view_size nodes)
        (view_size nodes))))

-- ---- one entry read

pub tag_read : (r : List ℕ) (i w : ℕ) → 1 ≤ w → w ≤ nodes → word r (entry_place i w) ≡ tag_of (view_in r i) w
unfolding view_of
tag_read r i w lo hi =
    sym (get_d-padded nodes nodes (tag_at (part r (view_place i) (view_size nodes))) (w - 1) 0 (omega arith)
    ∙ word_of r (view_place i) (view_size nodes) (entry_size * (w - 1)) (omega arith))

pub heard-read : (r : List ℕ) (s w : ℕ) → 1 ≤ s → s ≤ nodes → 1 ≤ w → w ≤ nodes
    → word r (cell_place s w) ≡ heard_of (words cells r heard_place) s w
heard-read r s w ls hs lw hw = sym (get_d-tab cells (λ i. word r (heard_place + word_size * i)) (cell s w) 0
    (omega arith))

-- ---- the newest entries, each read where it stands and all of them one after the other

entry_read : (r : List ℕ) (i w : ℕ) → Bytes r → length r ≡ record_size → i < views → 1 ≤ w → w ≤ nodes
    → part r (entry_place i w) entry_size ≡ entry_bytes (tag_of (view_in r i) w) (report_of (view_in r i) w)
unfolding view_bytes
entry_read r i w h l b lo hi =
    let v = view_in r i in
    sym (part-part r (view_place i) (view_size nodes) (entry_size * (w - 1)) entry_size (omega arith))
    ∙ ap (λ (s : List ℕ). part s (entry_size * (w - 1)) entry_size) (view-there r h (view_place i) (omega arith))
    ∙ part_join nodes entry_size (λ j. entry_bytes (get_or v.tags j 0) (get_or v.reports j no_report)) (w - 1)
    (λ j. refl) (omega arith)

pub newest-read : (r : List ℕ) (t w : ℕ) → Bytes r → length r ≡ record_size → 1 ≤ w → w ≤ nodes → (b : Bool)
    → leb (tag_of (view_in r last_in) w) t ≡ b
    → part r (pick b (entry_place last_in w) (entry_place atmax_in w)) entry_size ≡ newest_entry t (view_in r last_in)
    (view_in r atmax_in) w
newest-read r t w h l lo hi true e = rw e (entry_read r last_in w h l (omega arith) lo hi)
newest-read r t w h l lo hi false e = rw e (entry_read r atmax_in w h l (omega arith) lo hi)

pub newest-bytes : (t : ℕ) (last held : View)
    → join nodes (λ i. newest_entry t last held (i + 1)) ≡ view_bytes nodes (newest t last held)
unfolding view_bytes newest
newest-bytes t last held =
    let v = newest t last held in
    join-ext nodes (λ i. newest_entry t last held (i + 1)) _
    (λ i l. let e : i + 1 - 1 ≡ i = omega arith in
    ap₂ entry_bytes
    (sym (get_d_numbered nodes (newest_tag t last held) (i + 1) 0 (omega arith) (omega arith))
    ∙ ap (λ (j : ℕ). get_or v.tags j 0) e)
    (sym (get_d_numbered nodes (newest_report t last held) (i + 1) no_report (omega arith) (omega arith))
    ∙ ap (λ (j : ℕ). get_or v.reports j no_report) e))
