-- A record that is written in bytes is read back, and a head that is saved is loaded.
use Prim.Native.Nat.{ℕ, ◌+◌, ◌-◌, ◌*◌, ◌<◌, ◌≤◌}
use native.Mathlib.Omega.{arith}
use mathlib.Core.Path.{◌≡◌, refl, sym, ap, ◌∙◌, subst}
use mathlib.Core.Bool.{true}
use mathlib.Core.List.{List, [], ◌++◌, append_assoc, append-nil}
use lib.ListN.{length, get_or, drop, length-append, get_or-eq_default}
use lib.Dec.{eqb, leb}
use Rattle.octets.specs.Test.{pick, both}
use Rattle.octets.specs.Bytes.{num, be, part, put}
use Rattle.octets.specs.Loop.{tab}
use Rattle.octets.specs.Word.{word_size, word, words, word_bytes}
use Rattle.octets.proofs.Number.{num-be-suc}
use Rattle.octets.proofs.Put.{part-seam}
use Rattle.octets.proofs.Table.{part_join, tab-ext, tab-of, length-tab}
use Rattle.octets.proofs.Word.{length-word_bytes, word_of, words_of}
use Rattle.view.specs.Size.{nodes, report_size, view_size}
use Rattle.view.specs.Report.{no_report, report_bytes}
use Rattle.view.specs.View.{view_bytes, view_of}
use Rattle.view.specs.declared.View.{View}
use Rattle.view.proofs.ReportBytes.{report-back}
use Rattle.view.proofs.ViewBytes.{length-view_bytes, view-back, view-absent}
use Rattle.table.specs.Table.{cells}
use Rattle.record.specs.declared.Node.{Node}
use Rattle.record.specs.declared.Operation.TheVariants.{Update, Scan}
use Rattle.record.specs.declared.Kind.{Kind}
use Rattle.record.specs.declared.Kind.TheVariants.{Update as Updating, Scan as Scanning}
use Rattle.record.specs.declared.Wait.{Wait}
use Rattle.record.specs.declared.Wait.TheVariants.{Idle, Reading, Writing, Comparing, Borrowing}
use Rattle.region.specs.Record.{n_place, code_place, report_place, heard_place, heard_size, view_place}
use Rattle.region.specs.Record.{last_in, atmax_in, atround_in, kept_in, wait_in, wait_of, wait_words, wait_report}
use Rattle.region.specs.Record.{kind_of}
use Rattle.region.specs.Record.{kind_code, codes_known, head_of, head_in, head_bytes, numbers}
use Rattle.region.specs.Record.{record_bytes, record_of, view_in}
use Rattle.region.specs.declared.head.Head.{Head}
use Rattle.region.proofs.Saved.{six-words, head-end}

-- A view whose lists have their sizes.
pub record Sized (v : View) : Type 0 where
  pub tags : length v.tags ≡ nodes
  pub reports : length v.reports ≡ nodes

-- Word i of a table's bytes.
word_at : (t : List ℕ) (i : ℕ) → i < length t → word (word_bytes t) (word_size * i) ≡ get_or t i 0
word_at t i l =
    ap num (part_join (length t) word_size (λ j. be word_size (get_or t j 0)) i (λ j. refl) l)
    ∙ num-be-suc 7 (get_or t i 0)

words-at : (t : List ℕ) (k : ℕ) → length t ≡ k → words k (word_bytes t) 0 ≡ t
words-at t k e = tab-ext k (λ i. word (word_bytes t) (0 + word_size * i)) (λ i. get_or t i 0)
    (λ i l. let z : 0 + word_size * i ≡ word_size * i = omega arith in ap (word (word_bytes t)) z
    ∙ word_at t i (omega arith))
    ∙ ap (λ j. tab j (λ i. get_or t i 0)) (sym e) ∙ tab-of t 0

view-at : (v : View) → Sized v → view_of nodes (view_bytes nodes v) ≡ v
view-at v z = ap (view_of nodes) (sym (append-nil (view_bytes nodes v))) ∙ view-back nodes v [] (record {
  size = omega arith;
  tags-length = z.tags;
  reports-length = z.reports;
  no-tag = λ i l. get_or-eq_default v.tags 0 (omega (arith, z.tags));
  no-report = λ i l. get_or-eq_default v.reports no_report (omega (arith, z.reports));
})

kind-back : (k : Kind) → kind_of (kind_code k) ≡ k
kind-back Updating = refl
kind-back Scanning = refl

-- The wait that its own words and report are.
wait-back : (w : Wait) → wait_of (get_or (wait_words w) 0 0) (get_or (wait_words w) 1 0) (get_or (wait_words w) 2 0)
    (get_or (wait_words w) 3 0)
    (get_or (wait_words w) 4 0) (get_or (wait_words w) 5 0) (wait_report w) ≡ w
wait-back Idle = refl
wait-back (Reading (Update p) a m) = refl
wait-back (Reading Scan a m) = refl
wait-back (Writing k i r a) = ap (λ x. Writing x i r a) (kind-back k)
wait-back (Comparing k i r) = ap (λ x. Comparing x i r) (kind-back k)
wait-back (Borrowing k r) = ap (λ x. Borrowing x r) (kind-back k)

-- A record whose tables have their sizes.
pub record SizedNode (c : Node) : Type 0 where
  pub heard : length c.heard ≡ cells
  pub last : Sized c.last
  pub atmax : Sized c.atmax
  pub atround : Sized c.atround
  pub keptview : Sized c.keptview

-- ---- the head

-- What stands in bytes that begin with a head.
record HeadRuns (b : List ℕ) (h : Head) : Type 0 where
  of_numbers : part b n_place code_place ≡ word_bytes (numbers h)
  of_wait : part b code_place (report_place - code_place) ≡ word_bytes (wait_words h.wait)
  of_report : part b report_place report_size ≡ report_bytes (wait_report h.wait)

module _ (N W R X : List ℕ) (n : length N ≡ code_place) (w : length W ≡ report_place - code_place)
    (r : length R ≡ report_size) where
  front : List ℕ
  front = N ++ (W ++ R) ++ X

  run : (u v x : List ℕ) (i len : ℕ) → front ≡ u ++ v ++ x → length u ≡ i → length v ≡ len → part front i len ≡ v
  run u v x i len e k l = ap (λ t. part t i len) e ∙ part-seam u v x i len k l

  run-N : part front n_place code_place ≡ N
  unfolding front
  run-N = run [] N (W ++ R ++ X) n_place code_place (simp append_assoc) refl n

  run-W : part front code_place (report_place - code_place) ≡ W
  unfolding front
  run-W = run N W (R ++ X) code_place (report_place - code_place) (simp append_assoc) n w

  run-R : part front report_place report_size ≡ R
  unfolding front
  run-R = run (N ++ W) R X report_place report_size (simp append_assoc) (simp length-append (omega arith)) r

head-runs : (h : Head) (rest : List ℕ) → HeadRuns (head_bytes h ++ rest) h
unfolding front
head-runs h rest =
    let N = word_bytes (numbers h) in
    let W = word_bytes (wait_words h.wait) in
    let R = report_bytes (wait_report h.wait) in
    let n : length N ≡ code_place = length-word_bytes (numbers h) in
    let w : length W ≡ report_place - code_place =
    length-word_bytes (wait_words h.wait) ∙ ap (λ k. word_size * k) (six-words h.wait) in
    record {
      of_numbers = run-N N W R rest n w refl;
      of_wait = run-W N W R rest n w refl;
      of_report = run-R N W R rest n w refl;
    }

word_in : (b t : List ℕ) (at len i : ℕ) → part b at len ≡ word_bytes t → word_size * i + word_size ≤ len → i < length t
    → word b (at + word_size * i) ≡ get_or t i 0
word_in b t at len i e h l =
    sym (word_of b at len (word_size * i) h) ∙ ap (λ s. word s (word_size * i)) e ∙ word_at t i l

module _ (b : List ℕ) (h : Head) (r : HeadRuns b h) where
  number : (i : ℕ) → i < length (numbers h) → word b (n_place + word_size * i) ≡ get_or (numbers h) i 0
  number i l = word_in b (numbers h) n_place code_place i r.of_numbers (omega arith) l

  of-wait : (i : ℕ) → i < 6 → word b (code_place + word_size * i) ≡ get_or (wait_words h.wait) i 0
  of-wait i l = word_in b (wait_words h.wait) code_place (report_place - code_place) i r.of_wait (omega arith)
      (omega (arith, six-words h.wait))

  wait-of : wait_in b ≡ h.wait
  wait-of = rw (
    of-wait 0 (omega arith),
    of-wait 1 (omega arith),
    of-wait 2 (omega arith),
    of-wait 3 (omega arith),
    of-wait 4 (omega arith),
    of-wait 5 (omega arith),
    r.of_report,
    report-back (wait_report h.wait),
  ) (wait-back h.wait)

  head-is : head_of b ≡ h
  head-is = rw (
    number 0 (omega arith),
    number 1 (omega arith),
    number 2 (omega arith),
    number 3 (omega arith),
    number 4 (omega arith),
    number 5 (omega arith),
    wait-of,
  ) refl

  known : codes_known b ≡ true
  known = rw (of-wait 0 (omega arith), of-wait 1 (omega arith)) (codes h.wait)
    where
      kind : (k : Kind) → leb (kind_code k) 1 ≡ true
      kind Updating = refl
      kind Scanning = refl

      codes : (w : Wait) → pick (eqb (get_or (wait_words w) 0 0) 0) true
          (both (leb (get_or (wait_words w) 0 0) 4) (leb (get_or (wait_words w) 1 0) 1)) ≡ true
      codes Idle = refl
      codes (Reading (Update p) a m) = refl
      codes (Reading Scan a m) = refl
      codes (Writing k i r a) = kind k
      codes (Comparing k i r) = kind k
      codes (Borrowing k r) = kind k

-- What is saved is loaded.
pub head-back : (b : List ℕ) (h : Head) → head_of (put b n_place (head_bytes h)) ≡ h
unfolding put
head-back b h = let t = drop (n_place + length (head_bytes h)) b in head-is (head_bytes h ++ t) h (head-runs h t)

-- ---- the record

-- The runs after a head, each in its place.
module _ (F H A B C D : List ℕ) (f : length F ≡ heard_place) (h : length H ≡ heard_size)
    (a : length A ≡ view_size nodes)
    (b : length B ≡ view_size nodes) (c : length C ≡ view_size nodes) (d : length D ≡ view_size nodes) where
  all : List ℕ
  all = F ++ H ++ (A ++ B ++ C ++ D)

  run_in : (u v x : List ℕ) (i len : ℕ) → all ≡ u ++ v ++ x → length u ≡ i → length v ≡ len → part all i len ≡ v
  run_in u v x i len e k l = ap (λ t. part t i len) e ∙ part-seam u v x i len k l

  run-H : part all heard_place heard_size ≡ H
  unfolding all
  run-H = run_in F H (A ++ B ++ C ++ D) heard_place heard_size refl f h

  run-A : part all (view_place last_in) (view_size nodes) ≡ A
  unfolding all
  run-A = run_in (F ++ H) A (B ++ C ++ D) (view_place last_in) (view_size nodes) (simp append_assoc)
      (simp length-append (omega arith)) a

  run-B : part all (view_place atmax_in) (view_size nodes) ≡ B
  unfolding all
  run-B = run_in (F ++ H ++ A) B (C ++ D) (view_place atmax_in) (view_size nodes) (simp append_assoc)
      (simp length-append (omega arith)) b

  run-C : part all (view_place atround_in) (view_size nodes) ≡ C
  unfolding all
  run-C = run_in (F ++ H ++ A ++ B) C D (view_place atround_in) (view_size nodes) (simp append_assoc)
      (simp length-append (omega arith)) c

  run-D : part all (view_place kept_in) (view_size nodes) ≡ D
  unfolding all
  run-D = run_in (F ++ H ++ A ++ B ++ C) D [] (view_place kept_in) (view_size nodes) (simp (append_assoc, append-nil))
      (simp length-append (omega arith)) d

-- Bytes that have the runs of record c are record c.
record Runs (b : List ℕ) (c : Node) : Type 0 where
  of_head : HeadRuns b (head_in c)
  of_heard : part b heard_place heard_size ≡ word_bytes c.heard
  of_last : part b (view_place last_in) (view_size nodes) ≡ view_bytes nodes c.last
  of_atmax : part b (view_place atmax_in) (view_size nodes) ≡ view_bytes nodes c.atmax
  of_atround : part b (view_place atround_in) (view_size nodes) ≡ view_bytes nodes c.atround
  of_kept : part b (view_place kept_in) (view_size nodes) ≡ view_bytes nodes c.keptview

runs : (c : Node) → length c.heard ≡ cells → Runs (record_bytes c) c
unfolding record_bytes all
runs c z =
    let F = head_bytes (head_in c) in
    let H = word_bytes c.heard in
    let A = view_bytes nodes c.last in
    let B = view_bytes nodes c.atmax in
    let C = view_bytes nodes c.atround in
    let D = view_bytes nodes c.keptview in
    let f : length F ≡ heard_place = omega (arith, head-end (head_in c)) in
    let h : length H ≡ heard_size = length-word_bytes c.heard ∙ ap (λ k. word_size * k) z in
    let a : length A ≡ view_size nodes = length-view_bytes nodes c.last in
    let b : length B ≡ view_size nodes = length-view_bytes nodes c.atmax in
    let l : length C ≡ view_size nodes = length-view_bytes nodes c.atround in
    let d : length D ≡ view_size nodes = length-view_bytes nodes c.keptview in
    record {
      of_head = subst (λ t. HeadRuns t (head_in c)) (sym (append_assoc F H (A ++ B ++ C ++ D)))
          (head-runs (head_in c) (H ++ (A ++ B ++ C ++ D)));
      of_heard = run-H F H A B C D f h a b l d;
      of_last = run-A F H A B C D f h a b l d;
      of_atmax = run-B F H A B C D f h a b l d;
      of_atround = run-C F H A B C D f h a b l d;
      of_kept = run-D F H A B C D f h a b l d;
    }

module _ (b : List ℕ) (c : Node) (z : SizedNode c) (r : Runs b c) where
  view-of : (v : View) (i : ℕ) → Sized v → part b (view_place i) (view_size nodes) ≡ view_bytes nodes v → view_in b i ≡
      v
  view-of v i s e = ap (view_of nodes) e ∙ view-at v s

  heard-of : words cells b heard_place ≡ c.heard
  heard-of = sym (words_of cells b heard_place heard_size 0 (omega arith)) ∙ ap (λ s. words cells s 0) r.of_heard
      ∙ words-at c.heard cells z.heard

  read_back : record_of b ≡ c
  unfolding record_of
  read_back =
      let n = number b (head_in c) r.of_head in
      rw (
        n 0 (omega arith),
        n 1 (omega arith),
        n 2 (omega arith),
        n 3 (omega arith),
        n 4 (omega arith),
        n 5 (omega arith),
        wait-of b (head_in c) r.of_head,
        heard-of,
        view-of c.last last_in z.last r.of_last,
        view-of c.atmax atmax_in z.atmax r.of_atmax,
        view-of c.atround atround_in z.atround r.of_atround,
        view-of c.keptview kept_in z.keptview r.of_kept,
      ) refl

module _ (c : Node) (z : SizedNode c) where
  pub record-back : record_of (record_bytes c) ≡ c
  record-back = read_back (record_bytes c) c z (runs c z.heard)

  pub record-known : codes_known (record_bytes c) ≡ true
  record-known = known (record_bytes c) (head_in c) (runs c z.heard).of_head

-- The tables of every record in bytes have their sizes.
pub sized-view : (n : ℕ) (b : List ℕ) → n ≤ nodes → Sized (view_of n b)
sized-view n b h = record { tags = (view-absent n b h).tags-length; reports = (view-absent n b h).reports-length }

pub sized_of : (r : List ℕ) → SizedNode (record_of r)
unfolding record_of
sized_of r =
    record {
      heard = length-tab cells (λ i. word r (heard_place + word_size * i));
      last = sized-view nodes (part r (view_place last_in) (view_size nodes)) (omega arith);
      atmax = sized-view nodes (part r (view_place atmax_in) (view_size nodes)) (omega arith);
      atround = sized-view nodes (part r (view_place atround_in) (view_size nodes)) (omega arith);
      keptview = sized-view nodes (part r (view_place kept_in) (view_size nodes)) (omega arith);
    }
