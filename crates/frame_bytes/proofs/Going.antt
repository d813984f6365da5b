-- A frame is refused with 9 where one of its messages is late in turn, and else accepted; two reads at a fresh record
-- are. Assumes nothing.
use Prim.Native.Nat.{ℕ, ◌≤◌}
use mathlib.Core.Path.{◌≡◌, refl, sym, ap, ap₂, ◌∙◌}
use mathlib.Core.Bool.{true, false}
use mathlib.Core.List.{List, [], ◌∷◌, ◌++◌, append-nil}
use lib.Dec.{leb}
use lib.ListN.{length}
use borrow.Author.Tests.{eq-eqb, le-leb}
use Rattle.octets.specs.Answer.{returned, refused}
use Rattle.octets.specs.Test.{both}
use Rattle.octets.proofs.Test.{both_left, both_true}
use Rattle.view.specs.Size.{is_size}
use Rattle.view.specs.View.{view_of}
use Rattle.wire.specs.Codec.{decode, view_part}
use Rattle.wire.specs.Layout.{encode, allowed}
use Rattle.wire.specs.declared.Message.TheVariants.{Read}
use Rattle.wire.proofs.RoundTrip.{read_back}
use Rattle.table.specs.Loop.{either}
use Rattle.table.specs.Quorum.{tolerates, can_be}
use Rattle.record.specs.Usable.{sizes_within}
use Rattle.record.specs.declared.Node.{Node}
use Rattle.step.specs.React.{react}
use Rattle.step.specs.declared.Ending.{Ending}
use Rattle.step.proofs.Judged.{Alike, alike-stale, alike-step}
use Rattle.calls.specs.Entry as N
use Rattle.region.specs.Record.{record_size, record_of}
use Rattle.calls_bytes.specs.Entry.{LentResult, fresh}
use Rattle.calls_bytes.specs.Frame.{frame_output, packed, is_whole, or_refused, one_by_one, frame}
use Rattle.calls_bytes.specs.Walk.{Piece, AllRead, walk}
use Rattle.calls_bytes.proofs.Claims.{packing}
use Rattle.node_bytes.proofs.Left.{left}
use Rattle.frame_bytes.specs.Frames.{Readable, step_on, late_on}
use Rattle.frame_bytes.specs.Judged.{any_stale}
use Rattle.frame_bytes.proofs.Judging.{judged-free, judged-late}

-- to judge on a record that the handlers alone have changed is to judge on the one that the steps leave
late-alike : (n s : ℕ) (ms : List Piece) (c d : Node) → Alike c d → late_on s c ms ≡ any_stale n s d ms
unfolding late_on any_stale
late-alike n s [] c d a = refl
late-alike n s (m ∷ ms) c d a =
    ap₂ either (alike-stale c d s m.message a)
    (late-alike n s ms (step_on s c m).node (react d s m.message (view_of n (view_part n m.bytes))).node
    (alike-step c.f c d s m.message (N.beside c.n (view_part c.n m.bytes) m.message)
    (view_of n (view_part n m.bytes)) a))

module _ (r : List ℕ) (s : ℕ) (b out : List ℕ) (h : Readable r s b out) where
  abbrev n : ℕ
  n = (record_of r).n

  late_is : late_on s (record_of r) (walk n b) ≡ any_stale n s (record_of r) (walk n b)
  late_is = late-alike n s (walk n b) (record_of r) (record_of r) (record { heard = refl; last = refl; maxtag = refl })

  -- what its messages in turn leave, or the refusal of one of them
  pub settles : frame r s b out ≡ or_refused r out (one_by_one r s b out) (one_by_one r s b out).ending
  unfolding frame
  settles = rw (h.fit, h.can-use, h.sender, h.sized, h.whole) refl

  pub goes : late_on s (record_of r) (walk n b) ≡ false → (x : Ending) × ((frame r s b out).ending ≡ returned x)
  goes g =
      let a = judged-free r s b out h (sym late_is ∙ g) in
      let e = a.there.stand.ends in
      (a.there.kind, ap (λ (z : LentResult). z.ending) (settles ∙ ap (or_refused r out (one_by_one r s b out)) e) ∙ e)

  pub is-late : late_on s (record_of r) (walk n b) ≡ true → (frame r s b out).ending ≡ refused 9
  is-late g =
      ap (λ (z : LentResult). z.ending)
      (settles ∙ ap (or_refused r out (one_by_one r s b out)) (judged-late r s b out h (sym late_is ∙ g)))

-- ---- two reads at a fresh record

abbrev read : Piece
read = record { message = Read 1; bytes = encode (Read 1) [] }

module _ (n f own s : ℕ) (r out : List ℕ) (sizes : sizes_within n f own ≡ true)
    (sender : both (leb 1 s) (leb s n) ≡ true) (long : length r ≡ record_size) (room : frame_output ≤ length out) where
  abbrev b : List ℕ
  b = encode (Read 1) [] ++ encode (Read 1) []

  abbrev made : List ℕ
  made = (fresh n f own r).bytes

  size : is_size n ≡ true
  size = both_left (is_size n) (tolerates n f) (both_left (can_be n f) (both (leb 1 own) (leb own n)) sizes)

  reads : AllRead n (read ∷ read ∷ [])
  unfolding allowed
  reads = let e : decode n (encode (Read 1) []) ≡ returned (Read 1) = read_back n (Read 1) [] size refl in (e, (e, tt))

  packed-is : packed (read ∷ read ∷ []) ≡ b
  packed-is = ap (λ (z : List ℕ). encode (Read 1) [] ++ z) (append-nil (encode (Read 1) []))

  walk_is : walk n b ≡ read ∷ read ∷ []
  walk_is = ap (walk n) (sym packed-is) ∙ (packing.packs n (read ∷ read ∷ []) reads).0

  whole_is : is_whole n b ≡ true
  whole_is = ap (is_whole n) (sym packed-is) ∙ (packing.packs n (read ∷ read ∷ []) reads).1

  pub fresh-goes : (x : Ending) × ((frame made s b out).ending ≡ returned x)
  unfolding late_on encode
  fresh-goes =
      let h = (left.fresh-left n f own r sizes long).1 in
      let e : (record_of made).n ≡ n = ap (λ (c : Node). c.n) h.same in
      goes made s b out
      (record {
        fit = both_true (eq-eqb (length made) record_size h.long) (le-leb frame_output (length out) room);
        can-use = both_true h.known h.can-step;
        sender = ap (λ (j : ℕ). both (leb 1 s) (leb s j)) e ∙ sender;
        sized = refl;
        whole = ap (λ (j : ℕ). is_whole j b) e ∙ whole_is;
      })
      (ap (λ (j : ℕ). late_on s (record_of made) (walk j b)) e ∙ ap (late_on s (record_of made)) walk_is)
