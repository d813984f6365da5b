-- A value that stands twice in a frame, at a fresh record: its bytes are sent once. Assumes nothing.
use Prim.Native.Nat.{ℕ, ◌≤◌}
use mathlib.Core.Path.{◌≡◌, refl, sym, ap, ap₂, ◌∙◌}
use mathlib.Core.Bool.{Bool, true, false}
use mathlib.Core.List.{List, [], ◌∷◌, ◌++◌, append-nil}
use native.Mathlib.Omega.{arith}
use lib.Dec.{leb}
use lib.ListN.{length, take, replicate, length-replicate}
use lib.Seq.{get_or-set_same}
use borrow.Author.Tests.{leb-true, le-leb, le-ltb, eq-eqb}
use Rattle.octets.specs.Answer.{returned}
use Rattle.octets.specs.Test.{pick, both}
use Rattle.octets.proofs.Test.{both_left, both_right, both_true}
use Rattle.view.specs.Report.{no_report}
use Rattle.view.specs.Size.{nodes, is_size}
use Rattle.view.specs.View.{no_view}
use Rattle.view.specs.declared.Report.{Report}
use Rattle.wire.specs.Codec.{decode}
use Rattle.wire.specs.Layout.{encode, allowed, is_tag}
use Rattle.wire.specs.declared.Message.TheVariants.{Value}
use Rattle.wire.proofs.Numbers.{size-most}
use Rattle.wire.proofs.RoundTrip.{read_back}
use Rattle.table.specs.Loop.{either}
use Rattle.table.specs.Quorum.{tolerates, can_be}
use Rattle.table.specs.Table.{tag_of, cells, cell, heard_of}
use Rattle.table.proofs.Entries.{put_entry-tag}
use Rattle.record.specs.Record.{blank}
use Rattle.record.specs.Usable.{sizes_within, is_open}
use Rattle.record.specs.declared.Node.{Node}
use Rattle.step.specs.declared.Ending.{Ending}
use Rattle.step.specs.declared.Step.{Step}
use Rattle.step.specs.React.{is_new, received, react}
use Rattle.step.specs.Stale.{stale_message}
use Rattle.calls.specs.Bytes.{out_bytes}
use Rattle.region.specs.Record.{record_size, record_of}
use Rattle.calls_bytes.specs.Entry.{fresh}
use Rattle.calls_bytes.specs.Frame.{frame_output, packed, is_whole, frame}
use Rattle.calls_bytes.specs.Walk.{Piece, AllRead, walk}
use Rattle.calls_bytes.proofs.Claims.{packing}
use Rattle.calls_bytes.proofs.Handled.{step-sends, rests, alone, new, timely}
use Rattle.node_bytes.proofs.Left.{left}
use Rattle.frame_bytes.specs.Frames.{step_on, steps_on, late_on, bytes_sent}
use Rattle.frame_bytes.proofs.Frames.{frames}

module _ (n f own s t w : ℕ) (p : Report) (small : n ≤ nodes) (sender : both (leb 1 s) (leb s n) ≡ true)
    (good : allowed n (Value t w p) [] ≡ true) where
  abbrev first : Node
  first = blank n f own

  -- the record that it leaves
  abbrev second : Node
  second = received first s w t p

  writer : (1 ≤ w) × (w ≤ n)
  unfolding allowed
  writer =
      let h = both_right (both (leb 1 t) (is_tag t)) (both (leb 1 w) (leb w n)) good in
      (leb-true 1 w (both_left (leb 1 w) (leb w n) h), leb-true w n (both_right (leb 1 w) (leb w n) h))

  last-is : tag_of second.last w ≡ t
  unfolding received
  last-is =
      rw (new n f own s t w p good)
      (put_entry-tag no_view w t p writer.0 (let q = writer.1 in omega (arith, q, small))
      (length-replicate {A = ℕ} nodes 0, length-replicate nodes no_report))

  heard-is : heard_of second.heard s w ≡ t
  unfolding received
  heard-is =
      let a = leb-true 1 s (both_left (leb 1 s) (leb s n) sender) in
      let b = leb-true s n (both_right (leb 1 s) (leb s n) sender) in
      let l = length-replicate {A = ℕ} cells 0 in
      let q = writer in
      get_or-set_same (replicate cells 0) (cell s w) t 0 (omega (arith, a, b, l, q.0, q.1, small))

  again-timely : stale_message second s (Value t w p) ≡ false
  again-timely = rw (last-is, heard-is, le-ltb t t (omega arith)) refl

  again-old : is_new second w t ≡ false
  again-old = rw (last-is, le-ltb t t (omega arith)) refl

  abbrev value : Piece
  value = record { message = Value t w p; bytes = encode (Value t w p) [] }

  abbrev twice : List Piece
  twice = value ∷ value ∷ []

  left_is : (step_on s first value).node ≡ second
  unfolding react
  left_is = ap (λ (z : Step). z.node) (rests first s t w p refl)

  none-late : late_on s first twice ≡ false
  unfolding late_on
  none-late =
      ap₂ either (timely n f own s t w p good)
      (ap (λ (d : Node). either (stale_message d s (Value t w p)) false) left_is ∙ rw again-timely refl)

  module _ (size : is_size n ≡ true) where
    reads : AllRead n twice
    reads = let e = read_back n (Value t w p) [] size good in (e, (e, tt))

    one-sends : (c : Node) → c.n ≡ n → is_open c.wait ≡ false
        → out_bytes n (step_on s c value).outbox ≡ pick (is_new c w t) value.bytes []
    one-sends c e h =
        ap (λ (j : ℕ). out_bytes j (step_on s c value).outbox) (sym e)
        ∙ step-sends c s value.bytes t w p (ap (λ (j : ℕ). decode j value.bytes) e ∙ reads.0)
        ∙ alone c s t w p h value.bytes

    sent-once : bytes_sent n (steps_on s first twice) ≡ value.bytes
    unfolding steps_on received
    sent-once =
        let one = one-sends first refl refl ∙ ap (λ (z : Bool). pick z value.bytes []) (new n f own s t w p good) in
        let two =
        ap (λ (d : Node). out_bytes n (step_on s d value).outbox) left_is ∙ one-sends second refl refl
        ∙ ap (λ (z : Bool). pick z value.bytes []) again-old in
        ap₂ (λ (x y : List ℕ). x ++ (y ++ [])) one two ∙ append-nil value.bytes

module _ (n f own s t w : ℕ) (p : Report) (r out : List ℕ) (sizes : sizes_within n f own ≡ true)
    (sender : both (leb 1 s) (leb s n) ≡ true) (good : allowed n (Value t w p) [] ≡ true)
    (long : length r ≡ record_size)
    (room : frame_output ≤ length out) where
  abbrev v : List ℕ
  v = encode (Value t w p) []

  abbrev made : List ℕ
  made = (fresh n f own r).bytes

  size : is_size n ≡ true
  size = both_left (is_size n) (tolerates n f) (both_left (can_be n f) (both (leb 1 own) (leb own n)) sizes)

  both-packed : packed (twice n f own s t w p (size-most n size) sender good) ≡ v ++ v
  both-packed = ap (λ (z : List ℕ). v ++ z) (append-nil v)

  pub once : (x : Ending) × ((frame made s (v ++ v) out).ending ≡ returned x)
      × (take (frame made s (v ++ v) out).length (frame made s (v ++ v) out).out ≡ v)
  unfolding encode
  once =
      let k = size-most n size in
      let vs = twice n f own s t w p k sender good in
      let a = packing.packs n vs (reads n f own s t w p k sender good size) in
      let h = (left.fresh-left n f own r sizes long).1 in
      let e : (record_of made).n ≡ n = ap (λ (c : Node). c.n) h.same in
      let met : walk (record_of made).n (v ++ v) ≡ vs =
      ap (λ (j : ℕ). walk j (v ++ v)) e ∙ ap (walk n) (sym both-packed) ∙ a.0 in
      let (x, q) =
      frames.frame-goes made s (v ++ v) out
      (record {
        fit = both_true (eq-eqb (length made) record_size h.long) (le-leb frame_output (length out) room);
        can-use = both_true h.known h.can-step;
        sender = ap (λ (j : ℕ). both (leb 1 s) (leb s j)) e ∙ sender;
        sized = refl;
        whole = ap (λ (j : ℕ). is_whole j (v ++ v)) e ∙ ap (is_whole n) (sym both-packed) ∙ a.1;
      })
      (ap₂ (late_on s) h.same met ∙ none-late n f own s t w p k sender good) in (
        x,
        q,
        (frames.frame-does made s (v ++ v) out x q).sent
            ∙ ap₂ (λ (c : Node) (z : List Piece). bytes_sent c.n (steps_on s c z)) h.same met
            ∙ sent-once n f own s t w p k sender good size,
      )
