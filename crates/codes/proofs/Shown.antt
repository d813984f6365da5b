-- The lent view where a scan ends is zeros past n: the claims of specs/Shown.
use Prim.Native.Nat.{ℕ, ◌-◌, ◌*◌, ◌≤◌}
use mathlib.Core.Path.{◌≡◌, refl, sym, ap, ◌∙◌}
use mathlib.Core.List.{List}
use native.Mathlib.Decide.{dec_le}
use native.Mathlib.Omega.{arith}
use lib.ListN.{length, drop, replicate, drop_of_length-le}
use Rattle.octets.specs.Answer.{Answer, returned}
use Rattle.octets.specs.Bytes.{put}
use Rattle.octets.proofs.Put.{put-over}
use Rattle.view.specs.Size.{nodes, entry_size}
use Rattle.view.specs.View.{view_bytes, AbsentPast}
use Rattle.view.specs.declared.View.{View}
use Rattle.view.proofs.First.{absent-bytes, none-absent}
use Rattle.view.proofs.ViewBytes.{length-view_bytes}
use Rattle.step.specs.declared.Ending.{Ending}
use Rattle.step.specs.declared.Ending.TheVariants.{Scan}
use Rattle.step.specs.declared.Rule.{Rule}
use Rattle.step.specs.Told.{Told, told, told_view}
use Rattle.step.proofs.Numbers.{on-pick}
use Rattle.calls.specs.Entry as N
use Rattle.calls.proofs.Shown.{message-absent}
use Rattle.region.specs.Record.{record_of, codes_known}
use Rattle.layout.specs.Layout.{stated}
use Rattle.events.specs.Event.{deliver}
use Rattle.events.proofs.Shown.{deliver-absent}
use Rattle.calls_bytes.specs.Entry.{LentResult, fits, in_bytes, at_record, message}
use Rattle.calls_bytes.specs.Shown.{event_view}
use Rattle.frame_bytes.proofs.Frames.{frames}
use Rattle.codes.specs.Apart.{NodeCall, by-message, by-frame}
use Rattle.codes.proofs.Fitting.{fitting}
use Rattle.codes.specs.Shown as claim

-- a view that has nothing past n, in lent bytes
zeros : (n : ℕ) (v : View) (view : List ℕ) → length view ≡ entry_size * nodes → (n ≤ nodes → AbsentPast n v)
    → drop (entry_size * n) (put view 0 (view_bytes nodes v)) ≡ replicate (entry_size * (nodes - n)) 0
zeros n v view l h =
    ap (drop (entry_size * n)) (put-over view (view_bytes nodes v) (length-view_bytes nodes v ∙ sym l))
    ∙ elim (dec_le n nodes) [
      | yes m ↦ absent-bytes n v (h m)
      | no m ↦
          let z : nodes - n ≡ 0 = omega arith in
          drop_of_length-le (view_bytes nodes v) {i = entry_size * n} (rw (length-view_bytes nodes v) (omega arith))
          ∙ rw z refl
    ]

pub zero-past : claim.ZeroPast
zero-past a c x b view r l e =
    let v = (deliver a c x b).view in
    ap (λ (t : Answer Ending). drop (entry_size * stated b) (event_view (told t v) view)) e
    ∙ zeros (stated b) v view l (deliver-absent a c x b)

-- what a message at a node shows has nothing past the record's n
lent-absent : (r : List ℕ) (s : ℕ) (b out : List ℕ) → (record_of r).n ≤ nodes
    → AbsentPast (record_of r).n (told_view (message r s b out).answer)
unfolding at_record in_bytes
lent-absent r s b out h =
    let P : LentResult → Type 0 = λ e. AbsentPast (record_of r).n (told_view e.answer) in
    let none = none-absent (record_of r).n h in
    on-pick P (fits N.least_output r (length out)) _ _
    (λ e. on-pick P (codes_known r) _ _ (λ e. message-absent (record_of r) s b out h) (λ e. none)) (λ e. none)

-- the lent view after a call that ends a scan, whose view has nothing past n
node-zeros : {e : LentResult} (n : ℕ) (view : List ℕ) (x : Rule) → NodeCall e → length view ≡ entry_size * nodes
    → e.ending ≡ returned (Scan x) → (n ≤ nodes → AbsentPast n (told_view e.answer))
    → drop (entry_size * n) (event_view e.answer view) ≡ replicate (entry_size * (nodes - n)) 0
node-zeros {e} n view x c l q h =
    let v = told_view e.answer in
    let t = (fitting c).told_is ∙ ap (λ (y : Answer Ending). told y v) q in
    ap (λ (y : Told). drop (entry_size * n) (event_view y view)) t ∙ zeros n v view l h

pub node-zero-past : claim.NodeZeroPast
node-zero-past r s b out view x l e =
    node-zeros (record_of r).n view x (by-message r s b out) l e (lent-absent r s b out)

pub frame-zero-past : claim.FrameZeroPast
frame-zero-past r s b out view x l e =
    node-zeros (record_of r).n view x (by-frame r s b out) l e (frames.frame-absent r s b out)
