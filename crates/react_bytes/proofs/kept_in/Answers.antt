-- `react_bytes::kept_in` meets its contract.
use mathlib.Core.Path.{◌≡◌, sym, ap, ap₂, ◌∙◌}
use Prim.Native.Nat.{ℕ}
use mathlib.Core.List.{List}
use mathlib.Core.Bool.{true, false}
use lib.Dec.{ltb}
use borrow.Author.Tests.{lt-ltb, le-ltb}
use Rattle.octets.specs.Bytes.{put}
use Rattle.octets.specs.Word.{word}
use Rattle.view.specs.Size.{nodes}
use Rattle.view.specs.View.{view_bytes, view_of}
use Rattle.view.specs.declared.View.{View}
use Rattle.record.specs.Record.{with_wait as keep_wait}
use Rattle.record.specs.declared.Wait.{Wait}
use Rattle.region.specs.Record.{record_of, record_bytes, n_place, kept_place, kept_in, view_place, head_bytes}
use Rattle.region.specs.Record.{with_kept}
use Rattle.region.specs.declared.head.Head.{Head}
use Rattle.react_bytes.proofs.Handling.{kept-bytes, kept_same}
use Rattle.react_bytes.proofs.kept_in.Goals as goal

pub returns-then-get_word-t : goal.returns-then-get_word-t
returns-then-get_word-t c =
    let a = c.args in
    let r = a.r.now in
    let head = c.head_of-h.ensures in
    let e : ltb (word r kept_place) a.t ≡ true =
    sym (ap (λ (x : ℕ). ltb x a.t) c.get_word.ensures) ∙ lt-ltb _ _ c.if-get_word-t.true in
    c.save_head.ensures ∙ ap₂ (λ (x : List ℕ) (h : Head). put x n_place (head_bytes h))
    (c.save_view.ensures ∙ ap (λ (v : View). put r (view_place kept_in) (view_bytes nodes v)) c.read_view.ensures)
    (ap (λ (h : Head). with_kept h a.t) head)
    ∙ kept-bytes r (λ i. (c.slice_known-1.given i).fits) c.requires.0 a.t (view_of a.n a.v.now) true e

pub returns-else-get_word-t : goal.returns-else-get_word-t
returns-else-get_word-t c =
    let a = c.args in
    let r = a.r.now in
    let e : ltb (word r kept_place) a.t ≡ false =
    sym (ap (λ (x : ℕ). ltb x a.t) c.get_word.ensures) ∙ le-ltb _ _ c.if-get_word-t.false in
    c.waiting_in.ensures ∙ ap (λ (w : Wait). record_bytes (keep_wait (record_of r) w)) c.load_wait.ensures
    ∙ kept_same r (λ i. (c.slice_known-1.given i).fits) c.requires.0 a.t (view_of a.n a.v.now) e
