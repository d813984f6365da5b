-- `react_bytes::raised_in` meets its contract.
use mathlib.Core.Path.{◌≡◌, sym, ap, ap₂, ◌∙◌}
use Prim.Native.Nat.{ℕ}
use mathlib.Core.List.{List}
use mathlib.Core.Bool.{true, false}
use lib.Dec.{ltb}
use borrow.Author.Tests.{lt-ltb, le-ltb}
use Rattle.octets.specs.Bytes.{put}
use Rattle.octets.specs.Word.{word}
use Rattle.record.specs.Record.{with_wait as keep_wait}
use Rattle.record.specs.declared.Wait.{Wait}
use Rattle.region.specs.Record.{record_of, record_bytes, n_place, maxtag_place, atmax_in, view_place, head_bytes}
use Rattle.region.specs.Record.{with_maxtag}
use Rattle.region.specs.declared.head.Head.{Head}
use Rattle.react_bytes.proofs.Handling.{raised-bytes, raised-same}
use Rattle.react_bytes.proofs.raised_in.Goals as goal

pub returns-then-grows : goal.returns-then-grows
unfolding record_of
returns-then-grows c =
    let a = c.args in
    let r = a.r.now in
    let head = c.head_of-h.ensures in
    let e : ltb (word r maxtag_place) a.t ≡ true =
    sym (ap (λ (x : ℕ). ltb x a.t) c.get_word.ensures) ∙ lt-ltb _ _ c.if-grows.true in (
      ap (λ (x : ℕ). ltb x a.t) c.get_word.ensures,
      c.save_head.ensures ∙ ap₂ (λ (x : List ℕ) (h : Head). put x n_place (head_bytes h))
          (c.put_bytes.ensures ∙ ap (put r (view_place atmax_in)) c.newest_in.ensures)
          (ap (λ (h : Head). with_maxtag h a.t) head)
          ∙ raised-bytes r (λ i. (c.slice_known-1.given i).fits) c.requires a.t true e,
    )

pub returns-else-grows : goal.returns-else-grows
unfolding record_of
returns-else-grows c =
    let a = c.args in
    let r = a.r.now in
    let e : ltb (word r maxtag_place) a.t ≡ false =
    sym (ap (λ (x : ℕ). ltb x a.t) c.get_word.ensures) ∙ le-ltb _ _ c.if-grows.false in (
      ap (λ (x : ℕ). ltb x a.t) c.get_word.ensures,
      c.waiting_in.ensures ∙ ap (λ (w : Wait). record_bytes (keep_wait (record_of r) w)) c.load_wait.ensures
          ∙ raised-same r (λ i. (c.slice_known-1.given i).fits) c.requires a.t e,
    )
