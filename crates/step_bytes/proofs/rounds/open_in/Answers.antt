-- `step_bytes::rounds::open_in` meets its contract.
use borrow.Author.Rules.{rules}
use mathlib.Core.Path.{refl, ap, ◌∙◌}
use Prim.Native.Nat.{ℕ, ◌+◌}
use Rattle.octets.specs.Bytes.{put}
use Rattle.table.specs.Table.{newest}
use Rattle.record.specs.declared.Wait.TheVariants.{Writing}
use Rattle.step.specs.Move.{opened}
use Rattle.region.specs.Record.{view_in, record_of, last_in, atmax_in, atround_in, view_place}
use Rattle.region.specs.declared.head.Head.{Head}
use Rattle.step_bytes.proofs.Turned.{turned-bytes}
use Rattle.step_bytes.proofs.rounds.open_in.Goals as goal

pub overflow_add-request : goal.overflow_add-request
unfolding record_of
overflow_add-request c = let e = ap (λ (h : Head). h.request) c.head_of-h.ensures in search rules

pub returns : goal.returns
unfolding record_of opened
returns c =
    let a = c.args in
    let r = a.r.now in
    let wait = Writing a.k a.i a.t 0 in
    let held = c.put_bytes.ensures
    ∙ ap (put r (view_place atround_in)) c.newest_in.ensures in
    turned-bytes r (λ i. (c.slice_known-1.given i).fits) c.requires.0
    (λ (q : ℕ). q + 1) wait
    (newest a.t (view_in r last_in) (view_in r atmax_in)) c.head_of-h.ensures held
    refl c.save_head.ensures
