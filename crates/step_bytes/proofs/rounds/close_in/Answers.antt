-- `step_bytes::rounds::close_in` meets its contract.
use borrow.Author.Rules.{rules}
use mathlib.Core.Path.{refl, ap, ◌∙◌}
use mathlib.Core.List.{List}
use Prim.Native.Nat.{ℕ}
use native.Mathlib.Omega.{arith}
use lib.ListN.{length, replicate}
use Rattle.octets.specs.Bytes.{part, put}
use Rattle.octets.proofs.Lent.{lent_back}
use Rattle.octets.proofs.Put.{length_part}
use Rattle.view.specs.Size.{nodes, view_size}
use Rattle.view.specs.View.{no_view}
use Rattle.region.specs.Record.{atround_in, view_place}
use Rattle.step_bytes.proofs.Turned.{turned-bytes, zeros}
use Rattle.step_bytes.proofs.rounds.close_in.Goals as goal

pub returns : goal.returns
returns c =
    let a = c.args in
    let r = a.r.now in
    let l = c.requires in
    let at = view_place atround_in in
    let len = view_size nodes in
    let absent = zeros (part r at len) (length_part r at len (omega arith)) in
    let held = lent_back r at len (λ (s : List ℕ). replicate (length s) 0) refl (omega arith)
    c.fill.auto.self
    (search rules) ∙ ap (put r at) absent in
    turned-bytes r (λ i. (c.slice_known-1.given i).fits) l (λ (q : ℕ). q) a.w no_view c.head_of-h.ensures held
    refl c.save_head.ensures
