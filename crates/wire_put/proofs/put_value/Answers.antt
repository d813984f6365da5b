-- `wire_put::put_value` meets its contract.
use mathlib.Core.Path.{refl, ap, ◌∙◌}
use Prim.Native.Nat.{ℕ, ◌≤◌}
use mathlib.Core.List.{List, [], ◌∷◌, ◌++◌}
use native.Mathlib.Omega.{arith}
use lib.ListN.{length}
use Rattle.octets.specs.Bytes.{put}
use Rattle.octets.proofs.Put.{put_then}
use Rattle.view.specs.Report.{report_bytes}
use Rattle.wire.specs.Layout.{kind, tag, second_head, third_at, value_size}
use Rattle.wire_put.proofs.put_value.Goals as goal

pub returns : goal.returns
returns c =
    let a = c.args in
    let o = a.out.now in
    let room : value_size ≤ length o = c.requires in
    let u = kind 6 ++ tag a.t in
    let h : List ℕ = 4 ∷ 0 ∷ 1 ∷ a.w ∷ 5 ∷ 0 ∷ 8 ∷ [] in
    let z = c.put_bytes.new.b in
    let e = put_then o 0 (u ++ h) (report_bytes a.p) third_at (omega arith) refl
    (put_then o 0 u h second_head (omega arith) refl c.put_one.ensures.1 c.put_bytes.ensures)
    (c.put_bytes-2.ensures ∙ ap (put z third_at) c.report_bytes.ensures) in
    (refl, e)
