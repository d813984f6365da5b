-- `answers::put_short` meets its contract.
use Prim.Native.Nat.{ℕ, ◌+◌}
use mathlib.Core.Path.{◌≡◌, ◌∙◌}
use mathlib.Core.List.{List}
use native.Mathlib.Omega.{arith}
use lib.ListN.{length, length-append}
use Rattle.octets.proofs.Put.{put_then}
use Rattle.answers.specs.Answer.{start, feed}
use Rattle.answers.proofs.put_short.Goals as goal

pub returns : goal.returns
returns c =
    let a = c.args in
    let o = a.out.now in
    let s : List ℕ = start a.event a.word.now a.x in
    let k = c.put_start-k.result in
    let p = c.put_start-k.ensures in
    let q = c.put_feed.ensures in
    let l : a.at + length s ≡ k = omega (arith, p.1) in
    (put_then o a.at s feed k (omega arith) l p.0 q.0, q.1 ∙ simp length-append (omega (arith, p.1)))
