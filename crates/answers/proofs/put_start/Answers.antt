-- `answers::put_start` meets its contract.
use Prim.Native.Nat.{ℕ, ◌+◌}
use mathlib.Core.Path.{◌≡◌, sym, ◌∙◌}
use mathlib.Core.List.{List, ◌++◌}
use native.Mathlib.Omega.{arith}
use lib.ListN.{length, length-append}
use Rattle.octets.proofs.Put.{put_then}
use Rattle.digits.specs.Decimal.{decimal}
use Rattle.answers.specs.Answer.{start}
use Rattle.answers.proofs.put_start.Goals as goal

pub returns : goal.returns
unfolding start
returns c =
    let a = c.args in
    let o = a.out.now in
    let w = a.word.now in
    let d : List ℕ = decimal a.event in
    let k = c.put_number-k.result in
    let p = c.put_number-k.ensures in
    let q = c.put_number.ensures in
    let l : a.at + length (d ++ w) ≡ k + length w = simp length-append (omega (arith, p.1)) in
    let n : a.at + length (d ++ w ++ decimal a.x) ≡ k + length w + length (decimal a.x) = simp length-append
    (omega
    (arith, p.1)) in (
      put_then o a.at (d ++ w) (decimal a.x) (k + length w) (omega arith) l
          (put_then o a.at d w k (omega arith) (sym p.1) p.0
          c.put_bytes.ensures) q.0,
      q.1 ∙ sym n,
      omega (
        arith,
        p.2,
        q.2,
        c.requires.0,
      ),
    )
