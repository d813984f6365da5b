-- `octets::put_bytes` meets its contract.
use Prim.Native.Nat.{◌+◌, ℕ}
use mathlib.Core.Path.{◌≡◌, refl, ap, ◌∙◌}
use native.Mathlib.Omega.{arith}
use borrow.Author.Rules.{rules}
use lib.ListN.{length, take, get_or, length-set, set}
use Rattle.octets.specs.Bytes.{put}
use mathlib.Core.List.{List}
use Rattle.octets.proofs.Lent.{run_none, run_more, run-all}
use Rattle.octets.proofs.put_bytes.Goals as goal

pub loop-i-init : goal.loop-i-init
loop-i-init c = (search rules, run_none c.args.b.now c.args.at c.args.s.now, refl)

pub loop-i-preserved : goal.loop-i-preserved
loop-i-preserved c =
    let a = c.args in
    let i = c.loop-i.i in (
      search rules,
      ap (λ (t : List ℕ). set t (a.at + i) (get_or a.s.now i 0)) c.loop-i.invariant.1
          ∙ run_more a.b.now a.at a.s.now i (omega arith) (omega arith),
      simp length-set c.loop-i.invariant.2,
    )

pub returns : goal.returns
returns c =
    let a = c.args in
    let e : c.loop-i.i ≡ length a.s.now = omega arith in
    c.loop-i.invariant.1 ∙ ap (λ (k : ℕ). put a.b.now a.at (take k a.s.now)) e
    ∙ run-all a.b.now a.at a.s.now
