-- `release::sending::let_forward` meets its contract: after i turns its loop has what the definition has after i, and
-- the slot that it copies from is as it was.
use Prim.Native.Nat.{◌+◌, ◌≤◌}
use native.Mathlib.Omega.{arith}
use mathlib.Core.Path.{refl, sym, ◌∙◌}
use Rattle.octets.proofs.Loop.{up_to-none}
use Rattle.release.proofs.Passed.{one_more, still-there}
use Rattle.release.proofs.sending.let_forward.Goals as goal

pub loop-k-init : goal.loop-k-init
loop-k-init c = (sym (up_to-none _ _), refl)

pub loop-k-preserved : goal.loop-k-preserved
loop-k-preserved c =
    let a = c.args in
    let p = c.requires in
    let k = c.loop-k.k in
    let inv = c.loop-k.invariant in
    let long = c.loop-k.auto.b ∙ p.3 in
    let most : k + 1 ≤ a.n = omega arith in (
      one_more a.n a.c k a.from p.0 p.1 p.2 p.4 most a.b.now c.loop-k.b long inv.1 inv.0 c.forward_at.ensures,
      still-there a.n a.c k a.from p.0 p.1 p.2 p.4 most a.b.now c.loop-k.b long inv.1 c.forward_at.ensures,
    )
