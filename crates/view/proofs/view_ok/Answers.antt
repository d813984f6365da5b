-- `view::view_ok` meets its contract.
use Prim.Native.Nat.{ℕ}
use mathlib.Core.Path.{◌≡◌, sym, ap, ◌∙◌}
use native.Mathlib.Omega.{arith}
use Rattle.octets.specs.Loop.{all_to}
use Rattle.octets.proofs.Loop.{all_to-none, all_to-more, all_to-false}
use Rattle.view.specs.View.{view_ok, entry_ok_at}
use Rattle.view.proofs.view_ok.Goals as goal

pub loop-i-init : goal.loop-i-init
loop-i-init c = all_to-none (entry_ok_at c.args.top c.args.b.now)

pub loop-i-preserved : goal.loop-i-preserved
loop-i-preserved c =
    let a = c.args in
    all_to-more c.loop-i.i (entry_ok_at a.top a.b.now) c.loop-i.invariant
    (sym c.entry_ok.ensures ∙ c.if-not-entry_ok.false)

pub returns-then-not-entry_ok : goal.returns-then-not-entry_ok
unfolding view_ok
returns-then-not-entry_ok c =
    let a = c.args in
    sym (all_to-false a.n (entry_ok_at a.top a.b.now) c.loop-i.i c.loop-i-test.true
    (sym c.entry_ok.ensures ∙ c.if-not-entry_ok.true))

pub returns : goal.returns
unfolding view_ok
returns c =
    let a = c.args in
    let e : c.loop-i.i ≡ a.n = omega arith in
    sym c.loop-i.invariant ∙ ap (λ (k : ℕ). all_to k (entry_ok_at a.top a.b.now)) e
