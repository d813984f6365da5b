-- `outgoing::entries::entries_to` meets its contract.
use native.Mathlib.Omega.{arith}
use Prim.Native.Nat.{ℕ, ◌+◌, ◌-◌}
use mathlib.Core.Path.{sym, ap, ap₂, ◌∙◌, ◌≡◌}
use lib.ListN.{take, length}
use Rattle.step.specs.Step.{listed}
use Rattle.outgoing.specs.Entries.{entries_of, go_to}
use Rattle.outgoing.proofs.Laws.{three-to}
use Rattle.outgoing.proofs.entries.entries_to.Goals as goal

pub returns : goal.returns
returns c =
    let n = c.args.n in
    let a = c.args.a in
    let b = c.args.b in
    let v = c.args.o.view in
    let x = entries_of n a v (listed c.args.o.handler) in
    let y = entries_of n a v (listed c.args.o.reading) in
    let z = entries_of n a v (listed c.args.o.comparing) in
    let second : c.left_past-second.result ≡ c.args.left - length
    x = c.left_past-second.ensures a v in
    let third : c.left_past-third.result ≡ c.args.left - length x - length y =
    c.left_past-third.ensures a v ∙ ap (λ (k : ℕ). k - length y) second in (
      omega (arith, c.sent_to.ensures.0, c.sent_to-2.ensures.0, c.sent_to-3.ensures.0),
      ap₂ (λ (s t : ℕ). s + t) (ap₂ (λ (s t : ℕ). s + t) (c.sent_to.ensures.1 v)
          (c.sent_to-2.ensures.1 v ∙ ap (λ (k : ℕ). go_to b (take k y)) second))
          (c.sent_to-3.ensures.1 v ∙ ap (λ (k : ℕ). go_to b (take k z)) third)
          ∙ sym (three-to b c.args.left n a c.args.o),
    )
