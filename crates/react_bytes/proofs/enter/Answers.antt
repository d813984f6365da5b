-- `react_bytes::enter` meets its contract.
use mathlib.Core.Path.{ap, ◌∙◌}
use mathlib.Core.List.{List}
use Prim.Native.Nat.{ℕ}
use Rattle.region.specs.Record.{last_in, atmax_in, atround_in}
use Rattle.react_bytes.specs.Handled.{put_where, entered}
use Rattle.react_bytes.proofs.enter.Goals as goal

pub returns : goal.returns
unfolding entered
returns c =
    let a = c.args in
    c.put_where-3.ensures ∙ ap (λ (x : List ℕ). put_where a.round atround_in a.w a.t a.p x)
    (c.put_where-2.ensures ∙ ap (λ (x : List ℕ). put_where a.held atmax_in a.w a.t a.p x)
    (c.put_where.ensures ∙ ap (λ (x : List ℕ). put_where a.fresh last_in a.w a.t a.p x)
    c.put_word.ensures))
