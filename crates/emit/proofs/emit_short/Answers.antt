-- `emit::emit_short` meets its contract. Assumes nothing.
use mathlib.Core.Path.{ap}
use mathlib.Core.List.{[]}
use Prim.Native.Nat.{ℕ, ◌+◌}
use Rattle.wire.specs.Layout.{encode}
use Rattle.emit.proofs.Runs.{rest_put}
use Rattle.emit.proofs.emit_short.Goals as goal

pub returns : goal.returns
returns c =
    let a = c.args in (
      ap (λ (k : ℕ). a.at + k) c.short.ensures.0,
      rest_put a.out.now (encode a.m []) a.at c.requires.1 c.short.new.out c.short.ensures.1,
    )
