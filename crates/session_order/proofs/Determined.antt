-- Lines and what is seen of their events tell what is printed.
use Prim.Native.Nat.{ℕ}
use mathlib.Core.Path.{◌≡◌, refl, ap, ap₂}
use mathlib.Core.List.{List, ◌++◌}
use Rattle.std.specs.Prelude.{Option}
use Rattle.lines.specs.declared.Command.{Command}
use Rattle.history.specs.Event as H
use Rattle.history.specs.Trace.{Trace}
use Rattle.session_progress.specs.Progress.{bad_line}
use Rattle.session_order.specs.Lines.{Shows, silence, done, scan, spent, refusal, Lines, none, bad, event}
use Rattle.session_order.specs.Lines.{Determined}

shown-one : {e c : ℕ} {a : H.Response} {u v : List ℕ} → Shows e c a u → Shows e c a v → u ≡ v
shown-one silence silence = refl
shown-one (done r w) (done _ _) = refl
shown-one (scan r w) (scan _ _) = refl
shown-one spent spent = refl
shown-one (refusal k) (refusal _) = refl

one : {e : ℕ} {ls : List (Option Command)} {tr : Trace} {o u : List ℕ} → Lines e ls tr o → Lines e ls tr u → o ≡ u
one none none = refl
one (bad {e} p) (bad q) = ap (λ (o : List ℕ). bad_line e ++ o) (one p q)
one (event _ _ _ s p) (event _ _ _ t q) = ap₂ (λ (u o : List ℕ). u ++ o) (shown-one s t) (one p q)

pub determined : Determined
determined e ls tr o u = one
