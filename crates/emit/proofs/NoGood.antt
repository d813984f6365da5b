-- Messages none of which is good: their bytes and their room are the same with every view.
use mathlib.Core.Path.{◌≡◌, refl, sym, ap, ap₂, ◌∙◌, subst}
use mathlib.Core.Bool.{Bool, true, false}
use mathlib.Core.List.{List, [], ◌∷◌, ◌++◌}
use Prim.Native.Nat.{ℕ, ◌+◌, ◌≤◌}
use native.Mathlib.Omega.{arith}
use lib.ListN.{length}
use Rattle.table.specs.Loop.{either}
use Rattle.wire.specs.Codec.{is_good}
use Rattle.wire.specs.declared.Message.{Message}
use Rattle.wire_put.proofs.Allowed.{any-view}
use Rattle.step.specs.Step.{listed, messages}
use Rattle.step.specs.declared.Outbox.{Outbox}
use Rattle.calls.specs.Bytes.{run}
use Rattle.emit.specs.Good.{any_good}
use Rattle.emit.specs.Room.{AllAllowed, Room}

pub either-none : (a b : Bool) → either a b ≡ false → (a ≡ false) × (b ≡ false)
either-none false b h = (refl, h)
either-none true b h = absurd (let z : ◌≡◌ {A = ℕ} 0 1 = cc in omega arith)

pub either-false : (a : Bool) → either a false ≡ a
either-false true = refl
either-false false = refl

good-append : (a b : List Message) → any_good (a ++ b) ≡ either (any_good a) (any_good b)
good-append [] b = refl
good-append (m ∷ a) b = ap (either (is_good m)) (good-append a b)
    ∙ sym (either-assoc (is_good m) (any_good a) (any_good b))
  where
    either-assoc : (x y z : Bool) → either (either x y) z ≡ either x (either y z)
    either-assoc true y z = refl
    either-assoc false y z = refl

pub no-good : (o : Outbox)
    → either (either (any_good (listed o.handler)) (any_good (listed o.reading))) (any_good (listed o.comparing))
    ≡ false → any_good (messages o) ≡ false
no-good o h =
    let a = listed o.handler in
    let b = listed o.reading in
    let d = listed o.comparing in
    good-append (a ++ b) d ∙ ap (λ (x : Bool). either x (any_good d)) (good-append a b) ∙ h

module _ (n : ℕ) (v w : List ℕ) where
  pub runs-alike : (ms : List Message) → any_good ms ≡ false → run v ms ≡ run w ms
  unfolding run
  runs-alike [] h = refl
  runs-alike (m ∷ ms) h =
      let e = either-none (is_good m) (any_good ms) h in
      ap₂ (λ (x y : List ℕ). x ++ y) (any-view n m v w e.0).0 (runs-alike ms e.1)

  allowed-alike : (ms : List Message) → any_good ms ≡ false → AllAllowed n v ms → AllAllowed n w ms
  allowed-alike [] h a = tt
  allowed-alike (m ∷ ms) h a =
      let e = either-none (is_good m) (any_good ms) h in
      (sym (any-view n m v w e.0).1 ∙ a.0, allowed-alike ms e.1 a.1)

  pub room-alike : (ms : List Message) (at room : ℕ) → any_good ms ≡ false → Room n v ms at room → Room n w ms at room
  room-alike ms at room h r =
      record {
        sized = r.sized;
        fit = allowed-alike ms h r.fit;
        enough = subst (λ (x : List ℕ). at + length x ≤ room) (runs-alike ms h) r.enough;
      }
