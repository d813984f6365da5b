-- A value that is forwarded: the bytes received are what it is encoded as, and there is room for them.
use mathlib.Core.Path.{◌≡◌, refl, sym, ap, ◌∙◌}
use mathlib.Core.Bool.{true, false}
use mathlib.Core.List.{List, []}
use Prim.Native.Nat.{ℕ, ◌≤◌}
use native.Mathlib.Omega.{arith}
use lib.ListN.{length, take}
use lib.Seq.{take_all}
use Rattle.octets.proofs.Test.{true-false}
use Rattle.wire.specs.Layout.{encode, value_size}
use Rattle.wire.specs.declared.Message.TheVariants.{Read, ReadAnswer, Write, WriteAnswer, Echo, Value, Good}
use Rattle.step.specs.Step.{listed}
use Rattle.step.specs.declared.Sent.{Sent}
use Rattle.step.specs.declared.Sent.TheVariants.{Nothing, One, Two}
use Rattle.calls.specs.Bytes.{run}
use Rattle.step.specs.Forward.{is_forward}
use Rattle.emit.specs.Forward.{Received}
use Rattle.emit.specs.Room.{Room}

-- its bytes, beside any view, and their length
forward-bytes : (m : Sent) (v : List ℕ) → is_forward m ≡ true
    → (run [] (listed m) ≡ run v (listed m)) × (length (run [] (listed m)) ≡ value_size)
unfolding run encode
forward-bytes Nothing v h = true-false false h refl
forward-bytes (One (Read q)) v h = true-false false h refl
forward-bytes (One (ReadAnswer q t)) v h = true-false false h refl
forward-bytes (One (Write q t)) v h = true-false false h refl
forward-bytes (One (WriteAnswer q t)) v h = true-false false h refl
forward-bytes (One (Echo t)) v h = true-false false h refl
forward-bytes (One (Value t w p)) v h = (refl, refl)
forward-bytes (One (Good t)) v h = true-false false h refl
forward-bytes (Two a b) v h = true-false false h refl

module _ (m : Sent) (b v : List ℕ) (h : is_forward m ≡ true) (r : Received m b) where
  pub forward-long : length (run v (listed m)) ≡ value_size
  forward-long = ap (λ (x : List ℕ). length x) (sym (forward-bytes m v h).0) ∙ (forward-bytes m v h).1

  pub forward-length : length b ≡ value_size
  forward-length = ap (λ (x : List ℕ). length x) (r h) ∙ (forward-bytes m v h).1

  pub forward-run : take value_size b ≡ run v (listed m)
  forward-run = take_all value_size b (omega (arith, forward-length)) ∙ r h ∙ (forward-bytes m v h).0

  pub forward-room : (n room : ℕ) → Room n v (listed m) 0 room → value_size ≤ room
  forward-room n room k = omega (arith, forward-long, k.enough)
