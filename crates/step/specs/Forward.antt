-- A part of a step that is one value alone: of a handler, the value that it forwards. Assumes nothing.
use Rattle.std.specs.Prelude.{Bool, true, false}
use Rattle.wire.specs.declared.Message.{Message}
use Rattle.wire.specs.declared.Message.TheVariants.{Read, ReadAnswer, Write, WriteAnswer, Echo, Value, Good}
use Rattle.step.specs.declared.Sent.{Sent}
use Rattle.step.specs.declared.Sent.TheVariants.{Nothing, One, Two}

abbrev pub is_value : Message → Bool
is_value (Read q) = false
is_value (ReadAnswer q t) = false
is_value (Write q t) = false
is_value (WriteAnswer q t) = false
is_value (Echo t) = false
is_value (Value t w p) = true
is_value (Good t) = false

abbrev pub is_forward : Sent → Bool
is_forward Nothing = false
is_forward (One m) = is_value m
is_forward (Two m k) = false
