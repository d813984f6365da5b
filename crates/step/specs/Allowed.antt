-- Which messages the layout allows, with the view of a good message by value; and what may be handed to a step.
-- Assumes nothing.
use Rattle.std.specs.Prelude.{Bool, ℕ, leb}
use Rattle.octets.specs.Test.{both}
use Rattle.view.specs.declared.View.{View}
use Rattle.wire.specs.Layout.{is_request, is_tag}
use Rattle.wire.specs.declared.Message.{Message}
use Rattle.wire.specs.declared.Message.TheVariants.{Read, ReadAnswer, Write, WriteAnswer, Echo, Value, Good}
use Rattle.table.specs.Table.{view_within}

-- a message for n nodes, with its view where it is a good one
abbrev pub lawful : ℕ → Message → View → Bool
lawful n (Read q) v = is_request q
lawful n (ReadAnswer q t) v = both (is_request q) (is_tag t)
lawful n (Write q t) v = both (is_request q) (is_tag t)
lawful n (WriteAnswer q t) v = both (is_request q) (is_tag t)
lawful n (Echo t) v = both (leb 1 t) (is_tag t)
lawful n (Value t w p) v = both (both (leb 1 t) (is_tag t)) (both (leb 1 w) (leb w n))
lawful n (Good t) v = both (is_tag t) (view_within t v)
