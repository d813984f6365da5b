-- What is kept of a line while it is read: its first forty bytes, and its length, where 41 stands for every greater
-- one. No legal line is longer, so that no more is needed to read it.
use Rattle.std.specs.Prelude.{Option, None, ℕ, suc, ◌+◌, ◌-◌, List, ◌++◌, length, take, set, replicate, leb, ltb}
use Rattle.octets.specs.Test.{pick}
use Rattle.lines.specs.Grammar.{event_of, first_of}
use Rattle.lines.specs.declared.Opening.{Opening}
use Rattle.lines.specs.declared.Command.{Command}
use Rattle.input.specs.declared.Carry.{Carry}

abbrev pub most : ℕ
most = 40

-- of the line l, where the first m bytes are kept
abbrev pub carry_up_to : (m : ℕ) → List ℕ → Carry
carry_up_to m l =
    record { bytes = take m l ++ replicate (m - length l) 0; size = pick (leb (length l) m) (length l) (suc m) }

unfoldable pub carry_of : List ℕ → Carry
carry_of l = carry_up_to most l

-- one byte more
abbrev pub pushed : (m : ℕ) → Carry → ℕ → Carry
pushed m c x =
    record {
      bytes = pick (ltb c.size m) (set c.bytes c.size x) c.bytes;
      size = pick (ltb c.size m) (c.size + 1) (suc m);
    }

unfoldable pub push : Carry → ℕ → Carry
push c x = pushed most c x

-- what is kept as an event, and as the first line
unfoldable pub event_in : Carry → Option Command
event_in c = pick (leb c.size most) (event_of (take c.size c.bytes)) None

unfoldable pub first_in : Carry → Option Opening
first_in c = pick (leb c.size most) (first_of (take c.size c.bytes)) None
