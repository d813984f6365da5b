-- Traces that are ruled out by their tags. In the first three an update is done and has no tag, since its value was let
-- out too late, or by another node, or is an old one: the line of all updates fits all else. In the others the tags are
-- not as document 01 words them.
use native.Mathlib.Decide.{ℕ_discrete, dec_lt}
use native.Mathlib.Omega.{arith}
use Prim.Native.Nat.{◌<◌}
use mathlib.Core.Path.{refl}
use mathlib.Core.Bool.{decide}
use mathlib.Core.List.Memᴰ
use mathlib.Core.List.{[], ◌∷◌}
use Rattle.history.specs.Message.{absent}
use Rattle.history.specs.Event.{update, none}
use Rattle.history.specs.Trace.{Trace, tag_at, first_ending, tags_sent, own_tags, largest, first_above}
use Rattle.history.specs.Order.{SingleOrder}
use Rattle.history.specs.Tags.{IsTag, TagsAsWorded}
use Rattle.history.proofs.RuledOut.{begins, handles, own, entry, is_done}

-- Node 1 lets its value out when the update has ended.
abbrev late : Trace
late = begins 1 (update 7) ∷ handles 1 (is_done (entry 1 7 ∷ [])) [] ∷ handles 1 none (own 1 1 7) ∷ []

pub late-out : ¬ SingleOrder 1 late
unfolding first_ending tags_sent own_tags largest first_above ℕ_discrete dec_lt decide
late-out o = let pos : 0 < tag_at late 0 1 = o.tagged 0 1 7 ((o.members 0).1 tt) refl in absurd (omega (arith, pos))

-- Only node 2 lets out a value of node 1.
abbrev forged : Trace
forged =
    begins 1 (update 7) ∷ handles 2 none (own 1 1 7) ∷ handles 1 (is_done (entry 1 7 ∷ absent ∷ [])) [] ∷ []

pub forged-out : ¬ SingleOrder 2 forged
unfolding first_ending tags_sent own_tags largest first_above ℕ_discrete dec_lt decide
forged-out o = let pos : 0 < tag_at forged 0 1 = o.tagged 0 1 7 ((o.members 0).1 tt) refl in absurd (omega (arith, pos))

-- The second update lets out the value of the first again, and none of its own.
abbrev repeated : Trace
repeated =
    begins 1 (update 7) ∷ handles 1 (is_done (entry 1 7 ∷ [])) (own 1 1 7)
    ∷ begins 1 (update 8) ∷ handles 1 (is_done (entry 1 7 ∷ [])) (own 1 1 7) ∷ []

pub repeated-out : ¬ SingleOrder 1 repeated
unfolding first_ending tags_sent own_tags largest first_above ℕ_discrete dec_lt decide
repeated-out o =
    let pos : 0 < tag_at repeated 2 1 = o.tagged 2 1 8 ((o.members 2).1 tt) refl in absurd (omega (arith, pos))

-- One update lets out two values of its own.
abbrev doubled : Trace
doubled = begins 1 (update 7) ∷ handles 1 none (own 1 1 7) ∷ handles 1 none (own 1 2 7) ∷ []

pub doubled-out : ¬ TagsAsWorded doubled
unfolding first_ending tags_sent own_tags largest first_above ℕ_discrete dec_lt decide
doubled-out h =
    let second : IsTag doubled 0 1 2 = record {
      sent = Memᴰ.tail (Memᴰ.head refl);
      above = λ x i. absurd (Memᴰ.not-nil i);
    } in
    absurd (omega (arith, h.only 0 1 7 2 refl second))

-- Two updates of one node are open at a time, and one value is the first of both.
abbrev shared : Trace
shared = begins 1 (update 7) ∷ begins 1 (update 8) ∷ handles 1 none (own 1 1 7) ∷ []

pub shared-out : ¬ TagsAsWorded shared
unfolding first_ending tags_sent own_tags largest first_above ℕ_discrete dec_lt decide
shared-out h = absurd (omega (arith, h.rise 0 1 1 7 8 refl refl (omega arith) (omega arith)))
