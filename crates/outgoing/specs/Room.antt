-- Cited by inner contracts only: how refusal 11 is judged before anything is written, on the cluster as it is, with
-- what the event will take away from the channels to the stepping node c itself. The theorem `room-before` of proofs/
-- says that this is `roomy`.
use Rattle.std.specs.Prelude.{ℕ, ◌+◌, ◌-◌, Bool, true, List, leb, eqb}
use Rattle.octets.specs.Test.{pick}
use Rattle.table.specs.Loop.{either, all}
use Rattle.region.specs.Channel.{capacity, count_of}
use Rattle.layout.specs.Layout.{stopped, channel}
use Rattle.outgoing.specs.Entries.{Entry, go_to}
use Rattle.outgoing.specs.Outgoing.{sent_most}

-- How many messages leave the channel from c to itself, where one from a is taken off.
abbrev pub gone_in : (took : Bool) (a c : ℕ) → ℕ
gone_in took a c = pick took (pick (eqb a c) 1 0) 0

-- `cut` is whether c stops, `gone` how many messages leave its channel to itself.
abbrev pub own_room : (cut : Bool) (gone waiting more : ℕ) → Bool
own_room cut gone waiting more = pick cut true (leb (waiting - gone + more) capacity)

unfoldable pub room_before : (cut : Bool) (gone c : ℕ) → List Entry → List ℕ → ℕ → Bool
room_before cut gone c l b k =
    either (stopped b k)
    (pick (eqb k c) (own_room cut gone (count_of (channel b c k)) (go_to k l))
    (leb (count_of (channel b c k) + go_to k l) capacity))

-- Every channel from c can hold whatever a step sends.
unfoldable pub spare : (n c : ℕ) → List ℕ → Bool
spare n c b = all n (λ k. leb (count_of (channel b c k) + sent_most) capacity)
