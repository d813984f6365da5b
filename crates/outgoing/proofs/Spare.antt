-- Where every channel has room for whatever a step sends, refusal 11 does not come up.
use Prim.Native.Nat.{ℕ, zero, suc, ◌+◌, ◌-◌, ◌≤◌}
use native.Mathlib.Omega.{arith}
use native.Mathlib.Decide.{dec_lt}
use mathlib.Core.Path.{◌≡◌, refl, sym, ◌∙◌}
use mathlib.Core.Bool.{Bool, true, false}
use mathlib.Core.List.{List, [], ◌∷◌, ◌++◌}
use lib.Dec.{leb, eqb}
use lib.ListN.{length, take, length-append}
use borrow.Author.Tests.{le-leb, leb-true}
use Rattle.octets.specs.Test.{pick}
use Rattle.table.specs.Loop.{either, numbered}
use Rattle.table.proofs.Laws.{all-at, all-all}
use Rattle.table.specs.Table.{cells}
use Rattle.view.specs.Size.{nodes}
use Rattle.view.specs.declared.View.{View}
use Rattle.wire.specs.declared.Message.{Message}
use Rattle.record.specs.declared.Node.{Node}
use Rattle.step.specs.Step.{listed, messages}
use Rattle.step.specs.declared.Sent.{Sent}
use Rattle.step.specs.declared.Sent.TheVariants.{Nothing, One, Two}
use Rattle.step.specs.declared.Outbox.{Outbox}
use Rattle.region.specs.Channel.{capacity, count_of}
use Rattle.block.specs.Block.{take_off}
use Rattle.layout.specs.Layout.{cluster_size, stopped, channel, on_block}
use Rattle.outgoing.specs.Entries.{Entry, entry, is_answer, addressed, entries_of, entries, go_to}
use Rattle.outgoing.specs.Outgoing.{shortened, is_cut, sent_most, has_room}
use Rattle.outgoing.specs.Room.{gone_in, own_room, room_before, spare}
use Rattle.outgoing.specs.declared.Extent.{Extent}
use Rattle.outgoing.specs.declared.Extent.TheVariants.{Whole, Cut}
use Rattle.outgoing.proofs.Laws.{go_to-append, go_to-past, go_to-once}
use Rattle.outgoing.proofs.Room.{room-before}

-- Of each message at most one entry goes to a node.
once : (k n a : ℕ) (v : View) (m : Message) → 1 ≤ k → go_to k (addressed n a v m) ≤ 1
unfolding addressed go_to
once k n a v m lo = go (is_answer m)
  where
    one : (t : Bool) → pick t (0 + 1) 0 ≤ 1
    one true = omega arith
    one false = omega arith

    go : (t : Bool) → go_to k (pick t (entry v m a ∷ []) (numbered n (entry v m))) ≤ 1
    go true = one (eqb a k)
    go false = elim (dec_lt n k) [
      | yes l ↦ omega (arith, go_to-past v m k n l)
      | no l ↦ omega (arith, go_to-once v m k n lo (omega arith))
    ]

each : (k n a : ℕ) (v : View) (ms : List Message) → 1 ≤ k → go_to k (entries_of n a v ms) ≤ length ms
unfolding entries_of go_to
each k n a v [] lo = omega arith
each k n a v (m ∷ ms) lo = omega (
  arith,
  go_to-append k (addressed n a v m) (entries_of n a v ms),
  once k n a v m lo,
  each k n a v ms lo,
)

fewer : (k left : ℕ) (l : List Entry) → go_to k (take left l) ≤ go_to k l
unfolding go_to
fewer k zero l = omega arith
fewer k (suc left) [] = omega arith
fewer k (suc left) (e ∷ l) = go (eqb e.to k) (fewer k left l)
  where
    go : (t : Bool) → go_to k (take left l) ≤ go_to k l
        → pick t (go_to k (take left l) + 1) (go_to k (take left l)) ≤ pick t (go_to k l + 1) (go_to k l)
    go true h = omega (arith, h)
    go false h = h

two : (s : Sent) → length (listed s) ≤ 2
two Nothing = omega arith
two (One m) = omega arith
two (Two m k) = omega arith

six : (o : Outbox) → length (messages o) ≤ sent_most
six o = omega (
  arith,
  length-append (listed o.handler ++ listed o.reading) (listed o.comparing),
  length-append (listed o.handler) (listed o.reading),
  two o.handler,
  two o.reading,
  two o.comparing,
)

sent-most : (k n a : ℕ) (x : Extent) (o : Outbox) → 1 ≤ k → go_to k (shortened x (entries n a o)) ≤ sent_most
sent-most k n a Whole o lo = omega (arith, each k n a o.view (messages o) lo, six o)
sent-most k n a (Cut m) o lo = omega (
  arith,
  fewer k m (entries n a o),
  each k n a o.view (messages o) lo,
  six o,
)

room : (cut : Bool) (gone c : ℕ) (l : List Entry) (b : List ℕ) (k : ℕ)
    → leb (count_of (channel b c k) + sent_most) capacity ≡ true → go_to k l ≤ sent_most
    → room_before cut gone c l b k ≡ true
unfolding room_before
room cut gone c l b k h most = go (stopped b k) (eqb k c) cut
  where
    fits : count_of (channel b c k) + sent_most ≤ capacity
    fits = leb-true (count_of (channel b c k) + sent_most) capacity h

    go : (s e y : Bool) → either s (pick e (own_room y gone (count_of (channel b c k)) (go_to k l))
        (leb (count_of (channel b c k) + go_to k l) capacity)) ≡ true
    go true e y = refl
    go false true true = refl
    go false true false = le-leb (count_of (channel b c k) - gone + go_to k l) capacity (omega (arith, fits))
    go false false y = le-leb (count_of (channel b c k) + go_to k l) capacity (omega (arith, fits))

pub spare-room : (n a c : ℕ) (x : Extent) (d : Node) (o : Outbox) (b : List ℕ) → n ≤ nodes → 1 ≤ a → a ≤ n → 1 ≤ c
    → c ≤ n → length b ≡ cluster_size n → length d.heard ≡ cells → spare n c b ≡ true
    → has_room n a c x d o (on_block c (take_off a) b) ≡ true
unfolding spare
spare-room n a c x d o b small a-lo a-hi lo hi size heard h =
    sym (room-before n a c b small a-lo a-hi lo hi size d heard true (is_cut x) (shortened x (entries n a o)))
    ∙ all-all n (room_before (is_cut x) (gone_in true a c) c (shortened x (entries n a o)) b)
    (λ k one most. room (is_cut x) (gone_in true a c) c (shortened x (entries n a o)) b k
    (all-at n (λ j. leb (count_of (channel b c j) + sent_most) capacity) k h one most) (sent-most k n a x o one))
