-- The tests that the code makes are those of refusals 10 and 11.
use Prim.Native.Nat.{ℕ, ◌+◌, ◌*◌, ◌≤◌}
use native.Mathlib.Omega.{arith}
use mathlib.Core.Path.{◌≡◌, sym, ap, ap₂, ◌∙◌}
use mathlib.Core.Bool.{Bool, true}
use mathlib.Core.List.{List}
use lib.ListN.{length, take}
use Rattle.octets.specs.Test.{pick}
use Rattle.table.specs.Loop.{all}
use Rattle.octets.specs.Word.{word, word_size}
use Rattle.octets.proofs.Table.{length-tab}
use Rattle.table.specs.Table.{cells}
use Rattle.view.specs.Size.{nodes}
use Rattle.record.specs.declared.Node.{Node}
use Rattle.step.specs.declared.Outbox.{Outbox}
use Rattle.region.specs.Record.{heard_place, record_of}
use Rattle.layout.specs.Layout.{cluster_size}
use Rattle.outgoing.specs.declared.Extent.{Extent}
use Rattle.outgoing.specs.Entries.{Entry, entries}
use Rattle.outgoing.specs.Outgoing.{shortened, most, is_cut, may_stop, may_cut, has_room}
use Rattle.outgoing.specs.Room.{room_before, gone_in}
use Rattle.outgoing.proofs.Out.{shortened-most}
use Rattle.outgoing.proofs.Room.{found_in, room-before}

pub cut-judged : (n : ℕ) (x : Extent) (b : List ℕ) {cut r v : Bool} → cut ≡ is_cut x → r ≡ pick cut (may_stop n b) true
    → r ≡ v → may_cut n x b ≡ v
cut-judged n x b e q h = ap (λ (t : Bool). pick t (may_stop n b) true) (sym e) ∙ sym q ∙ h

-- a record read from bytes has its table of heard tags
pub heard-read : (r : List ℕ) → length (record_of r).heard ≡ cells
unfolding record_of
heard-read r = length-tab cells (λ i. word r (heard_place + word_size * i))

-- the record that is written then does not matter
pub judged : (took : Bool) (n a c : ℕ) (x : Extent) (o : Outbox) (b : List ℕ) → n ≤ nodes → 1 ≤ a → a ≤ n
    → 1 ≤ c → c ≤ n → length b ≡ cluster_size n → {t cut : Bool} {gone left : ℕ} → cut ≡ is_cut x → gone ≡ gone_in took
    a c
    → left ≡ most x → t ≡ all n (room_before cut gone c (take left (entries n a o)) b)
    → (d : Node) → length d.heard ≡ cells → t ≡ has_room n a c x d o (found_in took a c b)
judged took n a c x o b small a-lo a-hi lo hi size {t} {cut} {gone} {left} e g m q d heard =
    q ∙ ap₂ (λ (y : Bool) (k : ℕ). all n (room_before y k c (take left (entries n a o)) b)) e g
    ∙ ap (λ (l : List Entry). all n (room_before (is_cut x) (gone_in took a c) c l b))
    (ap (λ (k : ℕ). take k (entries n a o)) m ∙ shortened-most n a x o (omega arith) small)
    ∙ room-before n a c b small a-lo a-hi lo hi size d heard took (is_cut x) (shortened x (entries n a o))
