-- `layout::forward::forward_at` meets its contract.
use borrow.Author.Rules.{rules}
use Prim.Native.Nat.{ℕ, ◌+◌}
use native.Mathlib.Omega.{arith}
use mathlib.Core.Path.{◌≡◌, sym, ap, ap₂, ◌∙◌}
use mathlib.Core.List.{List}
use lib.ListN.{length, get_or, set, length-append, length-replicate}
use Rattle.octets.specs.Bytes.{put}
use Rattle.octets.proofs.Put.{length_part}
use Rattle.region.specs.Channel.{slot_size, slot_at, count_place, oldest_place, count_of, oldest}
use Rattle.layout.specs.Layout.{channel}
use Rattle.layout.specs.Slot.{channel_at, slot_from}
use Rattle.layout.proofs.Received.{count_at, oldest-at, pass-stopped, pass-full, pass-in, slots_apart, slot_of}
use Rattle.layout.proofs.forward.forward_at.Goals as goal

pub returns-then-stopped_at : goal.returns-then-stopped_at
returns-then-stopped_at c =
    let a = c.args in
    let p = c.requires in
    sym (pass-stopped a.b.now a.a a.c p.0 p.1 p.2 p.4 (slot_from a.b.now a.from a.len)
    (sym c.stopped_at.ensures ∙ c.if-stopped_at.true))

pub fill_slot-requires : goal.fill_slot-requires
fill_slot-requires c =
    let a = c.args in
    let p = c.requires in
    let i = c.from-oldest.result + c.from.result in
    let at = c.channel_at-at.ensures in
    let target = slot_of a.a a.c i p.0 p.1 p.2 p.3 in (
      p.5,
      p.6,
      p.7,
      search rules,
      λ l. omega (arith, at, slots_apart p.8 a.a a.c i p.0 p.1 p.2 (omega (arith, at, l))),
      λ l. omega (
        arith,
        at,
        p.8.place,
        slots_apart target p.8.a p.8.c p.8.i p.8.sender.0 p.8.sender.1 p.8.receiver.0
            (omega (arith, at, p.8.place, l)),
      ),
    )

pub returns-then-count-lt-FULL : goal.returns-then-count-lt-FULL
returns-then-count-lt-FULL c =
    let a = c.args in
    let p = c.requires in
    let b = a.b.now in
    let t = channel b a.a a.c in
    let s = slot_from b a.from a.len in
    let at = c.channel_at-at.ensures in
    let n : get_or b (c.channel_at-at.result + count_place) 0 ≡ count_of t
    = ap (λ (x : ℕ). get_or b (x + count_place) 0) at ∙ count_at b a.a a.c p.0 p.1 in
    let h : c.from-oldest.result ≡ oldest t
    = c.from-oldest.ensures
    ∙ ap (λ (x : ℕ). get_or b (x + oldest_place) 0) at ∙ oldest-at b a.a a.c p.0 p.1 in
    let k : c.from.result ≡ count_of t
    = c.from.ensures ∙ n in
    let long : length s ≡ slot_size = simp (length-append, length-replicate, length_part b a.from a.len p.7)
    (omega (arith, p.6)) in
    ap₂ (λ (x y : ℕ). set c.fill_slot.new.b (x + count_place) (y + 1)) at n
    ∙ ap (λ (u : List ℕ). set u (channel_at a.a a.c + count_place) (count_of t + 1))
    (c.fill_slot.ensures
    ∙ ap₂ (λ (x y : ℕ). put b (x + slot_at y) s) at (ap₂ (λ (x y : ℕ). x + y) h k))
    ∙ sym (pass-in b a.a a.c p.0 p.1 p.2 p.4 s
    (sym c.stopped_at.ensures ∙ c.if-stopped_at.false)
    (omega (arith, n, c.if-count-lt-FULL.true)) (omega (arith, long)))

pub returns-else-count-lt-FULL : goal.returns-else-count-lt-FULL
returns-else-count-lt-FULL c =
    let a = c.args in
    let p = c.requires in
    let b = a.b.now in
    let n : get_or b (c.channel_at-at.result + count_place) 0 ≡ count_of (channel b a.a a.c)
    = ap (λ (x : ℕ). get_or b (x + count_place) 0) c.channel_at-at.ensures
    ∙ count_at b a.a a.c p.0 p.1 in
    sym (pass-full b a.a a.c p.0 p.1 p.2 p.4 (slot_from b a.from a.len)
    (sym c.stopped_at.ensures ∙ c.if-stopped_at.false)
    (omega (arith, n, c.if-count-lt-FULL.false)))
