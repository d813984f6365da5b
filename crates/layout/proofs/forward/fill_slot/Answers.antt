-- `layout::forward::fill_slot` meets its contract.
use borrow.Author.Rules.{rules}
use Prim.Native.Nat.{ℕ, ◌+◌, ◌-◌, ◌<◌, ◌≤◌}
use native.Mathlib.Omega.{arith}
use native.Mathlib.Decide.{dec_lt}
use mathlib.Core.Path.{◌≡◌, ap, ◌∙◌}
use mathlib.Core.List.{List}
use lib.ListN.{length, replicate, length-replicate}
use Rattle.octets.specs.Bytes.{part, put}
use Rattle.octets.proofs.Lent.{lent_back}
use Rattle.octets.proofs.Put.{length_part, part-other}
use Rattle.region.specs.Channel.{slot_size}
use Rattle.layout.proofs.Received.{put_front}
use Rattle.layout.proofs.forward.fill_slot.Goals as goal

-- what is cleared is not where the message stands
apart : (from to len : ℕ) → (from < to → from + slot_size ≤ to) → (to < from → to + slot_size ≤ from) → len ≤ slot_size
    → from < to + len → from + len ≤ to + len
apart from to len f g h l = elim (dec_lt to from) [
  | yes z ↦ omega (arith, g z)
  | no z ↦ omega arith
]

past : (from to len : ℕ) → (to < from → to + slot_size ≤ from) → 1 ≤ len → to + len ≤ from → to + slot_size ≤ from
past from to len g some l = g (omega arith)

pub copy_within-requires : goal.copy_within-requires
copy_within-requires c =
    let p = c.requires in
    (p.0, search rules, search rules, λ q. omega (arith, p.4 q, p.1), λ q. omega (arith, p.5 q, p.1))

pub returns : goal.returns
returns c =
    let a = c.args in
    let p = c.requires in
    let b = a.b.now in
    let at = a.to + a.len in
    let more = slot_size - a.len in
    let w = replicate {A = ℕ} more 0 in
    let lw : length w ≡ more = length-replicate {A = ℕ} more 0 in
    let m = part b a.from a.len in
    let lm : length m ≡ a.len = length_part b a.from a.len p.2 in
    let cleared = lent_back b at more (λ (t : List ℕ). replicate (length t) 0) (omega arith) (omega arith)
    c.fill.auto.self (search rules)
    ∙ ap (λ (k : ℕ). put b at (replicate {A = ℕ} k 0)) (length_part b at more (omega arith)) in
    let still : part (put b at w) a.from a.len ≡ m =
    part-other b at w a.from a.len (omega arith) (apart a.from a.to a.len p.4 p.5 p.1)
    (λ q. omega (arith, lw, past a.from a.to a.len p.5 (omega (arith, p.0)) q)) in
    c.copy_within.ensures
    ∙ ap (λ (t : List ℕ). put t a.to (part t a.from a.len)) cleared
    ∙ ap (put (put b at w) a.to) still
    ∙ put_front b a.to m w at (omega (arith, lw)) (omega (arith, lm))
