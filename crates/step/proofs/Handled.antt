-- The handlers and the begin keep a usable record usable. Assumes nothing.
use mathlib.Core.Path.{◌≡◌, refl, subst, ◌∙◌}
use mathlib.Core.Bool.{Bool, true, false}
use Prim.Native.Nat.{ℕ, ◌+◌, ◌-◌, ◌≤◌, max}
use native.Mathlib.Nat.{le_of_lt}
use native.Mathlib.Omega.{arith}
use lib.Dec.{leb, ltb, eqb}
use borrow.Author.Tests.{leb-true, ltb-true, ltb-false}
use Rattle.octets.specs.Test.{both}
use Rattle.octets.proofs.Test.{both_left, both_right, true-false}
use Rattle.view.specs.Size.{nodes, limit}
use Rattle.view.specs.declared.Report.{Report}
use Rattle.view.specs.declared.View.{View}
use Rattle.wire.specs.Layout.{is_request, is_tag}
use Rattle.wire.specs.declared.Message.{Message}
use Rattle.wire.specs.declared.Message.TheVariants.{Read, ReadAnswer, Write, WriteAnswer, Echo, Value, Good}
use Rattle.table.specs.Table.{put_entry, newest, view_within, cell}
use Rattle.table.specs.Quorum.{member, with, only}
use Rattle.table.proofs.Entries.{view_within-newest, view_within-put_entry, heard-within-set}
use Rattle.table.proofs.Sets.{only_none, only-with}
use Rattle.record.specs.Record.{with_wait}
use Rattle.record.specs.Usable.{is_open, full, still_uses, round_tag}
use Rattle.record.specs.declared.Node.{Node}
use Rattle.record.specs.declared.Operation.{Operation}
use Rattle.record.specs.declared.Operation.TheVariants.{Update, Scan}
use Rattle.record.specs.declared.Wait.{Wait}
use Rattle.record.specs.declared.Wait.TheVariants.{Idle, Reading, Writing, Comparing, Borrowing}
use Rattle.record.proofs.Parts.{Parts, reading-ok, reading-of, writing-ok, writing-of}
use Rattle.step.specs.Allowed.{lawful}
use Rattle.step.specs.Claims.{Long}
use Rattle.step.specs.React.{raised, read_wait, write_wait, round_holds, is_new, received, keep, react}
use Rattle.step.specs.Move.{begun}
use Rattle.step.proofs.Numbers.{max-most, on-pick, on-picks}
use Rattle.step.proofs.Safe.{set-wait-parts}

raised-parts : (c : Node) (t : ℕ) → Parts c → t ≤ limit → Parts (raised c t)
unfolding raised
raised-parts c t p h =
    record {
      n-low = p.n-low;
      n-high = p.n-high;
      half = p.half;
      own-low = p.own-low;
      own-high = p.own-high;
      max-high = on-pick (λ (x : ℕ). x ≤ limit) (ltb c.maxtag t) t c.maxtag (λ e. h) (λ e. p.max-high);
      request-high = p.request-high;
      kept_high = p.kept_high;
      wait-ok = p.wait-ok;
      enough = p.enough;
      heard-ok = p.heard-ok;
      last_ok = p.last_ok;
      max-ok =
          on-picks (λ (x : ℕ) (v : View). view_within x v ≡ true) (ltb c.maxtag t) t c.maxtag
          (newest t c.last c.atmax) c.atmax
          (λ e. view_within-newest limit c.maxtag t c.last c.atmax p.last_ok p.max-ok
          (le_of_lt (ltb-true c.maxtag t e)))
          (λ e. p.max-ok);
      round-ok = p.round-ok;
      kept-ok = p.kept-ok;
    }

keep-parts : (c : Node) (t : ℕ) (v : View) → Parts c → t ≤ limit → view_within t v ≡ true → Parts (keep c t v)
unfolding keep
keep-parts c t v p h o =
    record {
      n-low = p.n-low;
      n-high = p.n-high;
      half = p.half;
      own-low = p.own-low;
      own-high = p.own-high;
      max-high = p.max-high;
      request-high = p.request-high;
      kept_high = on-pick (λ (x : ℕ). x ≤ limit) (ltb c.kept t) t c.kept (λ e. h) (λ e. p.kept_high);
      wait-ok = p.wait-ok;
      enough = p.enough;
      heard-ok = p.heard-ok;
      last_ok = p.last_ok;
      max-ok = p.max-ok;
      round-ok = p.round-ok;
      kept-ok =
          on-picks (λ (x : ℕ) (u : View). view_within x u ≡ true) (ltb c.kept t) t c.kept v c.keptview
          (λ e. o) (λ e. p.kept-ok);
    }

-- a report that the round holds is not above the round's tag
holds_tag : (w : Wait) (t : ℕ) → round_holds w t ≡ true → t ≤ round_tag w
holds_tag (Writing k i r a) t e = leb-true t r e
holds_tag (Comparing k i r) t e = leb-true t r e
holds_tag Idle t e = true-false false e refl
holds_tag (Reading o a m) t e = true-false false e refl
holds_tag (Borrowing k r) t e = true-false false e refl

received-parts : (c : Node) (s w t : ℕ) (r : Report) → Parts c → Long c → 1 ≤ w → w ≤ nodes → 1 ≤ t → t ≤ limit
    → Parts (received c s w t r)
unfolding received
received-parts c s w t r p z a b l h =
    let new : Bool = is_new c w t in
    record {
      n-low = p.n-low;
      n-high = p.n-high;
      half = p.half;
      own-low = p.own-low;
      own-high = p.own-high;
      max-high = p.max-high;
      request-high = p.request-high;
      kept_high = p.kept_high;
      wait-ok = p.wait-ok;
      enough = p.enough;
      heard-ok = heard-within-set c.heard (cell s w) t h p.heard-ok;
      last_ok =
          on-pick (λ (v : View). view_within limit v ≡ true) new (put_entry c.last w t r) c.last
          (λ e. view_within-put_entry c.last w t r a b limit z.last l h p.last_ok) (λ e. p.last_ok);
      max-ok =
          on-pick (λ (v : View). view_within c.maxtag v ≡ true) (both new (leb t c.maxtag))
          (put_entry c.atmax w t r)
          c.atmax
          (λ e. view_within-put_entry c.atmax w t r a b c.maxtag z.atmax l
          (leb-true t c.maxtag (both_right new (leb t c.maxtag) e)) p.max-ok) (λ e. p.max-ok);
      round-ok =
          on-pick (λ (v : View). view_within (round_tag c.wait) v ≡ true) (both new (round_holds c.wait t))
          (put_entry c.atround w t r) c.atround
          (λ e. view_within-put_entry c.atround w t r a b (round_tag c.wait) z.atround l
          (holds_tag c.wait t (both_right new (round_holds c.wait t) e)) p.round-ok) (λ e. p.round-ok);
      kept-ok = p.kept-ok;
    }

-- what an open read may still use does not depend on who has answered, nor on what
still-reading : (o : Operation) (a b m k : ℕ) → still_uses (Reading o a m) ≡ still_uses (Reading o b k)
still-reading (Update p) a b m k = refl
still-reading Scan a b m k = refl

-- an answer, at the record with any wait
read-wait-parts : (c : Node) (s q t : ℕ) (w : Wait) → Parts (with_wait c w) → 1 ≤ s → s ≤ c.n → t ≤ limit
    → Parts (with_wait c (read_wait c.request s q t w))
read-wait-parts c s q t (Reading o a m) p l k h =
    let d = with_wait c (Reading o a m) in
    let ok : (only c.n a ≡ true) × (m ≤ limit) = reading-ok c.n o a m p.wait-ok in
    on-pick (λ w. Parts (with_wait c w)) (eqb q c.request) _ _
    (λ e. on-pick (λ w. Parts (with_wait c w)) (member a s) _ _ (λ e. p)
    (λ e. set-wait-parts d c.request (Reading o (with a s) (max m t)) c.atround p p.request-high
    (reading-of c.n o (with a s) (max m t) (only-with c.n a s l k ∙ ok.0) (max-most m t limit ok.1 h))
    (subst (λ (u : ℕ). u ≤ limit - c.request) (still-reading o a (with a s) m (max m t)) p.enough) p.round-ok))
    (λ e. p)
read-wait-parts c s q t Idle p l k h = p
read-wait-parts c s q t (Writing kd i r a) p l k h = p
read-wait-parts c s q t (Comparing kd i r) p l k h = p
read-wait-parts c s q t (Borrowing kd r) p l k h = p

write-wait-parts : (c : Node) (s q t : ℕ) (w : Wait) → Parts (with_wait c w) → 1 ≤ s → s ≤ c.n
    → Parts (with_wait c (write_wait c.request s q t w))
write-wait-parts c s q t (Writing kd i r a) p l k =
    let d = with_wait c (Writing kd i r a) in
    let ok = writing-ok c.n kd i r a p.wait-ok in
    on-pick (λ w. Parts (with_wait c w)) (eqb q c.request) _ _
    (λ e. on-pick (λ w. Parts (with_wait c w)) (eqb t r) _ _
    (λ e. on-pick (λ w. Parts (with_wait c w)) (member a s) _ _ (λ e. p)
    (λ e. set-wait-parts d c.request (Writing kd i r (with a s)) c.atround p p.request-high
    (writing-of c.n kd i r (with a s) (only-with c.n a s l k ∙ ok.0) ok.1) p.enough p.round-ok))
    (λ e. p))
    (λ e. p)
write-wait-parts c s q t Idle p l k = p
write-wait-parts c s q t (Reading o a m) p l k = p
write-wait-parts c s q t (Comparing kd i r) p l k = p
write-wait-parts c s q t (Borrowing kd r) p l k = p

-- the tag of a lawful message with a number before it
tag-high : (q t : ℕ) → both (is_request q) (is_tag t) ≡ true → t ≤ limit
tag-high q t h = leb-true t limit (both_right (is_request q) (is_tag t) h)

pub react-parts : (c : Node) (s : ℕ) (m : Message) (v : View) → Parts c → Long c → 1 ≤ s → s ≤ c.n → lawful c.n m v
    ≡ true
    → Parts (react c s m v).node
unfolding react
react-parts c s (Read q) v p z l k h = p
react-parts c s (ReadAnswer q t) v p z l k h = read-wait-parts c s q t c.wait p l k (tag-high q t h)
react-parts c s (Write q t) v p z l k h = raised-parts c t p (tag-high q t h)
react-parts c s (WriteAnswer q t) v p z l k h = write-wait-parts c s q t c.wait p l k
react-parts c s (Echo t) v p z l k h = raised-parts c t p (leb-true t limit (both_right (leb 1 t) (is_tag t) h))
react-parts c s (Value t w r) v p z l k h =
    let a : both (leb 1 t) (is_tag t) ≡ true = both_left (both (leb 1 t) (is_tag t)) (both (leb 1 w) (leb w c.n)) h in
    let b : both (leb 1 w) (leb w c.n) ≡ true = both_right (both (leb 1 t) (is_tag t)) (both (leb 1 w) (leb w c.n))
    h in
    let x : w ≤ c.n = leb-true w c.n (both_right (leb 1 w) (leb w c.n) b) in
    let y : c.n ≤ nodes = p.n-high in
    received-parts c s w t r p z (leb-true 1 w (both_left (leb 1 w) (leb w c.n) b)) (omega arith)
    (leb-true 1 t (both_left (leb 1 t) (is_tag t) a)) (leb-true t limit (both_right (leb 1 t) (is_tag t) a))
react-parts c s (Good t) v p z l k h =
    keep-parts c t v p (leb-true t limit (both_left (is_tag t) (view_within t v) h))
    (both_right (is_tag t) (view_within t v) h)

-- ---- the begin

idle-tag : (c : Node) (w : Wait) → Parts (with_wait c w) → is_open w ≡ false → view_within limit c.atround ≡ true
idle-tag c Idle p e = p.round-ok
idle-tag c (Reading o a m) p e = true-false true refl e
idle-tag c (Writing k i r a) p e = true-false true refl e
idle-tag c (Comparing k i r) p e = true-false true refl e
idle-tag c (Borrowing k r) p e = true-false true refl e

uses-most : (o : Operation) → still_uses (Reading o 0 0) ≤ 4
uses-most (Update r) = omega arith
uses-most Scan = omega arith

pub begun-parts : (c : Node) (o : Operation) → Parts c → is_open c.wait ≡ false → full c ≡ false
    → Parts (begun c o).node
unfolding begun
begun-parts c o p e h =
    let five : 5 ≤ limit - c.request = ltb-false (limit - c.request) 5 h in
    let most : still_uses (Reading o 0 0) ≤ 4 = uses-most o in
    set-wait-parts c (c.request + 1) (Reading o 0 0) c.atround p (omega arith)
    (reading-of c.n o 0 0 (only_none c.n) (omega arith)) (omega arith) (idle-tag c c.wait p e)
