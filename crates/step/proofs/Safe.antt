-- The passes keep a usable record usable. Assumes nothing.
use mathlib.Core.Path.{◌≡◌, refl}
use mathlib.Core.Bool.{true}
use Prim.Native.Nat.{ℕ, ◌+◌, ◌-◌, ◌≤◌, ◌<◌, max}
use native.Mathlib.Nat.{le-max_right}
use native.Mathlib.Omega.{arith}
use lib.Arith.{lt_of_le-ne}
use lib.Dec.{leb, ltb, eqb}
use borrow.Author.Tests.{eqb-true, eqb-false, ltb-true, le-leb}
use Rattle.view.specs.Size.{limit}
use Rattle.view.specs.View.{no_view}
use Rattle.view.specs.declared.View.{View}
use Rattle.table.specs.Table.{newest, view_within}
use Rattle.table.specs.Quorum.{members_in, is_quorum}
use Rattle.table.proofs.Entries.{view_within-absent, view_within-newest}
use Rattle.table.proofs.Sets.{only_none}
use Rattle.record.specs.Record.{set_wait, with_wait, closed}
use Rattle.record.specs.Usable.{still_uses, round_tag, wait_ok}
use Rattle.record.specs.declared.Node.{Node}
use Rattle.record.specs.declared.Operation.{Operation}
use Rattle.record.specs.declared.Operation.TheVariants.{Update, Scan}
use Rattle.record.specs.declared.Kind.{Kind}
use Rattle.record.specs.declared.Kind.TheVariants.{Update as UpdateKind, Scan as ScanKind}
use Rattle.record.specs.declared.Wait.{Wait}
use Rattle.record.specs.declared.Wait.TheVariants.{Idle, Reading, Writing, Comparing, Borrowing}
use Rattle.record.proofs.Parts.{Parts, Round, reading-ok, round-parts, round-of, writing-ok, writing-of}
use Rattle.step.specs.declared.Step.{Step}
use Rattle.step.specs.Move.{agreement}
use Rattle.step.specs.Move.{opened, after_read, read_pass, write_pass, next_tag, after_good, after_failed, compare_pass}
use Rattle.step.specs.Move.{borrow_pass, reads, writes, compares, borrows, move_on}
use Rattle.step.proofs.Numbers.{max-most, on-pick}

-- a step whose record is usable
abbrev Fit : Step → Type 0
Fit s = Parts s.node

-- another request number, wait and reports held for the round
pub set-wait-parts : (c : Node) (q : ℕ) (w : Wait) (v : View) → Parts c → q ≤ limit → wait_ok c.n w ≡ true
    → still_uses w ≤ limit - q → view_within (round_tag w) v ≡ true → Parts (set_wait c q w v)
set-wait-parts c q w v p a b e h =
    record {
      n-low = p.n-low;
      n-high = p.n-high;
      half = p.half;
      own-low = p.own-low;
      own-high = p.own-high;
      max-high = p.max-high;
      request-high = a;
      kept_high = p.kept_high;
      wait-ok = b;
      enough = e;
      heard-ok = p.heard-ok;
      last_ok = p.last_ok;
      max-ok = p.max-ok;
      round-ok = h;
      kept-ok = p.kept-ok;
    }

closed_parts : (c : Node) (w : Wait) → Parts c → wait_ok c.n w ≡ true → still_uses w ≡ 0 → Parts (closed c w)
closed_parts c w p b e =
    set-wait-parts c c.request w no_view p p.request-high b (rw e (omega arith)) (view_within-absent (round_tag w))

-- a round opens with a tag that is not below maxtag
opened-parts : (c : Node) (k : Kind) (i r : ℕ) → Parts c → c.maxtag ≤ r → Round i r → 1 + (3 - i) ≤ limit - c.request
    → Parts (opened c k i r)
unfolding opened
opened-parts c k i r p h o e =
    set-wait-parts c (c.request + 1) (Writing k i r 0) (newest r c.last c.atmax) p (omega arith)
    (writing-of c.n k i r 0 (only_none c.n) o) (omega arith)
    (view_within-newest limit c.maxtag r c.last c.atmax p.last_ok p.max-ok h)

-- ---- after a quorum of read answers

after-read-parts : (s : Step) (c : Node) (o : Operation) (a m r : ℕ) → Parts c → c.maxtag ≤ r → r ≤ limit
    → still_uses (Reading o a m) ≤ limit - c.request → Parts (after_read s c o r).node
unfolding after_read
after-read-parts s c (Update q) a m r p h l e = on-pick Fit (eqb r limit) _ _
    (λ t. closed_parts c Idle p refl refl)
    (λ t. opened-parts c UpdateKind 0 r p h
    (record {
      round = omega arith;
      tag = l;
      first = λ z. let d : r ≡ limit
          → ⊥ = eqb-false r limit t in lt_of_le-ne l d;
    }) e)
after-read-parts s c Scan a m r p h l e =
    opened-parts c ScanKind 1 r p h (record { round = omega arith; tag = l; first = λ z. absurd (omega arith) }) e

-- each pass, at the record with any wait
read-pass-parts : (f : ℕ) (s : Step) (c : Node) (w : Wait) → Parts s.node → Parts (with_wait c w)
    → Parts (read_pass f s (with_wait c w) w).node
unfolding read_pass
read-pass-parts f s c (Reading o a m) q p =
    on-pick Fit (is_quorum c.n f (members_in c.n a)) _ _
    (λ t. after-read-parts s (with_wait c (Reading o a m)) o a m (max m c.maxtag) p (le-max_right m c.maxtag)
    (max-most m c.maxtag limit (reading-ok c.n o a m p.wait-ok).1 p.max-high) p.enough)
    (λ t. q)
read-pass-parts f s c Idle q p = q
read-pass-parts f s c (Writing k i r a) q p = q
read-pass-parts f s c (Comparing k i r) q p = q
read-pass-parts f s c (Borrowing k r) q p = q

write-pass-parts : (f : ℕ) (s : Step) (c : Node) (w : Wait) → Parts s.node → Parts (with_wait c w)
    → Parts (write_pass f s (with_wait c w) w).node
unfolding write_pass
write-pass-parts f s c (Writing k i r a) q p =
    on-pick Fit (is_quorum c.n f (members_in c.n a)) _ _
    (λ t. set-wait-parts (with_wait c (Writing k i r a)) c.request (Comparing k i r) c.atround p p.request-high
    (round-of i r (writing-ok c.n k i r a p.wait-ok).1) p.enough p.round-ok)
    (λ t. q)
write-pass-parts f s c Idle q p = q
write-pass-parts f s c (Reading o a m) q p = q
write-pass-parts f s c (Comparing k i r) q p = q
write-pass-parts f s c (Borrowing k r) q p = q

-- ---- after agreement

-- the next round's tag is not below maxtag, and keeps the limit
next_low : (c : Node) (i r : ℕ) → c.maxtag ≤ next_tag c.maxtag i r
next_low c i r = on-pick (λ t. c.maxtag ≤ t) (eqb i 0) _ _ (λ t. le-max_right _ _) (λ t. omega arith)

pub next-high : (c : Node) (i r : ℕ) → Parts c → Round i r → next_tag c.maxtag i r ≤ limit
next-high c i r p o = on-pick (λ t. t ≤ limit) (eqb i 0) _ _
    (λ t. max-most (r + 1) c.maxtag limit (let l : r < limit = o.first (eqb-true i 0 t) in omega arith)
    p.max-high)
    (λ t. p.max-high)

after-good-parts : (s : Step) (c : Node) (k : Kind) (i r : ℕ) → Parts c → Round i r → 3 - i ≤ limit - c.request
    → Parts (after_good s c k i r).node
unfolding after_good
after-good-parts s c k i r p o e = on-pick Fit (eqb i 0) _ _
    (λ t. let z : i ≡ 0 = eqb-true i 0 t in
    opened-parts c k 1 (next_tag c.maxtag 0 r) p (next_low c 0 r)
    (record { round = omega arith; tag = next-high c 0 r p (rw z at o); first = λ x. absurd (omega arith) })
    (omega arith))
    (λ t. closed_parts c Idle p refl refl)

after-failed-parts : (s : Step) (c : Node) (k : Kind) (i r : ℕ) → Parts c → Round i r → 3 - i ≤ limit - c.request
    → Parts (after_failed s c k i r).node
unfolding after_failed
after-failed-parts s c k i r p o e = on-pick Fit (ltb i 3) _ _
    (λ t. let l : i < 3 = ltb-true i 3 t in
    opened-parts c k (i + 1) (next_tag c.maxtag i r) p (next_low c i r)
    (record { round = omega arith; tag = next-high c i r p o; first = λ x. absurd (omega arith) }) (omega arith))
    (λ t. closed_parts c (Borrowing k r) p (le-leb r limit o.tag) refl)

compare-pass-parts : (f : ℕ) (s : Step) (c : Node) (w : Wait) → Parts s.node → Parts (with_wait c w)
    → Parts (compare_pass f s (with_wait c w) w).node
unfolding compare_pass
compare-pass-parts f s c (Comparing k i r) q p =
    let d = with_wait c (Comparing k i r) in
    let o : Round i r = round-parts i r p.wait-ok in
    on-pick Fit (agreement f c) _ _
    (λ t. on-pick Fit (leb c.maxtag r) _ _
    (λ u. after-good-parts s d k i r p o p.enough)
    (λ u. after-failed-parts s d k i r p o p.enough))
    (λ t. q)
compare-pass-parts f s c Idle q p = q
compare-pass-parts f s c (Reading o a m) q p = q
compare-pass-parts f s c (Writing k i r a) q p = q
compare-pass-parts f s c (Borrowing k r) q p = q

borrow-pass-parts : (s : Step) (c : Node) (w : Wait) → Parts s.node → Parts (with_wait c w)
    → Parts (borrow_pass s (with_wait c w) w).node
unfolding borrow_pass
borrow-pass-parts s c (Borrowing k r) q p = on-pick Fit (leb r c.kept) _ _
    (λ t. closed_parts (with_wait c (Borrowing k r)) Idle p refl refl)
    (λ t. q)
borrow-pass-parts s c Idle q p = q
borrow-pass-parts s c (Reading o a m) q p = q
borrow-pass-parts s c (Writing k i r a) q p = q
borrow-pass-parts s c (Comparing k i r) q p = q

-- ---- the passes of a step

pub reads-parts : (f : ℕ) (s : Step) → Parts s.node → Parts (reads f s).node
reads-parts f s p = read-pass-parts f s s.node s.node.wait p p

pub writes-parts : (f : ℕ) (s : Step) → Parts s.node → Parts (writes f s).node
writes-parts f s p = write-pass-parts f s s.node s.node.wait p p

pub compares-parts : (f : ℕ) (s : Step) → Parts s.node → Parts (compares f s).node
compares-parts f s p = compare-pass-parts f s s.node s.node.wait p p

pub borrows-parts : (s : Step) → Parts s.node → Parts (borrows s).node
borrows-parts s p = borrow-pass-parts s s.node s.node.wait p p

pub move-on-parts : (f : ℕ) (s : Step) → Parts s.node → Parts (move_on f s).node
unfolding move_on
move-on-parts f s p =
    let a = reads f s in
    let b = writes f a in
    borrows-parts (compares f b) (compares-parts f b (writes-parts f a (reads-parts f s p)))
