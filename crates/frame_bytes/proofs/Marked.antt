-- The numbers that a frame is judged on are those of a record that its handlers have changed. Assumes nothing.
use Prim.Native.Nat.{ℕ, ◌+◌, ◌-◌, ◌≤◌, max}
use mathlib.Core.Path.{◌≡◌, refl, sym, ap, ◌∙◌, subst}
use mathlib.Core.Bool.{true}
use mathlib.Core.List.{List}
use native.Mathlib.Decide.{ℕ_discrete}
use native.Mathlib.Omega.{arith}
use lib.Dec.{leb, ltb}
use lib.ListN.{length, get_or, set, length-set}
use lib.Seq.{get_or-set_same, get_or-set_other}
use borrow.Author.Tests.{leb-true, ltb-true, ltb-false, lt-ltb}
use Rattle.octets.specs.Test.{pick, both}
use Rattle.octets.specs.Loop.{tab}
use Rattle.octets.proofs.Table.{length-tab, get_d-tab}
use Rattle.octets.proofs.Test.{both_left, both_right}
use Rattle.view.specs.Size.{nodes}
use Rattle.view.specs.declared.Report.{Report}
use Rattle.view.specs.declared.View.{View}
use Rattle.wire.specs.declared.Message.{Message}
use Rattle.wire.specs.declared.Message.TheVariants.{Read, ReadAnswer, Write, WriteAnswer, Echo, Value, Good}
use Rattle.table.specs.Table.{at, tag_of, heard_of, cell, put_entry}
use Rattle.table.proofs.Entries.{put_entry-tag, put_entry-tag-other}
use Rattle.record.specs.declared.Node.{Node}
use Rattle.step.specs.React.{raised, received, keep, is_new, react}
use Rattle.step.specs.Stale.{stale_message, writer_within}
use Rattle.step.proofs.Numbers.{on-pick}
use Rattle.region.proofs.Back.{SizedNode}
use Rattle.frame_bytes.specs.Marks.{late_by, heard_after, last_after, top_after}

-- what a table has that was made by a rule: for writers 1 to n theirs, and 0 past them
pub marked : {t : List ℕ} (n : ℕ) (f : ℕ → ℕ) → t ≡ tab nodes (λ i. pick (ltb i n) (f (i + 1)) 0) → n ≤ nodes
    → (length t ≡ nodes) × ((w : ℕ) → 1 ≤ w → w ≤ n → at t w ≡ f w)
marked n f e h = (
  ap length e ∙ length-tab nodes _,
  λ w l k. ap (λ t. at t w) e ∙ get_d-tab nodes _ (w - 1) 0 (omega arith)
      ∙ rw (lt-ltb (w - 1) n (omega arith)) (ap f (omega arith)),
)

-- the writer of a value
pub writer-is : (m : Message) {n t w : ℕ} {p : Report} → m ≡ Value t w p → writer_within n m ≡ true → (1 ≤ w) × (w ≤ n)
writer-is m {n} {t} {w} {p} e h =
    let b : both (leb 1 w) (leb w n) ≡ true = subst (λ (x : Message). writer_within n x ≡ true) e h in
    (leb-true 1 w (both_left (leb 1 w) (leb w n) b), leb-true w n (both_right (leb 1 w) (leb w n) b))

-- ---- the numbers of a record, for sender s and writers 1 to n

pub record Matches (n s : ℕ) (heard last : List ℕ) (top : ℕ) (c : Node) : Type 0 where
  pub heard-is : (w : ℕ) → 1 ≤ w → w ≤ n → at heard w ≡ heard_of c.heard s w
  pub last-is : (w : ℕ) → 1 ≤ w → w ≤ n → at last w ≡ tag_of c.last w
  pub top-is : top ≡ c.maxtag

module _ (n s : ℕ) (heard last : List ℕ) (top : ℕ) (c : Node) (h : Matches n s heard last top c) where
  pub late_is : (m : Message) → writer_within n m ≡ true → late_by heard last top m ≡ stale_message c s m
  late_is (Value t w p) k =
      let b = writer-is (Value t w p) refl k in
      rw (h.heard-is w b.0 b.1, h.last-is w b.0 b.1, h.top-is) refl
  late_is (Read q) k = refl
  late_is (ReadAnswer q t) k = refl
  late_is (Write q t) k = refl
  late_is (WriteAnswer q t) k = refl
  late_is (Echo t) k = refl
  late_is (Good t) k = refl

  -- a tag above maxtag
  raised-top : (t : ℕ) → max top t ≡ (raised c t).maxtag
  unfolding raised
  raised-top t =
      on-pick (λ (x : ℕ). max top t ≡ x) (ltb c.maxtag t) t c.maxtag
      (λ e. let g = ltb-true c.maxtag t e in let k = h.top-is in omega (arith, g, k))
      (λ e. let g = ltb-false c.maxtag t e in let k = h.top-is in omega (arith, g, k))

  raised-on : (t : ℕ) → Matches n s heard last (max top t) (raised c t)
  unfolding raised
  raised-on t = record { heard-is = h.heard-is; last-is = h.last-is; top-is = raised-top t }

  -- a value
  module _ (z : SizedNode c) (small : n ≤ nodes) (long-heard : nodes ≤ length heard) (long-last : nodes ≤ length last)
      (low : 1 ≤ s) (high : s ≤ nodes) (t w : ℕ) (p : Report) (wl : 1 ≤ w) (wh : w ≤ n) where
    value-heard : (x : ℕ) → 1 ≤ x → x ≤ n → at (set heard (w - 1) t) x ≡ heard_of (set c.heard (cell s w) t) s x
    value-heard x a b = elim (ℕ_discrete x w) [
      | yes e ↦
          let i : x - 1 ≡ w - 1 = omega (arith, e) in
          ap (λ (j : ℕ). get_or (set heard (w - 1) t) j 0) i
          ∙ get_or-set_same heard (w - 1) t 0 (omega (arith, wl, wh, small, long-heard))
          ∙ sym (ap (λ (j : ℕ). get_or (set c.heard (cell s w) t) j 0) (ap (cell s) e)
          ∙ get_or-set_same c.heard (cell s w) t 0 (let q = z.heard in omega (arith, q, wl, wh, small, low, high)))
      | no d ↦
          get_or-set_other heard (w - 1) (x - 1) t 0 (λ e. d (omega (arith, e, a, wl)))
          ∙ h.heard-is x a b
          ∙ sym (get_or-set_other c.heard (cell s w) (cell s x) t 0 (λ e. d (omega (arith, e, a, wl))))
    ]

    value-last : (x : ℕ) → 1 ≤ x → x ≤ n
        → at (set last (w - 1) (max (at last w) t)) x ≡ tag_of (pick (is_new c w t) (put_entry c.last w t p) c.last) x
    value-last x a b =
        let i = h.last-is w wl wh in
        on-pick (λ (v : View). at (set last (w - 1) (max (at last w) t)) x ≡ tag_of v x) (is_new c w t)
        (put_entry c.last w t p) c.last
        (λ e. let g = ltb-true (tag_of c.last w) t e in
        let m : max (at last w) t ≡ t = omega (arith, g, i) in
        rw m (new x a b))
        (λ e. let g = ltb-false (tag_of c.last w) t e in
        let m : max (at last w) t ≡ at last w = omega (arith, g, i) in
        rw m (old x a b))
      where
        new : (x : ℕ) → 1 ≤ x → x ≤ n → at (set last (w - 1) t) x ≡ tag_of (put_entry c.last w t p) x
        new x a b = elim (ℕ_discrete x w) [
          | yes e ↦
              let i : x - 1 ≡ w - 1 = omega (arith, e) in
              ap (λ (j : ℕ). get_or (set last (w - 1) t) j 0) i
              ∙ get_or-set_same last (w - 1) t 0 (omega (arith, wl, wh, small, long-last))
              ∙ sym (ap (λ (j : ℕ). tag_of (put_entry c.last w t p) j) e
              ∙ put_entry-tag c.last w t p wl (omega (arith, wh, small)) (z.last.tags, z.last.reports))
          | no d ↦
              get_or-set_other last (w - 1) (x - 1) t 0 (λ e. d (omega (arith, e, a, wl)))
              ∙ h.last-is x a b ∙ sym (put_entry-tag-other c.last w t p wl (omega (arith, wh, small)) x a d)
        ]

        old : (x : ℕ) → 1 ≤ x → x ≤ n → at (set last (w - 1) (at last w)) x ≡ tag_of c.last x
        old x a b = elim (ℕ_discrete x w) [
          | yes e ↦
              let i : x - 1 ≡ w - 1 = omega (arith, e) in
              ap (λ (j : ℕ). get_or (set last (w - 1) (at last w)) j 0) i
              ∙ get_or-set_same last (w - 1) (at last w) 0 (omega (arith, wl, wh, small, long-last))
              ∙ h.last-is w wl wh ∙ ap (tag_of c.last) (sym e)
          | no d ↦
              get_or-set_other last (w - 1) (x - 1) (at last w) 0 (λ e. d (omega (arith, e, a, wl))) ∙ h.last-is x a b
        ]

  -- what a handler leaves
  pub matches-on : SizedNode c → n ≤ nodes → nodes ≤ length heard → nodes ≤ length last → 1 ≤ s → s ≤ nodes
      → (m : Message) (v : View) → writer_within n m ≡ true
      → Matches n s (heard_after heard m) (last_after last m) (top_after top m) (react c s m v).node
  unfolding react received keep
  matches-on z small lh ll low high (Value t w p) v k =
      let b = writer-is (Value t w p) refl k in
      record {
        heard-is = value-heard z small lh ll low high t w p b.0 b.1;
        last-is = value-last z small lh ll low high t w p b.0 b.1;
        top-is = h.top-is;
      }
  matches-on z small lh ll low high (Write q t) v k = raised-on t
  matches-on z small lh ll low high (Echo t) v k = raised-on t
  matches-on z small lh ll low high (Read q) v k = h
  matches-on z small lh ll low high (ReadAnswer q t) v k =
      record { heard-is = h.heard-is; last-is = h.last-is; top-is = h.top-is }
  matches-on z small lh ll low high (WriteAnswer q t) v k =
      record { heard-is = h.heard-is; last-is = h.last-is; top-is = h.top-is }
  matches-on z small lh ll low high (Good t) v k =
      record { heard-is = h.heard-is; last-is = h.last-is; top-is = h.top-is }

-- equal numbers match alike
pub matches-as : (n s : ℕ) {heard heard' last last' : List ℕ} {top top' : ℕ} (c : Node) → heard' ≡ heard → last' ≡ last
    → top' ≡ top → Matches n s heard last top c → Matches n s heard' last' top' c
matches-as n s c e f g h =
    record {
      heard-is = λ w a b. ap (λ (l : List ℕ). at l w) e ∙ h.heard-is w a b;
      last-is = λ w a b. ap (λ (l : List ℕ). at l w) f ∙ h.last-is w a b;
      top-is = g ∙ h.top-is;
    }

-- the lengths stay
pub heard-long : (l : List ℕ) (m : Message) → length (heard_after l m) ≡ length l
heard-long l (Value t w p) = length-set l (w - 1) t
heard-long l (Read q) = refl
heard-long l (ReadAnswer q t) = refl
heard-long l (Write q t) = refl
heard-long l (WriteAnswer q t) = refl
heard-long l (Echo t) = refl
heard-long l (Good t) = refl

pub last-long : (l : List ℕ) (m : Message) → length (last_after l m) ≡ length l
last-long l (Value t w p) = length-set l (w - 1) (max (at l w) t)
last-long l (Read q) = refl
last-long l (ReadAnswer q t) = refl
last-long l (Write q t) = refl
last-long l (WriteAnswer q t) = refl
last-long l (Echo t) = refl
last-long l (Good t) = refl
