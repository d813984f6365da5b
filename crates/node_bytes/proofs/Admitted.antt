-- What is known of the bytes where a call on them is admitted, and what it answers where it is not. Assumes nothing.
use Prim.Native.Nat.{ℕ, ◌≤◌}
use mathlib.Core.Path.{◌≡◌, refl, sym, ap, ◌∙◌, subst}
use mathlib.Core.Bool.{Bool, true, false}
use mathlib.Core.List.{List}
use native.Mathlib.Omega.{arith}
use lib.Dec.{eqb, leb}
use lib.ListN.{length}
use borrow.Author.Tests.{eqb-true, eq-eqb, leb-true, le-leb}
use Rattle.octets.specs.Test.{pick, both}
use Rattle.octets.specs.Word.{word}
use Rattle.octets.proofs.Test.{both_left, both_right, both_true, true-false, not-true-false}
use Rattle.view.specs.Size.{nodes}
use Rattle.record.specs.Usable.{sizes_within, numbers_ok, tables_ok, usable}
use Rattle.record.specs.declared.Node.{Node}
use Rattle.record.proofs.Parts.{parts}
use Rattle.calls.specs.CallResult.{CallResult}
use Rattle.calls.specs.Entry as N
use Rattle.region.specs.Record.{record_size, n_place, f_place, own_place, record_of, codes_known}
use Rattle.block.specs.Block.{record_sound}
use Rattle.calls_bytes.specs.Entry.{fits, usable_in, in_bytes, at_record, refuse}
use Rattle.calls_bytes.proofs.Cases.{at-12, at-2, at-known}
use Rattle.node_bytes.specs.Admission.{admission}

-- ---- a record is judged with its own n, f and number

-- they are not those of a node that may be
pub not_within : (r : List ℕ) {n f own : ℕ} → n ≡ word r n_place → f ≡ word r f_place → own ≡ word r own_place
    → sizes_within n f own ≡ false → false ≡ usable_in r
unfolding record_of usable
not_within r {n} {f} {own} e g h s = sym (not-true-false (usable_in r) (λ u.
    let c = record_of r in
    let within = both_left (sizes_within c.n c.f c.own) (both (numbers_ok c) (tables_ok c))
    (both_right (codes_known r) (usable c) u) in
    true-false (sizes_within n f own) (rw (e, g, h) within) s))

with-true : (b : Bool) {x y z : Bool} → x ≡ true → y ≡ true → z ≡ true → both b (both (both x y) z) ≡ b
with-true true p q h = rw (p, q, h) refl
with-true false p q h = refl

pub own-sound : (r : List ℕ) {n f own : ℕ} → n ≡ word r n_place → f ≡ word r f_place → own ≡ word r own_place
    → record_sound n f own r ≡ usable_in r
unfolding record_of
own-sound r {n} {f} {own} e g h = with-true (usable_in r) (eq-eqb (word r n_place) n (sym e))
    (eq-eqb (word r f_place) f (sym g)) (eq-eqb (word r own_place) own (sym h))

pub in-refused : (k : ℕ) (r out : List ℕ) → in_bytes r (N.refuse k (record_of r) out) ≡ refuse k r out
unfolding in_bytes
in-refused k r out = refl

-- ---- admission

pub record Admitted (least : ℕ) (r out : List ℕ) : Type 0 where
  pub long : length r ≡ record_size
  pub room : least ≤ length out
  pub known : codes_known r ≡ true
  pub can-step : usable (record_of r) ≡ true

-- the number by its two tests
number : Bool → Bool → ℕ
number x y = pick x (pick y 0 2) 12

module _ (least : ℕ) (r : List ℕ) (room : ℕ) where
  pub is-12 : fits least r room ≡ false → 12 ≡ admission least r room
  unfolding admission
  is-12 h = rw h refl

  pub is-2 : fits least r room ≡ true → usable_in r ≡ false → 2 ≡ admission least r room
  unfolding admission
  is-2 h u = rw (h, u) refl

  pub is-0 : fits least r room ≡ true → usable_in r ≡ true → 0 ≡ admission least r room
  unfolding admission
  is-0 h u = rw (h, u) refl

none-applies : (x y : Bool) → number x y ≡ 0 → (x ≡ true) × (y ≡ true)
unfolding number
none-applies true true h = (refl, refl)
none-applies true false h = absurd (omega arith)
none-applies false y h = absurd (omega arith)

module _ (least : ℕ) (r out : List ℕ) where
  pub admitted : admission least r (length out) ≡ 0 → Admitted least r out
  unfolding admission number
  admitted h =
      let z = none-applies (fits least r (length out)) (usable_in r) h in
      let l = eqb (length r) record_size in
      let o = leb least (length out) in
      record {
        long = eqb-true _ _ (both_left l o z.0);
        room = leb-true _ _ (both_right l o z.0);
        known = both_left (codes_known r) (usable (record_of r)) z.1;
        can-step = both_right (codes_known r) (usable (record_of r)) z.1;
      }

module _ (r out : List ℕ) where
  -- the call itself refuses a record that cannot be used
  module _ (call : Node → CallResult)
      (two : N.least_output ≤ length out → usable (record_of r) ≡ false
      → call (record_of r) ≡ N.refuse 2 (record_of r) out) where
    turned_by : (x y z : Bool) → fits N.least_output r (length out) ≡ x → codes_known r ≡ y → usable (record_of r) ≡ z
        → {k : ℕ} → number x (both y z) ≡ k → (k ≡ 0 → ⊥) → at_record r out call ≡ refuse k r out
    unfolding number
    turned_by false y z e f g q h = at-12 r out call e ∙ ap (λ j. refuse j r out) q
    turned_by true false z e f g q h = at-2 r out call e f ∙ ap (λ j. refuse j r out) q
    turned_by true true false e f g q h =
        at-known r out call e f
        ∙ ap (in_bytes r) (two (leb-true _ _ (both_right (eqb (length r) record_size) _ e)) g) ∙ in-refused 2 r out
        ∙ ap (λ j. refuse j r out) q
    turned_by true true true e f g q h = absurd (h (sym q))

    pub turned : {k : ℕ} → k ≡ admission N.least_output r (length out) → (k ≡ 0 → ⊥)
        → at_record r out call ≡ refuse k r out
    unfolding admission number
    turned q h =
        turned_by (fits N.least_output r (length out)) (codes_known r) (usable (record_of r)) refl refl refl (sym q) h

-- ---- a call that is admitted

module _ (r out : List ℕ) (call : Node → CallResult) (h : Admitted N.least_output r out) where
  pub at-admitted : at_record r out call ≡ in_bytes r (call (record_of r))
  at-admitted =
      at-known r out call (both_true (eq-eqb (length r) record_size h.long) (le-leb N.least_output _ h.room))
      h.known

  pub refused-at : {k : ℕ} → call (record_of r) ≡ N.refuse k (record_of r) out → at_record r out call ≡ refuse k r out
  refused-at {k} e = at-admitted ∙ ap (in_bytes r) e ∙ in-refused k r out

-- the number that was read is the record's n
pub own-n : (r : List ℕ) {n : ℕ} → n ≡ word r n_place → (record_of r).n ≡ n
unfolding record_of
own-n r e = sym e

pub small_n : (r : List ℕ) {n : ℕ} → usable (record_of r) ≡ true → (record_of r).n ≡ n → n ≤ nodes
small_n r u e = subst (λ (j : ℕ). j ≤ nodes) e (parts (record_of r) u).n-high
