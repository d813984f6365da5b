-- Letting entries out, in the pieces in which it is done.
use Prim.Native.Nat.{ℕ, zero, suc, ◌+◌, ◌-◌, ◌<◌, ◌≤◌, min}
use native.Mathlib.Omega.{arith}
use native.Mathlib.Numerals.{add-one}
use mathlib.Core.Path.{◌≡◌, refl, sym, ap, ap₂, ◌∙◌}
use mathlib.Core.Bool.{true, false}
use mathlib.Core.List.{List, [], ◌∷◌, ◌++◌}
use lib.ListN.{length, take}
use lib.Seq.{take_all}
use Rattle.octets.specs.Loop.{up_to}
use Rattle.octets.proofs.Loop.{up_to-none, up_to-more, each_none, each-one, each_append}
use Rattle.octets.proofs.Lent.{take-append}
use Rattle.view.specs.Size.{nodes}
use Rattle.table.specs.Loop.{numbered}
use Rattle.table.proofs.Laws.{numbered-none, numbered_more}
use Rattle.view.specs.declared.View.{View}
use Rattle.wire.specs.declared.Message.{Message}
use Rattle.step.specs.Step.{listed}
use Rattle.step.specs.declared.Outbox.{Outbox}
use Rattle.block.specs.Block.{receive}
use Rattle.outgoing.specs.Entries.{Entry, entry, is_answer, addressed, entries_of, entries, slot}
use Rattle.outgoing.proofs.Laws.{entries-two, entries-three, entries-most, cut-numbered, left_both}
use Rattle.layout.specs.Layout.{on_block}
use Rattle.outgoing.specs.declared.Extent.{Extent}
use Rattle.outgoing.specs.declared.Extent.TheVariants.{Whole, Cut}
use Rattle.outgoing.specs.Outgoing.{send, let_out, shortened, most}

pub let-none : (n c : ℕ) (b : List ℕ) → let_out n c [] b ≡ b
unfolding let_out
let-none n c b = each_none (send n c) b

pub let-one : (n c : ℕ) (e : Entry) (b : List ℕ) → let_out n c (e ∷ []) b ≡ send n c e b
unfolding let_out
let-one n c e b = each-one (send n c) e b

pub let-append : (n c : ℕ) (k l : List Entry) (b : List ℕ) → let_out n c (k ++ l) b ≡ let_out n c l (let_out n c k b)
unfolding let_out
let-append n c k l b = each_append (send n c) k l b

-- to each of 1 to k
pub let-all : (n c k : ℕ) (v : View) (m : Message) (b : List ℕ)
    → let_out n c (numbered k (entry v m)) b ≡ up_to k (λ i. on_block (i + 1) (receive c (slot n m v))) b
let-all n c zero v m b =
    ap (λ (l : List Entry). let_out n c l b) (numbered-none (entry v m)) ∙ let-none n c b
    ∙ sym (up_to-none (λ i. on_block (i + 1) (receive c (slot n m v))) b)
let-all n c (suc k) v m b =
    let one : suc k ≡ k + 1 = sym (add-one k) in
    let f : ℕ → List ℕ → List ℕ = λ i. on_block (i + 1) (receive c (slot n m v)) in
    ap (λ (j : ℕ). let_out n c (numbered j (entry v m)) b) one
    ∙ ap (λ (l : List Entry). let_out n c l b) (numbered_more k (entry v m))
    ∙ let-append n c (numbered k (entry v m)) (entry v m (k + 1) ∷ []) b
    ∙ let-one n c (entry v m (k + 1)) (let_out n c (numbered k (entry v m)) b)
    ∙ ap (λ (t : List ℕ). on_block (k + 1) (receive c (slot n m v)) t) (let-all n c k v m b)
    ∙ sym (up_to-more k f b)
    ∙ ap (λ (j : ℕ). up_to j f b) (sym one)

-- the first entries of one message
module _ (n a c : ℕ) (v : View) (m : Message) (left : ℕ) (b : List ℕ) where
  pub let-nothing : left < 1 → let_out n c (take left (addressed n a v m)) b ≡ b
  let-nothing h = let e : left ≡ 0 = omega arith in
      ap (λ (k : ℕ). let_out n c (take k (addressed n a v m)) b) e ∙ let-none n c b

  pub let-answer : is_answer m ≡ true → 1 ≤ left
      → let_out n c (take left (addressed n a v m)) b ≡ on_block a (receive c (slot n m v)) b
  unfolding addressed
  let-answer e h =
      rw e (ap (λ (l : List Entry). let_out n c l b) (take_all left (entry v m a ∷ []) h) ∙ let-one n c (entry v m a) b)

  pub let-others : is_answer m ≡ false
      → let_out n c (take left (addressed n a v m)) b ≡ up_to (min left n) (λ i. on_block (i + 1)
      (receive c (slot n m v)))
      b
  unfolding addressed
  let-others e =
      rw e (ap (λ (l : List Entry). let_out n c l b) (cut-numbered n left (entry v m)) ∙ let-all n c (min left n) v m b)

pub let-empty : (n a c : ℕ) (v : View) (left : ℕ) (b : List ℕ) → let_out n c (take left (entries_of n a v [])) b ≡ b
unfolding entries_of
let-empty n a c v zero b = let-none n c b
let-empty n a c v (suc left) b = let-none n c b

-- the first entries of two lists, one after the other
pub let-then : (n c left : ℕ) (k l : List Entry) (b : List ℕ) {x y : List ℕ} {rest : ℕ} → x ≡ let_out n c (take left k)
    b
    → rest ≡ left - length k → y ≡ let_out n c (take rest l) x → y ≡ let_out n c (take left (k ++ l)) b
let-then n c left k l b {x} {y} {rest} p e q =
    q ∙ ap₂ (λ (r : ℕ) (t : List ℕ). let_out n c (take r l) t) e p
    ∙ sym (let-append n c (take left k) (take (left - length k) l) b)
    ∙ ap (λ (t : List Entry). let_out n c t b) (sym (take-append left k l))

pub let-two : (n a c left : ℕ) (v : View) (m k : Message) (b : List ℕ) {x y : List ℕ} {rest : ℕ}
    → x ≡ let_out n c (take left (addressed n a v m)) b → rest ≡ left - length (addressed n a v m)
    → y ≡ let_out n c (take rest (addressed n a v k)) x → y ≡ let_out n c (take left (entries_of n a v (m ∷ k ∷ []))) b
let-two n a c left v m k b p e q =
    let-then n c left (addressed n a v m) (addressed n a v k) b p e q
    ∙ ap (λ (t : List Entry). let_out n c (take left t) b) (sym (entries-two n a v m k))

pub let-three : (n a c left : ℕ) (o : Outbox) (b : List ℕ) {x y z : List ℕ} {second third : ℕ}
    → x ≡ let_out n c (take left (entries_of n a o.view (listed o.handler))) b
    → second ≡ left - length (entries_of n a o.view (listed o.handler))
    → y ≡ let_out n c (take second (entries_of n a o.view (listed o.reading))) x
    → third ≡ second - length (entries_of n a o.view (listed o.reading))
    → z ≡ let_out n c (take third (entries_of n a o.view (listed o.comparing))) y
    → z ≡ let_out n c (take left (entries n a o)) b
let-three n a c left o b p d q e r =
    let h = entries_of n a o.view (listed o.handler) in
    let g = entries_of n a o.view (listed o.reading) in
    let k = entries_of n a o.view (listed o.comparing) in
    let-then n c left (h ++ g) k b (let-then n c left h g b p d q)
    (e ∙ ap (λ (j : ℕ). j - length g) d ∙ left_both left h g) r
    ∙ ap (λ (t : List Entry). let_out n c (take left t) b) (sym (entries-three n a o))

-- what an event lets out is among so many entries
pub shortened-most : (n a : ℕ) (x : Extent) (o : Outbox) → 1 ≤ n → n ≤ nodes → take (most x) (entries n a o)
    ≡ shortened x (entries n a o)
shortened-most n a Whole o h k = take_all (most Whole) (entries n a o) (omega (arith, entries-most n a o h))
shortened-most n a (Cut m) o h k = refl
