-- What an allowed message tells, and the length of its bytes.
use Prim.Native.Nat.{ℕ, ◌≤◌}
use mathlib.Core.Path.{◌≡◌, refl, ap}
use mathlib.Core.Bool.{Bool, true, false}
use mathlib.Core.List.{List, []}
use lib.ListN.{length}
use lib.Dec.{leb, eqb}
use native.Mathlib.Omega.{arith}
use borrow.Author.Tests.{leb-true, eqb-true, ne_eqb}
use Rattle.octets.specs.Test.{both}
use Rattle.octets.proofs.Test.{both_left, both_right}
use Rattle.view.specs.Size.{is_size, nodes, view_size}
use Rattle.view.specs.View.{view_ok}
use Rattle.view.specs.declared.Report.{Report}
use Rattle.wire.specs.Layout.{encode, allowed, message_size, is_tag}
use Rattle.wire.specs.declared.Message.{Message}
use Rattle.wire.specs.declared.Message.TheVariants.{Read, ReadAnswer, Write, WriteAnswer, Echo, Value, Good}

pub size-most : (n : ℕ) → is_size n ≡ true → n ≤ nodes
size-most n h = leb-true n nodes (both_right (leb 1 n) (leb n nodes) h)

pub writer-most : (n t w : ℕ) (p : Report) (v : List ℕ) → allowed n (Value t w p) v ≡ true → w ≤ n
unfolding allowed
writer-most n t w p v h =
    leb-true w n (both_right (leb 1 w) (leb w n) (both_right (both (leb 1 t) (is_tag t)) (both (leb 1 w) (leb w n)) h))

pub view-length : (n t : ℕ) (v : List ℕ) → allowed n (Good t) v ≡ true → length v ≡ view_size n
unfolding allowed
view-length n t v h =
    eqb-true (length v) (view_size n) (both_left (eqb (length v) (view_size n)) (both (is_tag t) (view_ok n t v)) h)

-- no bytes are the view of one node or more
pub view-some : (n t : ℕ) → is_size n ≡ true → allowed n (Good t) [] ≡ false
unfolding allowed
view-some n t h =
    let l : 1 ≤ n = leb-true 1 n (both_left (leb 1 n) (leb n nodes) h) in
    let e : 0 ≡ view_size n → ⊥ = λ z. omega (arith, z) in
    ap (λ (x : Bool). both x (both (is_tag t) (view_ok n t []))) (ne_eqb 0 (view_size n) e)

-- the seven lengths
pub length-encode : (n : ℕ) (m : Message) (v : List ℕ) → allowed n m v ≡ true → length (encode m v) ≡ message_size n m
unfolding encode message_size
length-encode n (Read r) v h = refl
length-encode n (ReadAnswer r t) v h = refl
length-encode n (Write r t) v h = refl
length-encode n (WriteAnswer r t) v h = refl
length-encode n (Echo t) v h = refl
length-encode n (Value t w p) v h = refl
length-encode n (Good t) v h = let e : length v ≡ view_size n = view-length n t v h in omega arith
