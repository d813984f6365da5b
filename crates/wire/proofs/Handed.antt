-- The view that a reader hands back: which answers have one, and that its bytes are there.
use Prim.Native.Nat.{ℕ, ◌+◌, ◌-◌, ◌≤◌}
use mathlib.Core.Path.{◌≡◌, refl, sym, ap, ◌∙◌}
use mathlib.Core.Bool.{true}
use mathlib.Core.List.{List, []}
use native.Mathlib.Omega.{arith}
use lib.ListN.{length, take, drop, length-take, length-drop}
use lib.Seq.{take-length}
use Rattle.octets.specs.Answer.{Answer, returned}
use Rattle.view.specs.Size.{view_size}
use Rattle.wire.specs.Layout.{message_size, good_head}
use Rattle.wire.specs.Codec.{front, decode, view_at, is_good, view_in, view_read, view_part, view_found, front_part}
use Rattle.wire.specs.Codec.{address_read, view_address, address_found, front_address}
use Rattle.wire.specs.declared.Message.{Message}
use Rattle.wire.specs.declared.Message.TheVariants.{Read, ReadAnswer, Write, WriteAnswer, Echo, Value, Good}
use Rattle.wire.proofs.Numbers.{length-encode}
use Rattle.wire.proofs.RoundTrip.{front-only, read_only}

pub good-is : (m : Message) → is_good m ≡ true → (t : ℕ) × (m ≡ Good t)
good-is (Read r) h = (0, cc)
good-is (ReadAnswer r t) h = (0, cc)
good-is (Write r t) h = (0, cc)
good-is (WriteAnswer r t) h = (0, cc)
good-is (Echo t) h = (0, cc)
good-is (Value t w p) h = (0, cc)
good-is (Good t) h = (t, refl)

-- a message that is not good has the empty view
pub view-none : (m : Message) (v : List ℕ) → ((t : ℕ) → m ≡ Good t → ⊥) → view_in m v ≡ []
view-none (Read r) v h = refl
view-none (ReadAnswer r t) v h = refl
view-none (Write r t) v h = refl
view-none (WriteAnswer r t) v h = refl
view-none (Echo t) v h = refl
view-none (Value t w p) v h = refl
view-none (Good t) v h = absurd (h t refl)

-- a good message that was read has its head and its view
pub good-long : (n t : ℕ) (b : List ℕ) → decode n b ≡ returned (Good t) → length b ≡ good_head + view_size n
unfolding message_size
good-long n t b e =
    let w = read_only n b (Good t) e in
    ap (λ (x : List ℕ). length x) w.bytes ∙ length-encode n (Good t) (view_part n b) w.allowed-is

pub good-front : (n t k : ℕ) (b : List ℕ) → front n b ≡ returned (Good t, k) → (k ≡ good_head + view_size n)
    × (k ≤ length b)
unfolding message_size
good-front n t k b e =
    let f = front-only n b (Good t) k e in
    let v = view_at n b in
    let l : k ≡ good_head + view_size n = f.long ∙ length-encode n (Good t) v f.allowed-is in
    let m = sym (length-take k b) ∙ ap (λ (x : List ℕ). length x) f.bytes ∙ sym f.long in
    (l, omega (arith, m))

-- so its view begins inside of the bytes, and ends there
pub read-room : (n : ℕ) (b : List ℕ) (a : Answer Message) → a ≡ decode n b → (t : ℕ) → a ≡ returned (Good t)
    → good_head ≤ length b
read-room n b a e t g = let l = good-long n t b (sym e ∙ g) in omega (arith, l)

pub front-room : (n : ℕ) (b : List ℕ) (a : Answer (Message × ℕ)) → a ≡ front n b → (t k : ℕ) → a ≡ returned (Good t, k)
    → (good_head ≤ k) × (k ≤ length b)
front-room n b a e t k g = let l = good-front n t k b (sym e ∙ g) in (let i = l.0 in omega (arith, i), l.1)

-- the view and its address by the answer are those by the bytes
module _ (n : ℕ) (b : List ℕ) (a : Answer Message) (e : a ≡ decode n b) where
  pub read_view : view_read b a ≡ view_part n b
  unfolding view_part
  read_view = ap (λ (x : Answer Message). view_read b x) e

  pub read-address : (p : ℕ × ℕ) → address_read a p ≡ view_address n b p
  unfolding view_address
  read-address p = ap (λ (x : Answer Message). address_read x p) e

module _ (n : ℕ) (b : List ℕ) (a : Answer (Message × ℕ)) (e : a ≡ front n b) where
  pub found-view : view_found b a ≡ front_part n b
  unfolding front_part
  found-view = ap (λ (x : Answer (Message × ℕ)). view_found b x) e

  pub found-address : (p : ℕ × ℕ) → address_found a p ≡ front_address n b p
  unfolding front_address
  found-address p = ap (λ (x : Answer (Message × ℕ)). address_found x p) e

-- what stands from a place on
pub part_end : (i : ℕ) (b : List ℕ) → take (length b - i) (drop i b) ≡ drop i b
part_end i b = ap (λ (j : ℕ). take j (drop i b)) (sym (length-drop i b)) ∙ take-length (drop i b)
