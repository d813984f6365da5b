-- The bytes of a slot.
use Prim.Native.Nat.{ℕ, ◌≤◌}
use native.Mathlib.Omega.{arith}
use mathlib.Core.Path.{◌≡◌, refl, ap, ◌∙◌}
use mathlib.Core.Bool.{Bool, true}
use mathlib.Core.List.{List, ◌++◌}
use lib.Dec.{leb}
use lib.ListN.{length, take, replicate}
use borrow.Author.Tests.{le-leb}
use Rattle.octets.specs.Answer.{Answer, returned, refused}
use Rattle.octets.specs.Bytes.{part, put}
use Rattle.octets.specs.Test.{pick}
use Rattle.octets.proofs.Put.{part_same}
use Rattle.view.specs.Size.{nodes, is_size, view_size}
use Rattle.view.specs.View.{view_bytes}
use Rattle.view.specs.declared.View.{View}
use Rattle.wire.specs.Layout.{kind, tag, view, encode, allowed, message_size}
use Rattle.wire.specs.Codec.{answer, after}
use Rattle.wire.specs.declared.Message.{Message}
use Rattle.wire.specs.declared.Message.TheVariants.{Read, ReadAnswer, Write, WriteAnswer, Echo, Value, Good}
use Rattle.wire.proofs.Numbers.{size-most, length-encode}
use Rattle.region.specs.Channel.{slot_size}
use Rattle.outgoing.specs.Entries.{slot}

-- a run that was written at the front of w
pub front-put : (w v : List ℕ) (k : ℕ) {u : List ℕ} → length v ≡ k → u ≡ put w 0 v → take k u ≡ v
unfolding part
front-put w v k e p = ap (λ (t : List ℕ). take k t) p ∙ part_same w 0 v k (omega arith) e

-- a good message that was written there, from the bytes w of its view
module _ (t : ℕ) (v w s : List ℕ) (e : w ≡ v) (l : length v ≤ view_size nodes) (k : length s ≡ slot_size) where
  abbrev bytes : List ℕ → List ℕ
  bytes x = kind 7 ++ tag t ++ view x

  good-fits : length (bytes w) ≤ length s
  good-fits =
      let n : length w ≤ view_size nodes = rw e l in
      omega arith

  pub good-put : {r : Answer ℕ} {out : List ℕ}
      → r ≡ pick (leb (length (bytes w)) (length s)) (returned (length (bytes w))) (refused 12)
      → out ≡ after r (bytes w) s → out ≡ put s 0 (encode (Good t) v)
  unfolding encode
  good-put p q =
      let fits = le-leb (length (bytes w)) (length s) good-fits in
      q
      ∙ ap (λ (x : Answer ℕ). after x (bytes w) s)
      (p ∙ ap (λ (x : Bool). pick x (returned (length (bytes w))) (refused 12)) fits)
      ∙ ap (λ (x : List ℕ). put s 0 (bytes x)) e

-- every message is as short as a slot
size_fits : (n : ℕ) (m : Message) → n ≤ nodes → message_size n m ≤ slot_size
unfolding message_size
size_fits n (Read q) l = omega arith
size_fits n (ReadAnswer q t) l = omega arith
size_fits n (Write q t) l = omega arith
size_fits n (WriteAnswer q t) l = omega arith
size_fits n (Echo t) l = omega arith
size_fits n (Value t w p) l = omega arith
size_fits n (Good t) l = omega arith

pub slot-fits : (n : ℕ) (m : Message) (v : List ℕ) → is_size n ≡ true → allowed n m v ≡ true
    → length (encode m v) ≤ slot_size
slot-fits n m v size ok = omega (arith, length-encode n m v ok, size_fits n m (size-most n size))

-- the slot of one that is allowed has its bytes at the front
pub slot-put : (n : ℕ) (m : Message) (v : View) → is_size n ≡ true → allowed n m (view_bytes n v) ≡ true
    → slot n m v ≡ put (replicate slot_size 0) 0 (encode m (view_bytes n v))
unfolding slot answer
slot-put n m v size ok =
    rw (size, ok, le-leb (length (encode m (view_bytes n v))) slot_size (slot-fits n m (view_bytes n v) size ok)) refl
