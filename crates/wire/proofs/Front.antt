-- What the reader of the front answers, by what its tests found.
use Prim.Native.Nat.{ℕ}
use mathlib.Core.Path.{◌≡◌, refl, ap, ◌∙◌}
use mathlib.Core.Bool.{Bool, true, false}
use mathlib.Core.List.{List}
use lib.ListN.{length}
use Rattle.octets.specs.Answer.{Answer, returned, refused}
use Rattle.octets.specs.Test.{pick, both}
use Rattle.octets.specs.Bytes.{Bytes}
use Rattle.octets.proofs.Test.{both_right}
use Rattle.view.specs.Size.{is_size}
use Rattle.wire.specs.Layout.{encode, allowed, message_size}
use Rattle.wire.specs.Codec.{said, view_at, front}
use Rattle.wire.specs.Shape.{shape}
use Rattle.wire.proofs.Numbers.{length-encode}
use Rattle.wire.proofs.Shape.{shape_is}

-- a choice that gave a result took it, and one that was refused did not
pub chosen : {A : Type 0} (t : Bool) (m x : A) (c : ℕ) → returned m ≡ pick t (returned x) (refused c) → (t ≡ true) ×
    (m ≡ x)
chosen true m x c e = (refl, cc)
chosen false m x c e = (cc, cc)

pub not_chosen : {A : Type 0} (t : Bool) (x : A) (c d : ℕ) → refused c ≡ pick t (returned x) (refused d) → (t ≡ false)
    × (c ≡ d)
not_chosen true x c d e = (cc, cc)
not_chosen false x c d e = (refl, cc)

pub first-passed : {A : Type 0} (t : Bool) (a : Answer A) (c : ℕ) (x : A) → pick t a (refused c) ≡ returned x →
    (t ≡ true)
    × (a ≡ returned x)
first-passed true a c x e = (refl, e)
first-passed false a c x e = (cc, cc)

-- a choice takes what it is shown to take
picked : {A : Type 0} (t : Bool) (x y z : A) → (t ≡ true → x ≡ y) → pick t x z ≡ pick t y z
picked true x y z f = f refl
picked false x y z f = refl

module _ (n : ℕ) (b : List ℕ) (bytes : Bytes b) (n-ok : is_size n ≡ true) where
  front-is : front n b
      ≡ pick (both (shape n b) (allowed n (said b) (view_at n b)))
      (returned (said b, length (encode (said b) (view_at n b)))) (refused 7)
  unfolding front
  front-is =
      rw n-ok
      (ap (λ (t : Bool). pick t (returned (said b, length (encode (said b) (view_at n b)))) (refused 7))
      (shape_is n b bytes))

  pub front-judged : front n b
      ≡ pick (both (shape n b) (allowed n (said b) (view_at n b))) (returned (said b, message_size n (said b)))
      (refused 7)
  front-judged =
      front-is
      ∙ picked (both (shape n b) (allowed n (said b) (view_at n b)))
      (returned (said b, length (encode (said b) (view_at n b)))) (returned (said b, message_size n (said b)))
      (refused 7)
      (λ h. ap (λ (k : ℕ). returned (said b, k))
      (length-encode n (said b) (view_at n b) (both_right (shape n b) (allowed n (said b) (view_at n b)) h)))

pub front-size : (n : ℕ) (b : List ℕ) → is_size n ≡ false → front n b ≡ refused 1
unfolding front
front-size n b h = rw h
