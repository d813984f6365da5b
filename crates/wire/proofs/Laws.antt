-- The claims of specs/Laws hold.
use mathlib.Core.Path.{◌≡◌, refl, sym, ap, ◌∙◌}
use mathlib.Core.List.{[], append-nil}
use Prim.Native.Nat.{ℕ, ◌-◌}
use native.Mathlib.Omega.{arith}
use lib.ListN.{drop}
use Rattle.octets.specs.Answer.{Answer, returned, refused}
use Rattle.octets.specs.Bytes.{part}
use Rattle.view.specs.Size.{view_size}
use Rattle.wire.specs.Layout.{encode, good_head}
use Rattle.wire.specs.Codec.{front, decode, view_at, view_read, view_part, address_read, view_address}
use Rattle.wire.specs.Codec.{view_found, front_part, address_found, front_address}
use Rattle.wire.specs.declared.Message.{Message}
use Rattle.wire.specs.declared.Message.TheVariants.{Good}
use Rattle.wire.specs.Laws as claim
use Rattle.wire.proofs.Numbers as numbers
use Rattle.wire.proofs.RoundTrip as trip
use Rattle.wire.proofs.Handed as views

pub read_back : claim.ReadBack
read_back = trip.read_back

pub view-back : claim.ViewBack
view-back = trip.view-back

pub front-view-back : claim.FrontViewBack
front-view-back = trip.front-view-back

pub front-back : claim.FrontBack
front-back = trip.front-back

pub front_same : claim.FrontSame
front_same n b c m k e p =
    (trip.front_same n b m k e c p, trip.own-front n b m k e c p ∙ sym (trip.own-front n b m k e b refl))

pub front-alone : claim.FrontAlone
front-alone n b m k e =
    (trip.front-some n b m k e, trip.front-within n b m k e, trip.front-alone n b m k e, trip.alone-view n b m k e)

pub nothing-after : claim.NothingAfter
nothing-after = trip.nothing-after

pub write-back : claim.WriteBack
write-back n b m e = let w = trip.read_only n b m e in (w.sized, w.allowed-is, w.bytes)

pub accepts : claim.Accepts
accepts = trip.accepts

pub refuses-seven : claim.RefusesSeven
refuses-seven = trip.refuses-seven

pub refuses-one : claim.RefusesOne
refuses-one = trip.refuses-one

pub injective : claim.Injective
injective = trip.injective

pub lengths : claim.Lengths
lengths = numbers.length-encode

pub view-place : claim.ViewPlace
unfolding view_address
view-place n t b e =
    let w = trip.read_only n b (Good t) e in
    let v = view_part n b in (
      views.good-long n t b e,
      sym (ap (view_at n) (w.bytes ∙ sym (append-nil (encode (Good t) v)))
          ∙ trip.view-place n t v [] w.allowed-is),
      λ p. ap (λ (a : Answer Message). address_read a p) e,
    )

pub front-view-place : claim.FrontViewPlace
unfolding front_part front_address
front-view-place n t k b e =
    let l = views.good-front n t k b e in
    let i = l.0 in
    let j : k - good_head ≡ view_size n = omega (arith, i) in (
      l.0,
      l.1,
      ap (λ (a : Answer (Message × ℕ)). view_found b a) e ∙ ap (λ (m : ℕ). part b good_head m) j,
      λ p. ap (λ (a : Answer (Message × ℕ)). address_found a p) e,
    )

pub view-only-good : claim.ViewOnlyGood
unfolding view_part
view-only-good n b h = go (decode n b) refl
  where
    go : (a : Answer Message) → decode n b ≡ a → view_read b a ≡ []
    go (returned m) e = views.view-none m (drop good_head b) (λ t q. h t (e ∙ ap (λ (x : Message). returned x) q))
    go (refused c) e = refl

pub front-view-only-good : claim.FrontViewOnlyGood
unfolding front_part
front-view-only-good n b h = go (front n b) refl
  where
    go : (a : Answer (Message × ℕ)) → front n b ≡ a → view_found b a ≡ []
    go (returned p) e = views.view-none p.0 (part b good_head (p.1 - good_head))
        (λ t q. h t p.1 (e ∙ ap (λ (x : Message). returned (x, p.1)) q))
    go (refused c) e = refl
