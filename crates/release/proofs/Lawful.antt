-- What a step lets out is lawful: so are the messages of each of its parts, and each is allowed.
use Prim.Native.Nat.{ℕ, ◌≤◌}
use native.Mathlib.Omega.{arith}
use mathlib.Core.Path.{◌≡◌, subst}
use mathlib.Core.Bool.{true}
use mathlib.Core.List.{List, [], ◌∷◌, ◌++◌}
use borrow.Author.Tests.{le-leb}
use Rattle.octets.proofs.Test.{both_true}
use Rattle.view.specs.Size.{nodes, is_size}
use Rattle.view.specs.View.{view_bytes}
use Rattle.view.specs.declared.View.{View}
use Rattle.wire.specs.Layout.{allowed}
use Rattle.wire.specs.declared.Message.{Message}
use Rattle.step.specs.Claims.{AllLawful}
use Rattle.step.specs.Step.{listed, messages}
use Rattle.step.specs.declared.Outbox.{Outbox}
use Rattle.step.specs.declared.Sent.{Sent}
use Rattle.step.specs.declared.Sent.TheVariants.{One, Two}
use Rattle.step.proofs.Allowed.{lawful-allowed}

pub size_of : (n c : ℕ) → n ≤ nodes → 1 ≤ c → c ≤ n → is_size n ≡ true
size_of n c small lo hi = both_true (le-leb 1 n (omega arith)) (le-leb n nodes small)

module _ (n : ℕ) (v : View) where
  lawful-left : (a b : List Message) → AllLawful n v (a ++ b) → AllLawful n v a
  lawful-left [] b h = tt
  lawful-left (m ∷ a) b h = (h.0, lawful-left a b h.1)

  lawful-right : (a b : List Message) → AllLawful n v (a ++ b) → AllLawful n v b
  lawful-right [] b h = h
  lawful-right (m ∷ a) b h = lawful-right a b h.1

  -- the messages of one part
  pub one-allowed : (s : Sent) {m : Message} → n ≤ nodes → AllLawful n v (listed s) → s ≡ One m
      → allowed n m (view_bytes n v) ≡ true
  one-allowed s {m} small h e =
      lawful-allowed n m v small (subst (λ (x : Sent). AllLawful n v (listed x)) e h).0

  pub two-allowed : (s : Sent) {m k : Message} → n ≤ nodes → AllLawful n v (listed s) → s ≡ Two m k
      → (allowed n m (view_bytes n v) ≡ true) × (allowed n k (view_bytes n v) ≡ true)
  two-allowed s {m} {k} small h e =
      let l : AllLawful n v (m ∷ k ∷ []) = subst (λ (x : Sent). AllLawful n v (listed x)) e h in
      (lawful-allowed n m v small l.0, lawful-allowed n k v small l.1.0)

-- the three parts
module _ (n : ℕ) (o : Outbox) (h : AllLawful n o.view (messages o)) where
  abbrev first : List Message
  first = listed o.handler

  abbrev second : List Message
  second = listed o.reading

  abbrev third : List Message
  third = listed o.comparing

  both-lawful : AllLawful n o.view (first ++ second)
  both-lawful = lawful-left n o.view (first ++ second) third h

  pub handler-lawful : AllLawful n o.view first
  handler-lawful = lawful-left n o.view first second both-lawful

  pub reading-lawful : AllLawful n o.view second
  reading-lawful = lawful-right n o.view first second both-lawful

  pub comparing-lawful : AllLawful n o.view third
  comparing-lawful = lawful-right n o.view (first ++ second) third h
