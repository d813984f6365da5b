-- What usable says, fact by fact, and back. Assumes nothing.
use mathlib.Core.Path.{◌≡◌, refl}
use mathlib.Core.Bool.{Bool, true, false}
use Prim.Native.Nat.{ℕ, ◌+◌, ◌-◌, ◌≤◌, ◌<◌}
use native.Mathlib.Nat.{le_of_lt}
use native.Mathlib.Decide.{dec_le, dec_lt}
use native.Mathlib.Omega.{arith}
use lib.Dec.{leb, ltb}
use borrow.Author.Tests.{leb-true, le-leb, ltb-true, lt-ltb}
use Rattle.octets.proofs.Test.{both_left, both_right, both_true}
use Rattle.octets.specs.Test.{both}
use Rattle.view.specs.Size.{limit, nodes, is_size}
use Rattle.table.specs.Loop.{either}
use Rattle.table.specs.Quorum.{only, tolerates}
use Rattle.table.specs.Table.{view_within, heard_within}
use Rattle.table.proofs.Sets.{tolerates-half, half-tolerates}
use Rattle.record.specs.declared.Node.{Node}
use Rattle.record.specs.declared.Operation.{Operation}
use Rattle.record.specs.declared.Kind.{Kind}
use Rattle.record.specs.declared.Wait.TheVariants.{Reading, Writing}
use Rattle.record.specs.Usable.{still_uses, round_tag, round_ok, wait_ok, sizes_within, numbers_ok}
use Rattle.record.specs.Usable.{tables_ok, usable}

pub record Parts (c : Node) : Type 0 where
  pub n-low : 1 ≤ c.n
  pub n-high : c.n ≤ nodes
  pub half : c.f + c.f < c.n
  pub own-low : 1 ≤ c.own
  pub own-high : c.own ≤ c.n
  pub max-high : c.maxtag ≤ limit
  pub request-high : c.request ≤ limit
  pub kept_high : c.kept ≤ limit
  pub wait-ok : wait_ok c.n c.wait ≡ true
  pub enough : still_uses c.wait ≤ limit - c.request
  pub heard-ok : heard_within c.heard ≡ true
  pub last_ok : view_within limit c.last ≡ true
  pub max-ok : view_within c.maxtag c.atmax ≡ true
  pub round-ok : view_within (round_tag c.wait) c.atround ≡ true
  pub kept-ok : view_within c.kept c.keptview ≡ true

-- the two halves of a test
halves : {X : Type 0} (a b : Bool) → both a b ≡ true → (a ≡ true → b ≡ true → X) → X
halves a b h f = f (both_left a b h) (both_right a b h)

-- the tests of usable, group by group
module _ (c : Node) where
  abbrev n_t : Bool
  n_t = both (is_size c.n) (tolerates c.n c.f)

  abbrev own_t : Bool
  own_t = both (leb 1 c.own) (leb c.own c.n)

  abbrev num_t : Bool
  num_t = both (leb c.request limit) (leb c.kept limit)

  abbrev max_t : Bool
  max_t = both (leb c.maxtag limit) num_t

  abbrev left_t : Bool
  left_t = both (wait_ok c.n c.wait) (leb (still_uses c.wait) (limit - c.request))

  abbrev first_t : Bool
  first_t = both (heard_within c.heard) (view_within limit c.last)

  abbrev held_t : Bool
  held_t = both (view_within c.maxtag c.atmax) (view_within (round_tag c.wait) c.atround)

  abbrev rest_t : Bool
  rest_t = both held_t (view_within c.kept c.keptview)

pub parts : (c : Node) → usable c ≡ true → Parts c
unfolding usable numbers_ok tables_ok
parts c h =
    halves (sizes_within c.n c.f c.own) (both (both (max_t c) (left_t c)) (both (first_t c) (rest_t c))) h (λ s r.
    halves (both (max_t c) (left_t c)) (both (first_t c) (rest_t c)) r (λ p t.
    halves (n_t c) (own_t c) s (λ s₁ s₂.
    halves (is_size c.n) (tolerates c.n c.f) s₁ (λ s₃ s₄.
    halves (leb 1 c.n) (leb c.n nodes) s₃ (λ nl nh.
    halves (leb 1 c.own) (leb c.own c.n) s₂ (λ ol oh.
    halves (max_t c) (left_t c) p (λ p₁ p₂.
    halves (leb c.maxtag limit) (num_t c) p₁ (λ mx rk.
    halves (leb c.request limit) (leb c.kept limit) rk (λ rq kp.
    halves (wait_ok c.n c.wait) (leb (still_uses c.wait) (limit - c.request)) p₂ (λ wt en.
    halves (first_t c) (rest_t c) t (λ t₁ t₂.
    halves (heard_within c.heard) (view_within limit c.last) t₁ (λ hd la.
    halves (held_t c) (view_within c.kept c.keptview) t₂ (λ t₃ ke.
    halves (view_within c.maxtag c.atmax) (view_within (round_tag c.wait) c.atround) t₃ (λ am ar.
    record {
      n-low = leb-true 1 c.n nl;
      n-high = leb-true c.n nodes nh;
      half = tolerates-half c.n c.f s₄;
      own-low = leb-true 1 c.own ol;
      own-high = leb-true c.own c.n oh;
      max-high = leb-true c.maxtag limit mx;
      request-high = leb-true c.request limit rq;
      kept_high = leb-true c.kept limit kp;
      wait-ok = wt;
      enough = leb-true (still_uses c.wait) (limit - c.request) en;
      heard-ok = hd;
      last_ok = la;
      max-ok = am;
      round-ok = ar;
      kept-ok = ke;
    }))))))))))))))

pub usable-of : (c : Node) → Parts c → usable c ≡ true
unfolding usable numbers_ok tables_ok
usable-of c p =
    both_true (both_true (both_true (both_true (le-leb 1 c.n p.n-low) (le-leb c.n nodes p.n-high))
    (half-tolerates c.n c.f p.n-high p.half))
    (both_true (le-leb 1 c.own p.own-low) (le-leb c.own c.n p.own-high)))
    (both_true (both_true (both_true (le-leb c.maxtag limit p.max-high)
    (both_true (le-leb c.request limit p.request-high) (le-leb c.kept limit p.kept_high)))
    (both_true p.wait-ok (le-leb (still_uses c.wait) (limit - c.request) p.enough)))
    (both_true (both_true p.heard-ok p.last_ok) (both_true (both_true p.max-ok p.round-ok) p.kept-ok)))

-- ---- the numbers of a wait

pub reading-ok : (n : ℕ) (o : Operation) (a m : ℕ) → wait_ok n (Reading o a m) ≡ true → (only n a ≡ true) × (m ≤ limit)
reading-ok n o a m h = halves (only n a) (leb m limit) h (λ p q. (p, leb-true m limit q))

pub reading-of : (n : ℕ) (o : Operation) (a m : ℕ) → only n a ≡ true → m ≤ limit → wait_ok n (Reading o a m) ≡ true
reading-of n o a m p q = both_true p (le-leb m limit q)

-- a round and its tag
pub record Round (i r : ℕ) : Type 0 where
  pub round : i ≤ 3
  pub tag : r ≤ limit
  pub first : i ≡ 0 → r < limit

pub round-parts : (i r : ℕ) → round_ok i r ≡ true → Round i r
round-parts i r h = halves (leb i 3) (either (both (leb r limit) (leb 1 i)) (ltb r limit)) h (λ p q.
    either-cases (both (leb r limit) (leb 1 i)) (ltb r limit) q
    (λ a. halves (leb r limit) (leb 1 i) a (λ x y. let l : 1 ≤ i = leb-true 1 i y in
    record { round = leb-true i 3 p; tag = leb-true r limit x; first = λ e. absurd (omega arith) }))
    (λ b. let l : r < limit = ltb-true r limit b in record {
      round = leb-true i 3 p;
      tag = le_of_lt l;
      first = λ e. l;
    }))
  where
    either-cases : {X : Type 0} (a b : Bool) → either a b ≡ true → (a ≡ true → X) → (b ≡ true → X) → X
    either-cases true b h f g = f h
    either-cases false b h f g = g h

pub round-of : (i r : ℕ) → Round i r → round_ok i r ≡ true
round-of i r p = both_true (le-leb i 3 p.round) (elim (dec_lt r limit) [
  | yes l ↦ either_true (both (leb r limit) (leb 1 i)) (lt-ltb r limit l)
  | no l ↦ rw (le-leb r limit p.tag, le-leb 1 i (not-zero (λ e. l (p.first e))))
])
  where
    either_true : (a : Bool) {b : Bool} → b ≡ true → either a b ≡ true
    either_true true h = refl
    either_true false h = h

    not-zero : {k : ℕ} → (k ≡ 0 → ⊥) → 1 ≤ k
    not-zero {k} h = elim (dec_le 1 k) [ yes l ↦ l | no l ↦ absurd (h (omega arith)) ]

pub writing-ok : (n : ℕ) (k : Kind) (i r a : ℕ) → wait_ok n (Writing k i r a) ≡ true → (only n a ≡ true) × Round i r
writing-ok n k i r a h = halves (only n a) (round_ok i r) h (λ p q. (p, round-parts i r q))

pub writing-of : (n : ℕ) (k : Kind) (i r a : ℕ) → only n a ≡ true → Round i r → wait_ok n (Writing k i r a) ≡ true
writing-of n k i r a p q = both_true p (round-of i r q)
