-- Laws of the size of a set. Two sets that together have more than n members share one; so two quorums meet.
use Prim.Native.Nat.{ℕ, zero, suc, ◌+◌, ◌-◌, ◌≤◌, ◌<◌}
use native.Mathlib.Omega.{arith}
use native.Mathlib.Decide.{ℕ_discrete}
use mathlib.Core.Path.{◌≡◌, refl, sym, ◌∙◌}
use mathlib.Core.Logic.{◌⊎◌, inl, inr}
use mathlib.Core.Bool.{Bool, true, false, not, true≢false, false≢true}
use Rattle.logs.specs.Count.{bit, count, Common}
use Rattle.logs.specs.Update.{upd}
use Rattle.logs.proofs.Update.{upd_same, upd_other}

pub count-le : (p : ℕ → Bool) (n : ℕ) → count p n ≤ n
unfolding count
count-le p zero = omega arith
count-le p (suc n) = step (p (suc n)) (count-le p n)
  where
    step : (b : Bool) → count p n ≤ n → bit b + count p n ≤ suc n
    step true h = omega arith
    step false h = omega arith

abbrev both-step : (b c : Bool) → Type 0
both-step b c = (b ≡ true → c ≡ true) → bit b ≤ bit c

bit-mono : (b c : Bool) → both-step b c
bit-mono true true h = omega arith
bit-mono true false h = absurd (true≢false (sym (h refl)))
bit-mono false true h = omega arith
bit-mono false false h = omega arith

-- A larger set counts more; only the members from 1 to n matter.
pub count-mono : (p q : ℕ → Bool) (n : ℕ) → ((k : ℕ) → 1 ≤ k → k ≤ n → p k ≡ true → q k ≡ true) → count p n ≤ count q n
unfolding count
count-mono p q zero h = omega arith
count-mono p q (suc n) h =
    let here = bit-mono (p (suc n)) (q (suc n)) (h (suc n) (omega arith) (omega arith)) in
    let rest = count-mono p q n (λ k lo hi. h k lo (omega arith)) in
    omega arith

-- One node more counts at most one more.
pub count-one : (s : ℕ → Bool) (c n : ℕ) → count (upd s c true) n ≤ suc (count s n)
unfolding count
count-one s c zero = omega arith
count-one s c (suc n) = elim (ℕ_discrete (suc n) c) [
  | yes e ↦
      let same : count (upd s c true) n ≤ count s n = count-mono (upd s c true) s n
      (λ k lo hi h. sym (upd_other s c true k (λ z. absurd (omega arith))) ∙ h) in
      rw (← e, upd_same s (suc n) true) (rw e (omega arith))
  | no e ↦ rw (upd_other s c true (suc n) e) (omega (arith, count-one s c n))
]

pub count_none : (n : ℕ) → count (λ k. false) n ≡ 0
unfolding count
count_none zero = refl
count_none (suc n) = omega (arith, count_none n)

-- A set and the others are all.
pub count-not : (p : ℕ → Bool) (n : ℕ) → count p n + count (λ k. not (p k)) n ≡ n
unfolding count
count-not p zero = refl
count-not p (suc n) = step (p (suc n)) (count-not p n)
  where
    step : (b : Bool) → count p n + count (λ k. not (p k)) n ≡ n
        → bit b + count p n + (bit (not b) + count (λ k. not (p k)) n) ≡ suc n
    step true h = omega arith
    step false h = omega arith

meet-or : (p q : ℕ → Bool) (n : ℕ) → Common p q n ⊎ (count p n + count q n ≤ n)
unfolding count
meet-or p q zero = inr (omega arith)
meet-or p q (suc n) = step (p (suc n)) (q (suc n)) refl refl (meet-or p q n)
  where
    step : (b c : Bool) → p (suc n) ≡ b → q (suc n) ≡ c → Common p q n ⊎ (count p n + count q n ≤ n)
        → Common p q (suc n) ⊎ (bit (p (suc n)) + count p n + (bit (q (suc n)) + count q n) ≤ suc n)
    step b c e d (inl (k, lo, hi, x, y)) = inl (k, lo, omega arith, x, y)
    step true true e d (inr h) = inl (suc n, omega arith, omega arith, e, d)
    step true false e d (inr h) = inr (rw (e, d) (omega arith))
    step false true e d (inr h) = inr (rw (e, d) (omega arith))
    step false false e d (inr h) = inr (rw (e, d) (omega arith))

-- Two quorums meet.
pub meet : (n f : ℕ) → f + f < n → (p q : ℕ → Bool) → n - f ≤ count p n → n - f ≤ count q n → Common p q n
meet n f h p q x y = elim (meet-or p q n) [ inl c ↦ c | inr low ↦ absurd (omega arith) ]

-- What is known to exist for each member of a set, as one function.
pub choose {ℓ κ} : {A : Type ℓ} (p : ℕ → Bool) (P : ℕ → A → Type κ) → A
    → ((k : ℕ) → p k ≡ true → (a : A) × P k a) → (g : ℕ → A) × ((k : ℕ) → p k ≡ true → P k (g k))
choose {A} p P d h = (λ k. pick k (p k) refl, λ k e. right k (p k) refl e)
  where
    pick : (k : ℕ) (b : Bool) → p k ≡ b → A
    pick k true e = (h k e).0
    pick k false e = d

    right : (k : ℕ) (b : Bool) (e : p k ≡ b) → b ≡ true → P k (pick k b e)
    right k true e t = (h k e).1
    right k false e t = absurd (false≢true t)
