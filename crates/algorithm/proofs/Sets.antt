-- The tests of the algorithm on sets of values say what their names say.
use Prim.Native.Nat.{ℕ, ◌≤◌, ◌<◌}
use native.Mathlib.Omega.{arith}
use native.Mathlib.Decide.{ℕ_discrete, dec_le, dec_lt}
use mathlib.Core.Path.{◌≡◌, refl, sym, subst}
use mathlib.Core.Logic.{◌⊎◌, inl, inr, ◌≢◌, ite}
use mathlib.Core.Bool.{Bool, true, false, false≢true, not, cond, decide, decide_iff, ◌&&◌, ◌||◌}
use mathlib.Core.List.Memᴰ
use mathlib.Core.List.{List, [], ◌∷◌}
use Rattle.logs.specs.Log.{◌∈◌}
use Rattle.history.specs.Message.{Value}
use Rattle.algorithm.specs.Algorithm.{same, Good, Node, has, included_up_to, agrees, kept}

pub or_cases : (a b : Bool) → (a || b) ≡ true → (a ≡ true) ⊎ (b ≡ true)
or_cases true b e = inl refl
or_cases false b e = inr e

pub or_left : (a b : Bool) → a ≡ true → (a || b) ≡ true
or_left true b e = refl
or_left false b e = absurd (false≢true e)

pub or_right : (a b : Bool) → b ≡ true → (a || b) ≡ true
or_right true b e = refl
or_right false b e = e

pub and_both : (a b : Bool) → (a && b) ≡ true → (a ≡ true) × (b ≡ true)
and_both true b e = (refl, e)
and_both false b e = absurd (false≢true e)

pub and-of : (a b : Bool) → a ≡ true → b ≡ true → (a && b) ≡ true
and-of true b e d = d
and-of false b e d = absurd (false≢true e)

pub not-true : (b : Bool) → not b ≡ true → b ≡ false
not-true true e = sym e
not-true false e = refl

pub has-to : (l : List Value) (v : Value) → has l v ≡ true → v ∈ l
unfolding has
has-to [] v e = absurd (false≢true e)
has-to (x ∷ l) v e = go (or_cases (decide (same v x)) (has l v) e) (has-to l v)
  where
    go : (decide (same v x) ≡ true) ⊎ (has l v ≡ true) → (has l v ≡ true → v ∈ l) → v ∈ (x ∷ l)
    go (inl d) h = Memᴰ.head ((decide_iff (same v x)).0 d)
    go (inr d) h = Memᴰ.tail (h d)

pub has_of : {l : List Value} {v : Value} → v ∈ l → has l v ≡ true
unfolding has
has_of {v} m = go m
  where
    go : {l : List Value} → v ∈ l → has l v ≡ true
    go (Memᴰ.head {x} {xs} e) = or_left (decide (same v x)) (has xs v) ((decide_iff (same v x)).1 e)
    go (Memᴰ.tail {x} {xs} m) = or_right (decide (same v x)) (has xs v) (go m)

pub included_up_to-to : (t : ℕ) (a b : List Value) → included_up_to t a b ≡ true → (v : Value) → v ∈ a
    → v.tag ≤ t → v ∈ b
unfolding included_up_to
included_up_to-to t [] b e v i h = elim i [ ]
included_up_to-to t (x ∷ a) b e v (Memᴰ.head d) h =
    let (p, q) = and_both (cond (decide (dec_le x.tag t)) (has b x) true) (included_up_to t a b) e in
    let low : x.tag ≤ t = subst (λ z. z.tag ≤ t) d h in
    let t? : decide (dec_le x.tag t) ≡ true = (decide_iff (dec_le x.tag t)).1 low in
    let p' : has b x ≡ true = subst (λ z. cond z (has b x) true ≡ true) t? p in
    subst (λ z. z ∈ b) (sym d) (has-to b x p')
included_up_to-to t (x ∷ a) b e v (Memᴰ.tail m) h =
    included_up_to-to t a b (and_both (cond (decide (dec_le x.tag t)) (has b x) true) (included_up_to t a b) e).1 v m h

pub included_up_to-of : (t : ℕ) (a b : List Value) → ((v : Value) → v ∈ a → v.tag ≤ t → v ∈ b)
    → included_up_to t a b ≡ true
unfolding included_up_to
included_up_to-of t [] b h = refl
included_up_to-of t (x ∷ a) b h = and-of (cond (decide (dec_le x.tag t)) (has b x) true) (included_up_to t a b)
    (go (dec_le x.tag t)) (included_up_to-of t a b (λ v m low. h v (Memᴰ.tail m) low))
  where
    go : (d : Dec (x.tag ≤ t)) → cond (decide d) (has b x) true ≡ true
    go d = case (decide d) refl
      where
        case : (y : Bool) → decide d ≡ y → cond y (has b x) true ≡ true
        case true e = has_of (h x (Memᴰ.head refl) ((decide_iff d).0 e))
        case false e = refl

-- A node that agrees, other than the own one, has sent the same values up to t.
pub agrees-to : (i : ℕ) (ν : Node) (t k : ℕ) → agrees i ν t k ≡ true → k ≢ i
    → (included_up_to t (ν.from k) ν.all ≡ true) × (included_up_to t ν.all (ν.from k) ≡ true)
agrees-to i ν t k e ne = go (or_cases (decide (ℕ_discrete k i))
    (included_up_to t (ν.from k) ν.all && included_up_to t ν.all (ν.from k)) e)
  where
    go : (decide (ℕ_discrete k i) ≡ true)
        ⊎ ((included_up_to t (ν.from k) ν.all && included_up_to t ν.all (ν.from k)) ≡ true)
        → (included_up_to t (ν.from k) ν.all ≡ true) × (included_up_to t ν.all (ν.from k) ≡ true)
    go (inl d) = absurd (ne ((decide_iff (ℕ_discrete k i)).0 d))
    go (inr d) = and_both (included_up_to t (ν.from k) ν.all) (included_up_to t ν.all (ν.from k)) d

-- The kept good message is one of those received, if its tag is not 0.
pub kept-in : (n : ℕ) (l : List Good) → 0 < (kept n l).tag → kept n l ∈ l
unfolding kept
kept-in n [] h = absurd (omega arith)
kept-in n (g ∷ l) h = go (dec_lt (kept n l).tag g.tag) h (kept-in n l)
  where
    go : (d : Dec ((kept n l).tag < g.tag)) → 0 < (ite d g (kept n l)).tag → (0 < (kept n l).tag → kept n l ∈ l)
        → ite d g (kept n l) ∈ (g ∷ l)
    go (yes x) p ih = Memᴰ.head refl
    go (no x) p ih = Memᴰ.tail (ih p)
