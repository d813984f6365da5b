-- The largest of some numbers, and the first one above a bound.
use Prim.Native.Nat.{ℕ, ◌≤◌, ◌<◌}
use native.Mathlib.Decide.{dec_lt}
use native.Mathlib.Omega.{arith}
use mathlib.Core.Path.{◌≡◌, refl}
use mathlib.Core.Logic.{ite}
use mathlib.Core.List.Memᴰ
use mathlib.Core.List.{List, [], ◌∷◌, ◌++◌}
use Rattle.logs.specs.Log.{◌∈◌}
use Rattle.history.specs.Trace.{largest, first_above}

pub largest-above : {x : ℕ} (l : List ℕ) → x ∈ l → x ≤ largest l
unfolding largest
largest-above [] h = elim h [ ]
largest-above (t ∷ l) (Memᴰ.head e) = omega arith
largest-above (t ∷ l) (Memᴰ.tail i) = omega (arith, largest-above l i)

pub largest-below : (s : ℕ) (l : List ℕ) → 0 < s → ((x : ℕ) → x ∈ l → x < s) → largest l < s
unfolding largest
largest-below s [] pos h = pos
largest-below s (t ∷ l) pos h =
    omega (arith, h t (Memᴰ.head refl), largest-below s l pos λ x i. h x (Memᴰ.tail i))

-- It is one of them and above the bound, unless it is 0.
pub first_fits : (b : ℕ) (l : List ℕ) → 0 < first_above b l → (first_above b l ∈ l) × (b < first_above b l)
unfolding first_above
first_fits b [] pos = absurd (omega arith)
first_fits b (t ∷ l) pos = go (dec_lt b t) (first_fits b l) pos
  where
    go : (d : Dec (b < t)) → (0 < first_above b l → (first_above b l ∈ l) × (b < first_above b l))
        → 0 < ite d t (first_above b l) → (ite d t (first_above b l) ∈ (t ∷ l)) × (b < ite d t (first_above b l))
    go (yes h) rest pos = (Memᴰ.head refl, h)
    go (no h) rest pos = (Memᴰ.tail (rest pos).0, (rest pos).1)

-- Where it is 0, none of them is above.
pub first-none : (b : ℕ) (l : List ℕ) → first_above b l ≡ 0 → (x : ℕ) → x ∈ l → x ≤ b
unfolding first_above
first-none b [] e x i = absurd (Memᴰ.not-nil i)
first-none b (t ∷ l) e x i = go (dec_lt b t) (first-none b l) e x i
  where
    go : (d : Dec (b < t)) → (first_above b l ≡ 0 → (x : ℕ) → x ∈ l → x ≤ b) → ite d t (first_above b l) ≡ 0
        → (x : ℕ) → x ∈ (t ∷ l) → x ≤ b
    go (yes h) rest e x i = absurd (omega arith)
    go (no h) rest e x (Memᴰ.head i) = omega arith
    go (no h) rest e x (Memᴰ.tail i) = rest e x i

pub first-low : (b : ℕ) (l : List ℕ) → ((x : ℕ) → x ∈ l → x ≤ b) → first_above b l ≡ 0
unfolding first_above
first-low b [] h = refl
first-low b (t ∷ l) h = go (dec_lt b t) (first-low b l λ x i. h x (Memᴰ.tail i))
  where
    go : (d : Dec (b < t)) → first_above b l ≡ 0 → ite d t (first_above b l) ≡ 0
    go (yes lt) rest = absurd (omega (arith, h t (Memᴰ.head refl)))
    go (no lt) rest = rest

pub first-keeps : (b : ℕ) (l m : List ℕ) → 0 < first_above b l → first_above b (l ++ m) ≡ first_above b l
unfolding first_above
first-keeps b [] m pos = absurd (omega arith)
first-keeps b (t ∷ l) m pos = go (dec_lt b t) (first-keeps b l m) pos
  where
    go : (d : Dec (b < t)) → (0 < first_above b l → first_above b (l ++ m) ≡ first_above b l)
        → 0 < ite d t (first_above b l) → ite d t (first_above b (l ++ m)) ≡ ite d t (first_above b l)
    go (yes h) rest pos = refl
    go (no h) rest pos = rest pos

pub first_next : (b : ℕ) (l m : List ℕ) → first_above b l ≡ 0 → first_above b (l ++ m) ≡ first_above b m
unfolding first_above
first_next b [] m e = refl
first_next b (t ∷ l) m e = go (dec_lt b t) (first_next b l m) e
  where
    go : (d : Dec (b < t)) → (first_above b l ≡ 0 → first_above b (l ++ m) ≡ first_above b m)
        → ite d t (first_above b l) ≡ 0 → ite d t (first_above b (l ++ m)) ≡ first_above b m
    go (yes h) rest z = absurd (omega arith)
    go (no h) rest z = rest z

-- Where all are s, and s is above the bound, it is s.
pub first-only : (b s : ℕ) (l : List ℕ) → b < s → s ∈ l → ((x : ℕ) → x ∈ l → x ≡ s) → first_above b l ≡ s
unfolding first_above
first-only b s [] lt i h = elim i [ ]
first-only b s (t ∷ l) lt i h = go (dec_lt b t) (h t (Memᴰ.head refl))
  where
    go : (d : Dec (b < t)) → t ≡ s → ite d t (first_above b l) ≡ s
    go (yes _) e = e
    go (no n) e = absurd (omega arith)
