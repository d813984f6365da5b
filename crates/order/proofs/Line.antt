-- The line, built: scans stand at odd places, by their size, and updates at even places, just behind the largest scan
-- that does not hold them; the rank settles ties.
use Prim.Native.Nat.{ℕ, suc, ◌+◌, ◌*◌, ◌≤◌, ◌<◌, max}
use native.Mathlib.Decide.{dec_lt}
use native.Mathlib.Omega.{arith}
use mathlib.Core.List.Memᴰ
use mathlib.Core.List.{List, [], ◌∷◌}
use mathlib.Core.Logic.{◌⊎◌, inl, inr}
use mathlib.Core.Path.{◌≡◌, refl, ap, subst}
use Rattle.logs.specs.Log.{◌∈◌}
use Rattle.order.specs.Sequence.{before, None, Last}
use Rattle.order.specs.Line.{Kind, update, scan, Items, May, Sound, Ahead, Line, Latest}
use Rattle.order.proofs.Sequence.{before-in, before-once, before-asym, before-within, last_of}
use Rattle.order.proofs.Lex.{Earlier, earlier}
use Rattle.order.proofs.Sort.{Strict, sort, sort-members, sort-once, sort_sorted, sorted-ahead}

-- The largest number that f gives in the list.
largest : {A : Type 0} → (A → ℕ) → List A → ℕ
largest f [] = 0
largest f (x ∷ l) = max (f x) (largest f l)

largest-above : {A : Type 0} (f : A → ℕ) {a : A} (l : List A) → a ∈ l → f a ≤ largest f l
unfolding largest
largest-above f [] h = elim h [ ]
largest-above f (x ∷ l) (Memᴰ.head e) = omega (arith, ap f e)
largest-above f (x ∷ l) (Memᴰ.tail i) = omega (arith, largest-above f l i)

largest-least : {A : Type 0} (f : A → ℕ) (m : ℕ) (l : List A) → ((a : A) → a ∈ l → f a ≤ m) → largest f l ≤ m
unfolding largest
largest-least f m [] h = omega arith
largest-least f m (x ∷ l) h =
    omega (arith, h x (Memᴰ.head refl), largest-least f m l λ a i. h a (Memᴰ.tail i))

-- How high an update has to stand because of one item: above a scan that does not hold it.
abbrev missed_by : {P : Type 0} → Kind → Dec P → ℕ → ℕ
missed_by update d n = 0
missed_by scan (yes h) n = 0
missed_by scan (no h) n = suc n

abbrev Is-update : Kind → Type 0
Is-update update = Unit {0}
Is-update scan = ⊥

update≢scan : update ≡ scan → ⊥
update≢scan e = subst Is-update e tt

module _ {A : Type 0} (I : Items A) where
  missed : A → A → ℕ
  missed u s = missed_by (I.kind s) (I.holds s u) (I.size s)

  abbrev place-by : Kind → A → ℕ
  place-by update u = 2 * largest (missed u) I.all
  place-by scan s = 2 * I.size s + 1

  place : A → ℕ
  place a = place-by (I.kind a) a

  -- A scan that does not hold the update is in its way.
  missed-above : (u s : A) → s ∈ I.all → I.kind s ≡ scan → ¬ I.Holds s u → I.size s < largest (missed u) I.all
  unfolding missed
  missed-above u s i k h =
      let low = largest-above (missed u) I.all i in
      omega (arith, low, go (I.kind s) (I.holds s u) k)
    where
      go : (k : Kind) (d : Dec (I.Holds s u)) → k ≡ scan → I.size s < missed_by k d (I.size s)
      go update d e = absurd (update≢scan e)
      go scan (yes p) e = absurd (h p)
      go scan (no p) e = omega arith

  missed-least : (u : A) (m : ℕ) → ((s : A) → s ∈ I.all → I.kind s ≡ scan → ¬ I.Holds s u → I.size s < m)
      → largest (missed u) I.all ≤ m
  unfolding missed
  missed-least u m h = largest-least (missed u) m I.all λ s i. go s i (I.kind s) (I.holds s u) refl
    where
      go : (s : A) → s ∈ I.all → (k : Kind) (d : Dec (I.Holds s u)) → I.kind s ≡ k
          → missed_by k d (I.size s) ≤ m
      go s i update d e = omega arith
      go s i scan (yes p) e = omega arith
      go s i scan (no p) e = h s i e p

  place_is : (a : A) {k : Kind} → I.kind a ≡ k → place a ≡ place-by k a
  unfolding place
  place_is a e = ap (λ k. place-by k a) e

  -- An update that is held stands at a lower place than the scan.
  held_low : (u s : A) → u ∈ I.all → s ∈ I.all → I.kind u ≡ update → I.kind s ≡ scan → I.Holds s u
      → largest (missed u) I.all ≤ I.size s
  held_low u s i j ku ks h = missed-least u (I.size s) λ t l kt miss. elim (dec_lt (I.size t) (I.size s))
      [ yes p ↦ p | no p ↦ absurd (miss (I.chain s t u j l i ks kt ku (omega arith) h)) ]

  -- What may precede comes earlier.
  may-earlier : (k l : Kind) (a b : A) → a ∈ I.all → b ∈ I.all → I.kind a ≡ k → I.kind b ≡ l → May I k l a b
      → Earlier place I.rank a b
  may-earlier update update u v i j ku kv (low, closed) =
      let least = missed-least u (largest (missed v) I.all) λ s m ks miss.
      missed-above v s m ks λ h. miss (closed s m ks h) in
      elim (dec_lt (place u) (place v))
      [ yes p ↦ inl p | no p ↦ inr (omega (arith, place_is u ku, place_is v kv, least), low) ]
  may-earlier update scan u s i j ku ks h =
      inl (omega (arith, place_is u ku, place_is s ks, held_low u s i j ku ks h))
  may-earlier scan update s u i j ks ku h =
      inl (omega (arith, place_is u ku, place_is s ks, missed-above u s i ks h))
  may-earlier scan scan s t i j ks kt (small, low) = elim (dec_lt (place s) (place t))
      [ yes p ↦ inl p | no p ↦ inr (omega (arith, place_is s ks, place_is t kt), low) ]

  abbrev order : Strict (Earlier place I.rank)
  order = earlier place I.rank

  abbrev sorted : List A
  sorted = sort (Earlier place I.rank) order I.all

  ahead : (k l : Kind) (a b : A) → a ∈ I.all → b ∈ I.all → I.kind a ≡ k → I.kind b ≡ l → May I k l a b
      → Ahead I a b sorted
  ahead k l a b i j ka kb may = sorted-ahead (Earlier place I.rank) order I.same sorted
      (sort_sorted (Earlier place I.rank) order I.all) (into a i) (into b j) (may-earlier k l a b i j ka kb may)
    where
      into : (c : A) → c ∈ I.all → c ∈ sorted
      into c m = (sort-members (Earlier place I.rank) order I.all c).1 m

-- Items in a chain have a line that keeps any sound precedence.
pub line : {A : Type 0} (I : Items A) (Precedes : A → A → Type 0) → Sound I Precedes → Line I Precedes
line I Precedes sound = record {
  line = sorted I;
  once = sort-once (Earlier (place I) I.rank) (order I) I.all I.once;
  whole = sort-members (Earlier (place I) I.rank) (order I) I.all;
  held = λ u s i j ku ks. (
    λ m. elim (I.holds s u) [
      | yes h ↦ h
      | no h ↦ absurd (before-asym I.same (sorted I) m (ahead I scan update s u j i ks ku h))
    ],
    ahead I update scan u s i j ku ks,
  );
  kept = λ a b i j p. ahead I (I.kind a) (I.kind b) a b i j refl refl (sound a b i j p);
}

-- The last update of a kind before a scan.
pub latest : {A : Type 0} {I : Items A} {Precedes : A → A → Type 0} (L : Line I Precedes) → Latest L
latest {A} {I} {Precedes} L = record { last = last; none = none }
  where
    old : (s : A) {v : A} → v ∈ before I.same s L.line → v ∈ I.all
    old s {v} m = (L.whole v).0 (before-in I.same s L.line m)

    last : (P : A → Type 0) → ((a : A) → P a → I.kind a ≡ update) → (s u : A) → s ∈ I.all → u ∈ I.all
        → I.kind s ≡ scan → P u → I.Holds s u
        → ((v : A) → v ∈ I.all → P v → I.Holds s v → (v ≡ u) ⊎ Precedes v u)
        → Last P u (before I.same s L.line)
    last P kinds s u i j ks p h others =
        let at = (L.held u s j i (kinds u p) ks).1 h in
        last_of I.same (before I.same s L.line) at p (before-once I.same s L.line L.once) λ v m q.
        let k = old s m in
        elim (others v k q ((L.held v s k i (kinds v q) ks).0 m))
        [ inl e ↦ inl e | inr r ↦ inr (before-within I.same s L.line at (L.kept v u k j r)) ]

    none : (P : A → Type 0) → ((a : A) → P a → I.kind a ≡ update) → (s : A) → s ∈ I.all → I.kind s ≡ scan
        → ((v : A) → v ∈ I.all → P v → ¬ I.Holds s v) → None P (before I.same s L.line)
    none P kinds s i ks empty v m q = empty v (old s m) q ((L.held v s (old s m) i (kinds v q) ks).0 m)
