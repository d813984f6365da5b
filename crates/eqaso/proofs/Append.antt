-- A trace with one entry more at its end: what it has at each index, its parts, and the tags let out in it.
use Prim.Native.Nat.{ℕ, zero, suc, ◌+◌, ◌≤◌, ◌<◌}
use native.Mathlib.Nat.{add-zero}
use native.Mathlib.Decide.{ℕ_discrete}
use native.Mathlib.Omega.{arith}
use mathlib.Core.Path.{◌≡◌, refl, sym, ◌∙◌, ap}
use mathlib.Core.Bool.{cond, decide}
use mathlib.Core.List.{List, [], ◌∷◌, ◌++◌, append_assoc}
use lib.ListN.{length, take, drop, get_or}
use Rattle.history.specs.Event.{Ending, none, done, shown, spent}
use Rattle.history.specs.Trace.{Seen, Trace, handler, ending_at, Fate, unfinished, ended, fate_by, first_ending}
use Rattle.history.specs.Trace.{tags_sent}
use Rattle.history.specs.Trace.{own_tags}

module _ {A : Type 0} where
  pub get_d-last : (l : List A) (x d : A) → get_or (l ++ (x ∷ [])) (length l) d ≡ x
  get_d-last [] x d = refl
  get_d-last (y ∷ l) x d = get_d-last l x d

  pub drop-append : (t : ℕ) (l m : List A) → t ≤ length l → drop t (l ++ m) ≡ drop t l ++ m
  drop-append zero l m le = refl
  drop-append (suc t) [] m le = absurd (omega arith)
  drop-append (suc t) (x ∷ l) m le = drop-append t l m (omega arith)

  pub drop-length : (l m : List A) → drop (length l) (l ++ m) ≡ m
  drop-length [] m = refl
  drop-length (x ∷ l) m = drop-length l m

  pub take-append : (t : ℕ) (l m : List A) → t ≤ length l → take t (l ++ m) ≡ take t l
  take-append zero l m le = refl
  take-append (suc t) [] m le = absurd (omega arith)
  take-append (suc t) (x ∷ l) m le = ap {B = List A} (λ r. x ∷ r) (take-append t l m (omega arith))

  pub take_all : (t : ℕ) (l : List A) → length l ≤ t → take t l ≡ l
  take_all zero [] le = refl
  take_all zero (x ∷ l) le = absurd (omega arith)
  take_all (suc t) [] le = refl
  take_all (suc t) (x ∷ l) le = ap {B = List A} (λ r. x ∷ r) (take_all t l (omega arith))

-- The one fate, or the other where it is unfinished.
abbrev pub or_else : Fate → Fate → Fate
or_else unfinished y = y
or_else (ended k e) y = ended k e

fate_by-or_else : (k : ℕ) (e : Ending) (x y : Fate) → fate_by k e (or_else x y) ≡ or_else (fate_by k e x) y
fate_by-or_else k none x y = refl
fate_by-or_else k (done r v) x y = refl
fate_by-or_else k (shown r v) x y = refl
fate_by-or_else k spent x y = refl

pub ending-append : (c k : ℕ) (l : Trace) (o : Seen) → first_ending c k (l ++ (o ∷ []))
    ≡ or_else (first_ending c k l) (fate_by (k + length l) (ending_at c o) unfinished)
unfolding first_ending
ending-append c k [] o = ap (λ j. fate_by j (ending_at c o) unfinished) (sym (add-zero k))
ending-append c k (x ∷ l) o =
    ap (fate_by k (ending_at c x)) (ending-append c (suc k) l o)
    ∙ fate_by-or_else k (ending_at c x) (first_ending c (suc k) l)
    (fate_by (suc k + length l) (ending_at c o) unfinished)
    ∙ ap (λ j. or_else (fate_by k (ending_at c x) (first_ending c (suc k) l)) (fate_by j (ending_at c o) unfinished))
    (omega arith)

-- An ending in a part that starts at k has an index in that part.
abbrev pub Inside : ℕ → ℕ → Fate → Type 0
Inside k m unfinished = Unit {0}
Inside k m (ended j e) = (k ≤ j) × (j < m)

fate_by-inside : (k m : ℕ) (e : Ending) (x : Fate) → k < m → Inside (suc k) m x → Inside k m (fate_by k e x)
fate_by-inside k m none unfinished lt h = tt
fate_by-inside k m none (ended j e) lt (lo, hi) = (omega arith, hi)
fate_by-inside k m (done r v) x lt h = (omega arith, lt)
fate_by-inside k m (shown r v) x lt h = (omega arith, lt)
fate_by-inside k m spent x lt h = (omega arith, lt)

pub ending-inside : (c k m : ℕ) (l : Trace) → k + length l ≤ m → Inside k m (first_ending c k l)
unfolding first_ending
ending-inside c k m [] le = tt
ending-inside c k m (x ∷ l) le = fate_by-inside k m (ending_at c x) (first_ending c (suc k) l) (omega arith)
    (ending-inside c (suc k) m l (omega arith))

pub own-append : (c : ℕ) (l m : Trace) → own_tags c (l ++ m) ≡ own_tags c l ++ own_tags c m
unfolding own_tags
own-append c [] m = refl
own-append c (o ∷ l) m =
    let own = cond (decide (ℕ_discrete (handler o.event) c)) (tags_sent c o.sent) [] in
    ap (λ r. own ++ r) (own-append c l m) ∙ sym (append_assoc own (own_tags c l) (own_tags c m))
