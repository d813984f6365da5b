-- What a caller learns of its own list where a part of it was lent, and of loops that write a run byte by byte.
use Prim.Native.Nat.{ℕ, suc, ◌+◌, ◌-◌, ◌<◌, ◌≤◌, min}
use mathlib.Core.Path.{◌≡◌, sym, ap, ◌∙◌}
use mathlib.Core.List.{List, ◌++◌, append_assoc, append-nil}
use native.Mathlib.Nat.{lt_of_not-le}
use native.Mathlib.Numerals.{add-one}
use native.Mathlib.Decide.{dec_le}
use native.Mathlib.Omega.{arith}
use lib.ListN.{length, take, drop, get_or, set, length-take, length-drop}
use lib.Seq.{take_all, take-length, take-append-le, take-append-add, drop-drop, paste-suc, length-take-le}
use Rattle.octets.specs.Bytes.{part, put}
use Rattle.octets.proofs.Put.{put-nil}

-- the part that `&b[at..e]` is
pub lent : (b : List ℕ) (at len : ℕ) {e : ℕ} → at + len ≡ e → take (e - at) (drop at b) ≡ part b at len
unfolding part
lent b at len {e} p = let q : e - at ≡ len = omega arith in ap (λ (k : ℕ). take k (drop at b)) q

-- b after a callee that changes its slice by f was lent `&mut b[at..e]` and left t
pub lent_back : (b : List ℕ) (at len : ℕ) (f : List ℕ → List ℕ) {e : ℕ} {t : List ℕ} → at + len ≡ e → e ≤ length b
    → length t ≡ length (take (e - at) (drop at b)) → t ≡ f (take (e - at) (drop at b))
    → take at b ++ (t ++ drop (e - at) (drop at b)) ≡ put b at (f (part b at len))
unfolding put
lent_back b at len f {e} {t} p h l q =
    let n : length t ≡ min (e - at) (length b - at) = simp (length-take, length-drop) at l in
    let m : at + (e - at) ≡ at + length t = omega arith in
    sym (append_assoc (take at b) t (drop (e - at) (drop at b)))
    ∙ ap (λ (r : List ℕ). take at b ++ t ++ r) (drop-drop (e - at) at b ∙ ap (λ (k : ℕ). drop k b) m)
    ∙ ap (λ (r : List ℕ). put b at r) (q ∙ ap f (lent b at len p))

-- ---- a loop that writes the run s, byte by byte: after i bytes the list is `put b at (take i s)`

pub run_none : (b : List ℕ) (at : ℕ) (s : List ℕ) → b ≡ put b at (take 0 s)
run_none b at s = sym (put-nil b at)

pub run_more : (b : List ℕ) (at : ℕ) (s : List ℕ) (i : ℕ) → at + i < length b → i < length s
    → set (put b at (take i s)) (at + i) (get_or s i 0) ≡ put b at (take (i + 1) s)
unfolding put
run_more b at s i h l =
    let p : length (take i s) ≡ i = length-take-le i s (omega arith) in
    let q : length (take (suc i) s) ≡ suc i = length-take-le (suc i) s l in
    ap (λ (k : ℕ). set (take at b ++ take i s ++ drop (at + k) b) (at + i) (get_or s i 0)) p
    ∙ paste-suc b at s i 0 h l
    ∙ ap (λ (k : ℕ). take at b ++ take (suc i) s ++ drop (at + k) b) (sym q)
    ∙ ap (λ (k : ℕ). take at b ++ take k s ++ drop (at + length (take k s)) b) (sym (add-one i))

pub run-all : (b : List ℕ) (at : ℕ) (s : List ℕ) → put b at (take (length s) s) ≡ put b at s
run-all b at s = ap (λ (t : List ℕ). put b at t) (take-length s)

-- the front of two lists
pub take-append : {A : Type 0} (m : ℕ) (k l : List A) → take m (k ++ l) ≡ take m k ++ take (m - length k) l
take-append {A = A} m k l = elim (dec_le m (length k)) [ yes h ↦ inside h | no h ↦ past (lt_of_not-le h) ]
  where
    inside : m ≤ length k → take m (k ++ l) ≡ take m k ++ take (m - length k) l
    inside h =
        let e : 0 ≡ m - length k = omega arith in
        take-append-le m k l h ∙ sym (append-nil (take m k)) ∙ ap (λ (i : ℕ). take m k ++ take i l) e

    past : length k < m → take m (k ++ l) ≡ take m k ++ take (m - length k) l
    past h =
        let e : m ≡ length k + (m - length k) = omega arith in
        ap (λ (i : ℕ). take i (k ++ l)) e ∙ take-append-add k l (m - length k)
        ∙ ap (λ (t : List A). t ++ take (m - length k) l) (sym (take_all m k (omega arith)))
