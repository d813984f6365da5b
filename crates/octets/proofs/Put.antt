-- Runs of bytes in a longer list: what `part` reads after `put`, and puts one after the other.
-- The laws on reading come from three on `++`: a part in the left list, in the right list, and between the two.
use Prim.Native.Nat.{ℕ, suc, ◌+◌, ◌-◌, ◌<◌, ◌≤◌}
use mathlib.Core.Path.{◌≡◌, sym, ap, ap₂, ◌∙◌}
use mathlib.Core.List.{List, [], ◌∷◌, ◌++◌, append-nil, append_assoc}
use native.Mathlib.Nat.{add-zero, lt_of_not-le}
use native.Mathlib.Numerals.{add-one}
use native.Mathlib.Decide.{dec_le}
use native.Mathlib.Omega.{arith}
use lib.ListN.{length, take, drop, get_or, set, length-append, length-take, length-drop, take-append-drop}
use lib.ListN.{drop_of_length-le, get_or-eq_default}
use lib.Seq.{take_all, take_at, drop_at, take-append-le, drop-append-le, take-append-add, drop-append-add, drop-drop}
use lib.Seq.{take-add, take-take, take-suc, get_or-take, get_or-drop, append_snoc, set_at, set_split, length-take-le}
use Rattle.octets.specs.Bytes.{Bytes, part, put}

-- ---- lengths

pub length_part : (b : List ℕ) (at len : ℕ) → at + len ≤ length b → length (part b at len) ≡ len
unfolding part
length_part b at len h = simp (length-take, length-drop) (omega arith)

pub length-put : (b : List ℕ) (at : ℕ) (v : List ℕ) → at + length v ≤ length b → length (put b at v) ≡ length b
unfolding put
length-put b at v h = simp (length-append, length-take, length-drop) (omega arith)

-- ---- parts of `++`

pub part_left : (u w : List ℕ) (i len : ℕ) → i + len ≤ length u → part (u ++ w) i len ≡ part u i len
unfolding part
part_left u w i len h =
    let l : len ≤ length (drop i u) = simp length-drop (omega arith) in
    ap (λ (t : List ℕ). take len t) (drop-append-le i u w (omega arith)) ∙ take-append-le len (drop i u) w l

pub part_right : (u w : List ℕ) (i j len : ℕ) → length u + j ≡ i → part (u ++ w) i len ≡ part w j len
unfolding part
part_right u w i j len e =
    ap (λ (k : ℕ). take len (drop k (u ++ w))) (sym e) ∙ ap (λ (t : List ℕ). take len t) (drop-append-add u w j)

pub part-seam : (u v w : List ℕ) (i len : ℕ) → length u ≡ i → length v ≡ len → part (u ++ v ++ w) i len ≡ v
unfolding part
part-seam u v w i len e f =
    ap (λ (t : List ℕ). take len (drop i t)) (append_assoc u v w)
    ∙ ap (λ (t : List ℕ). take len t) (drop_at u (v ++ w) i e) ∙ take_at v w len f

-- ---- parts of parts

pub part-take : (b : List ℕ) (len i k : ℕ) → i + k ≤ len → part (take len b) i k ≡ part b i k
part-take b len i k h = elim (dec_le (length b) len) [ yes l ↦ short l | no l ↦ long (lt_of_not-le l) ]
  where
    short : length b ≤ len → part (take len b) i k ≡ part b i k
    short l = ap (λ (t : List ℕ). part t i k) (take_all len b l)

    long : len < length b → part (take len b) i k ≡ part b i k
    long l =
        let m : i + k ≤ length (take len b) = simp length-take (omega arith) in
        sym (part_left (take len b) (drop len b) i k m) ∙ ap (λ (t : List ℕ). part t i k) (take-append-drop len b)

pub part-drop : (b : List ℕ) (at i k : ℕ) → part (drop at b) i k ≡ part b (at + i) k
unfolding part
part-drop b at i k = ap (λ (t : List ℕ). take k t) (drop-drop i at b)

pub part-part : (b : List ℕ) (at len i k : ℕ) → i + k ≤ len → part (part b at len) i k ≡ part b (at + i) k
unfolding part
part-part b at len i k h = part-take (drop at b) len i k h ∙ part-drop b at i k

pub part-all : (b : List ℕ) (len : ℕ) → length b ≤ len → part b 0 len ≡ b
unfolding part
part-all b len h = take_all len b h

-- two parts next to each other
pub part-add : (b : List ℕ) (at j k : ℕ) → part b at (j + k) ≡ part b at j ++ part b (at + j) k
unfolding part
part-add b at j k =
    take-add j k (drop at b) ∙ ap (λ (t : List ℕ). take j (drop at b) ++ take k t) (drop-drop j at b)

-- a byte of a part, and a part of one byte
pub get_d_part : (b : List ℕ) (at len i : ℕ) → i < len → get_or (part b at len) i 0 ≡ get_or b (at + i) 0
unfolding part
get_d_part b at len i h = get_or-take len (drop at b) i 0 h ∙ get_or-drop at b i 0

pub part_bytes : (b : List ℕ) (at len : ℕ) → Bytes b → Bytes (part b at len)
unfolding part
part_bytes b at len h i = elim (dec_le len i) [ yes l ↦ past l | no l ↦ inside (lt_of_not-le l) ]
  where
    past : len ≤ i → get_or (take len (drop at b)) i 0 < 256
    past l =
        let m : length (take len (drop at b)) ≤ i = simp length-take (omega arith) in
        rw (get_or-eq_default (take len (drop at b)) 0 m) (omega arith)

    inside : i < len → get_or (take len (drop at b)) i 0 < 256
    inside l = rw (get_or-take len (drop at b) i 0 l, get_or-drop at b i 0) (h (at + i))

-- ---- reading after a put

part-before : (b : List ℕ) (at : ℕ) (v : List ℕ) (i len : ℕ) → at ≤ length b → i + len ≤ at
    → part (put b at v) i len ≡ part b i len
unfolding put
part-before b at v i len h l =
    let m : i + len ≤ length (take at b) = simp length-take (omega arith) in
    ap (λ (t : List ℕ). part t i len) (append_assoc (take at b) v (drop (at + length v) b))
    ∙ part_left (take at b) (v ++ drop (at + length v) b) i len m ∙ part-take b at i len l

part-past : (b : List ℕ) (at : ℕ) (v : List ℕ) (i len : ℕ) → at ≤ length b → at + length v ≤ i
    → part (put b at v) i len ≡ part b i len
unfolding put
part-past b at v i len h l =
    let j : ℕ = i - (at + length v) in
    let e : length (take at b ++ v) + j ≡ i = simp (length-append, length-take) (omega arith) in
    let f : at + length v + j ≡ i = omega arith in
    part_right (take at b ++ v) (drop (at + length v) b) i j len e
    ∙ part-drop b (at + length v) j len ∙ ap (λ (k : ℕ). part b k len) f

-- a part apart from what is put is as it was; the two premises say that it lies before or after
pub part-other : (b : List ℕ) (at : ℕ) (v : List ℕ) (i len : ℕ) → at ≤ length b → (i < at → i + len ≤ at)
    → (at ≤ i → at + length v ≤ i) → part (put b at v) i len ≡ part b i len
part-other b at v i len h below above =
    elim (dec_le at i) [
      | yes l ↦ part-past b at v i len h (above l)
      | no l ↦ part-before b at v i len h (below (lt_of_not-le l))
    ]

pub part_same : (b : List ℕ) (at : ℕ) (v : List ℕ) (len : ℕ) → at ≤ length b → length v ≡ len
    → part (put b at v) at len ≡ v
unfolding put
part_same b at v len h e = part-seam (take at b) v (drop (at + length v) b) at len (length-take-le at b h) e

-- a part that begins with what is put
pub part-front : (b : List ℕ) (at : ℕ) (v : List ℕ) (len : ℕ) → at ≤ length b → length v ≤ len
    → part (put b at v) at len ≡ v ++ part b (at + length v) (len - length v)
unfolding put part
part-front b at v len h l =
    let rest : List ℕ = drop (at + length v) b in
    let e : len ≡ length v + (len - length v) = omega arith in
    ap (λ (t : List ℕ). take len (drop at t)) (append_assoc (take at b) v rest)
    ∙ ap (λ (t : List ℕ). take len t) (drop_at (take at b) (v ++ rest) at (length-take-le at b h))
    ∙ ap (λ (k : ℕ). take k (v ++ rest)) e ∙ take-append-add v rest (len - length v)

-- the same of one byte, which is a part of one
byte-part : (b : List ℕ) (i : ℕ) → get_or b i 0 ≡ get_or (part b i 1) 0 0
byte-part b i = ap (λ (k : ℕ). get_or b k 0) (sym (add-zero i)) ∙ sym (get_d_part b i 1 0 (omega arith))

pub get_d-other : (b : List ℕ) (at : ℕ) (v : List ℕ) (i : ℕ) → at ≤ length b → (at ≤ i → at + length v ≤ i)
    → get_or (put b at v) i 0 ≡ get_or b i 0
get_d-other b at v i h above =
    byte-part (put b at v) i ∙ ap (λ (t : List ℕ). get_or t 0 0) (part-other b at v i 1 h (λ l. omega arith) above)
    ∙ sym (byte-part b i)

-- ---- puts

pub put-nil : (b : List ℕ) (at : ℕ) → put b at [] ≡ b
unfolding put
put-nil b at =
    ap₂ (λ (t : List ℕ) (k : ℕ). t ++ drop k b) (append-nil (take at b)) (add-zero at) ∙ take-append-drop at b

-- two in a row are one
pub put-after : (b : List ℕ) (at : ℕ) (u v : List ℕ) (k : ℕ) → at ≤ length b → at + length u ≡ k
    → put (put b at u) k v ≡ put b at (u ++ v)
unfolding put
put-after b at u v k h e =
    let p : List ℕ = take at b ++ u in
    let rest : List ℕ = drop (at + length u) b in
    let l : length (take at b ++ u) ≡ k = simp (length-append, length-take) (omega arith) in
    let m : at + length u + length v ≡ at + length (u ++ v) = simp length-append (omega arith) in
    ap₂ (λ (s t : List ℕ). s ++ v ++ t) (take_at p rest k l)
    (ap (λ (n : ℕ). drop (n + length v) (p ++ rest)) (sym l) ∙ drop-append-add p rest (length v)
    ∙ drop-drop (length v) (at + length u) b ∙ ap (λ (n : ℕ). drop n b) m)
    ∙ ap (λ (t : List ℕ). t ++ drop (at + length (u ++ v)) b) (append_assoc (take at b) u v)

pub put_then : (b : List ℕ) (at : ℕ) (u v : List ℕ) (k : ℕ) {y z : List ℕ} → at ≤ length b → at + length u ≡ k
    → y ≡ put b at u → z ≡ put y k v → z ≡ put b at (u ++ v)
put_then b at u v k h e p q = q ∙ ap (λ (t : List ℕ). put t k v) p ∙ put-after b at u v k h e

-- a run over one at the same place that is no longer
put-again : (b : List ℕ) (at : ℕ) (w v : List ℕ) → at ≤ length b → length w ≤ length v
    → put (put b at w) at v ≡ put b at v
unfolding put
put-again b at w v h l =
    let p : List ℕ = take at b ++ w in
    let rest : List ℕ = drop (at + length w) b in
    let j : ℕ = length v - length w in
    let m : length (take at b ++ w) ≡ at + length w = simp (length-append, length-take) (omega arith) in
    let e : at + length v ≡ length p + j = omega arith in
    let f : at + length w + j ≡ at + length v = omega arith in
    ap₂ (λ (s t : List ℕ). s ++ v ++ t)
    (ap (λ (t : List ℕ). take at t) (append_assoc (take at b) w rest)
    ∙ take_at (take at b) (w ++ rest) at (length-take-le at b h))
    (ap (λ (n : ℕ). drop n (p ++ rest)) e ∙ drop-append-add p rest j ∙ drop-drop j (at + length w) b
    ∙ ap (λ (n : ℕ). drop n b) f)

-- what is written over the end of a run covers it
pub put-cover : (b : List ℕ) (at : ℕ) (u w v : List ℕ) (k : ℕ) {y z : List ℕ} → k + length v ≤ length b
    → at + length u ≡ k → length w ≤ length v → y ≡ put b at (u ++ w) → z ≡ put y k v → z ≡ put b at (u ++ v)
put-cover b at u w v k h e l p q =
    let n : length (put b at u) ≡ length b = length-put b at u (omega arith) in
    q ∙ ap (λ (t : List ℕ). put t k v) (p ∙ sym (put-after b at u w k (omega arith) e))
    ∙ put-again (put b at u) k w v (omega arith) l ∙ put-after b at u v k (omega arith) e

-- all of it
pub put-over : (b v : List ℕ) → length v ≡ length b → put b 0 v ≡ v
unfolding put
put-over b v e =
    let l : length b ≤ 0 + length v = omega arith in
    ap (λ (t : List ℕ). v ++ t) (drop_of_length-le b l) ∙ append-nil v

regroup : (a c v d z : List ℕ) → a ++ c ++ v ++ (d ++ z) ≡ a ++ (c ++ v ++ d) ++ z
regroup a c v d z = simp append_assoc

-- inside a region
pub put-inside : (b : List ℕ) (at len j : ℕ) (v : List ℕ) → at + len ≤ length b → j + length v ≤ len
    → put b (at + j) v ≡ put b at (put (part b at len) j v)
unfolding put part
put-inside b at len j v h l =
    let x : List ℕ = drop at b in
    let p : List ℕ = take len x in
    let lp : length p ≡ len = simp (length-take, length-drop) (omega arith) in
    let lq : length (take j p ++ v ++ drop (j + length v) p) ≡ len =
    simp (length-append, length-take, length-drop) (omega arith) in
    let lj : j + length v ≤ length p = omega arith in
    let q : at + j + length v ≡ at + (j + length v) = omega arith in
    let front : take (at + j) b ≡ take at b ++ take j p =
    take-add at j b ∙ ap (λ (t : List ℕ). take at b ++ t) (sym (take-take j len x (omega arith))) in
    let back : drop (at + j + length v) b ≡ drop (j + length v) p ++ drop len x =
    ap (λ (k : ℕ). drop k b) q ∙ sym (drop-drop (j + length v) at b)
    ∙ ap (λ (t : List ℕ). drop (j + length v) t) (sym (take-append-drop len x))
    ∙ drop-append-le (j + length v) p (drop len x) lj in
    ap₂ (λ (s t : List ℕ). s ++ v ++ t) front back
    ∙ regroup (take at b) (take j p) v (drop (j + length v) p) (drop len x)
    ∙ ap (λ (t : List ℕ). take at b ++ (take j p ++ v ++ drop (j + length v) p) ++ t)
    (drop-drop len at b ∙ ap (λ (k : ℕ). drop (at + k) b) (sym lq))

-- a store is the put of one byte
pub put_one : (b : List ℕ) (i x : ℕ) → i < length b → set b i x ≡ put b i (x ∷ [])
unfolding put
put_one b i x h =
    set_split b i x h ∙ ap (λ (k : ℕ). take i b ++ x ∷ drop k b) (sym (add-one i))
    ∙ sym (append_snoc (take i b) x (drop (i + 1) b))

-- a store before a run that was put
pub put-before : (o : List ℕ) (j x : ℕ) (s : List ℕ) → suc j + length s ≤ length o
    → set (put o (suc j) s) j x ≡ put o j (x ∷ s)
unfolding put
put-before o j x s h =
    let rest : List ℕ = drop (suc j + length s) o in
    let l : length (take j o) ≡ j = simp length-take (omega arith) in
    let e : suc j + length s ≡ j + suc (length s) = omega arith in
    ap (λ (t : List ℕ). set (t ++ s ++ rest) j x) (take-suc o j 0 (omega arith))
    ∙ ap (λ (t : List ℕ). set t j x) (shaped (take j o) (get_or o j 0) s rest)
    ∙ set_at (take j o) (get_or o j 0) (s ++ rest) x j l
    ∙ ap (λ (k : ℕ). take j o ++ (x ∷ (s ++ drop k o))) e
    ∙ sym (append_assoc (take j o) (x ∷ s) (drop (j + suc (length s)) o))
  where
    shaped : (p : List ℕ) (y : ℕ) (s r : List ℕ) → p ++ (y ∷ []) ++ s ++ r ≡ p ++ (y ∷ (s ++ r))
    shaped p y s r = simp append_assoc
