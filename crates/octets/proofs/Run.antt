-- A run of bytes copied word by word, the last word up to its end: after i bytes the list is `put b at (take i s)`.
use Prim.Native.Nat.{ℕ, ◌+◌, ◌-◌, ◌<◌, ◌≤◌}
use native.Mathlib.Omega.{arith}
use native.Mathlib.Decide.{dec_lt}
use mathlib.Core.Path.{◌≡◌, sym, ap, ◌∙◌}
use mathlib.Core.List.{List, [], ◌++◌}
use lib.ListN.{length, take, drop}
use lib.Seq.{take_all, take-add, take-take, length-take-le}
use Rattle.octets.specs.Bytes.{Bytes, num, be, part, put}
use Rattle.octets.specs.Word.{word_size, word}
use Rattle.octets.proofs.Number.{be-num}
use Rattle.octets.proofs.Put.{length_part, part_bytes, part-part, part-other, put_then, put-cover, put-inside}
use Rattle.octets.proofs.Put.{put-nil}

-- the bytes of a word's number are the word's
pub word-is : (s : List ℕ) (i : ℕ) → Bytes s → i + word_size ≤ length s → be word_size (word s i) ≡ part s i word_size
word-is s i bytes h =
    ap (λ (k : ℕ). be k (num (part s i word_size))) (sym (length_part s i word_size h))
    ∙ be-num (part s i word_size) (part_bytes s i word_size bytes)

-- so many bytes, and more
front-more : (s : List ℕ) (i k : ℕ) → take (i + k) s ≡ take i s ++ part s i k
unfolding part
front-more s i k = take-add i k s

module _ (b : List ℕ) (at : ℕ) (s : List ℕ) (fits : at + length s ≤ length b) (i : ℕ) {y z : List ℕ}
    (p : y ≡ put b at (take i s)) where
  -- one word more
  pub words_more : i + word_size ≤ length s → z ≡ put y (at + i) (part s i word_size)
      → z ≡ put b at (take (i + word_size) s)
  words_more h q =
      let l : length (take i s) ≡ i = length-take-le i s (omega arith) in
      put_then b at (take i s) (part s i word_size) (at + i) (omega arith) (omega arith) p q
      ∙ ap (put b at) (sym (front-more s i word_size))

  -- the last word
  pub words-all : word_size ≤ length s → i ≤ length s → length s ≤ i + word_size
      → z ≡ put y (at + (length s - word_size)) (part s (length s - word_size) word_size) → z ≡ put b at s
  words-all some low high q =
      let k = length s - word_size in
      let e : i ≡ k + (i - k) = omega arith in
      let w = part s k (i - k) in
      let lw : length w ≡ i - k = length_part s k (i - k) (omega arith) in
      let lv : length (part s k word_size) ≡ word_size = length_part s k word_size (omega arith) in
      let lk : length (take k s) ≡ k = length-take-le k s (omega arith) in
      let split : take i s ≡ take k s ++ w = ap (λ (j : ℕ). take j s) e ∙ front-more s k (i - k) in
      let full : length s ≤ k + word_size = omega arith in
      put-cover b at (take k s) w (part s k word_size) (at + k) (omega arith) (omega arith) (omega arith)
      (p ∙ ap (put b at) split) q
      ∙ ap (put b at) (sym (front-more s k word_size) ∙ take_all (k + word_size) s full)

-- a region written over by itself
pub put-part : (b : List ℕ) (at len : ℕ) → at + len ≤ length b → put b at (part b at len) ≡ b
put-part b at len h =
    let z : at ≡ at + 0 = omega arith in
    ap (λ (t : List ℕ). put b at t) (sym (put-nil (part b at len) 0))
    ∙ sym (put-inside b at len 0 [] h (omega arith)) ∙ put-nil b (at + 0)

front_of : (b : List ℕ) (from len i : ℕ) → i ≤ len → take i (part b from len) ≡ part b from i
unfolding part
front_of b from len i l = take-take i len (drop from b) l

-- Within one list: what stands at the other place, or at the same one, is what stood there.
pub still_read : (b : List ℕ) (from to len i k : ℕ) → from + len ≤ length b → to + len ≤ length b → i ≤ len
    → k + word_size ≤ len → (from < to → from + len ≤ to) → (to < from → to + len ≤ from) → {t : List ℕ}
    → t ≡ put b to (take i (part b from len)) → part t (from + k) word_size ≡ part (part b from len) k word_size
still_read b from to len i k h g l m below above {t} e =
    let s = part b from len in
    let ls : length s ≡ len = length_part b from len h in
    let li : length (take i s) ≡ i = length-take-le i s (omega arith) in
    ap (λ (x : List ℕ). part x (from + k) word_size) e
    ∙ elim (dec_lt from to) [
      | yes z ↦ part-other b to (take i s) (from + k) word_size (omega arith) (λ q. omega (arith, below z))
          (λ q. omega (arith, below z))
      | no z ↦ elim (dec_lt to from) [
        | yes y ↦ part-other b to (take i s) (from + k) word_size (omega arith) (λ q. omega (arith, above y))
            (λ q. omega (arith, above y))
        | no y ↦
            let same : to ≡ from = omega arith in
            ap (λ (x : List ℕ). part x (from + k) word_size)
            (ap (λ (j : ℕ). put b j (take i s)) same ∙ ap (put b from) (front_of b from len i l)
            ∙ put-part b from i (omega arith))
      ]
    ]
    ∙ sym (part-part b from len k word_size m)
