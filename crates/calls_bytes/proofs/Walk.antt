-- The messages of a step, written one after the other, are met again one by one. Assumes nothing.
use Prim.Native.Nat.{ℕ, zero, suc, ◌+◌, ◌≤◌}
use mathlib.Core.Path.{◌≡◌, refl, sym, ap, ap₂, ◌∙◌}
use mathlib.Core.Bool.{Bool, true, false}
use mathlib.Core.List.{List, [], ◌∷◌, ◌++◌, append_assoc, append-nil}
use native.Mathlib.Nat.{zero-add}
use native.Mathlib.Omega.{arith}
use lib.Dec.{eqb}
use lib.ListN.{length, take, drop, length-append, length-take, length-drop}
use lib.Seq.{take_at, drop_at, take-length}
use borrow.Author.Tests.{eqb-true, eq-eqb, ne_eqb}
use Rattle.octets.specs.Answer.{Answer, returned, refused}
use Rattle.octets.specs.Bytes.{part, put}
use Rattle.octets.proofs.Put.{part_same, part-add}
use Rattle.octets.proofs.Test.{true-false}
use Rattle.view.specs.Size.{is_size}
use Rattle.wire.specs.Layout.{encode}
use Rattle.wire.specs.Codec.{front, said, begins, view_part}
use Rattle.wire.specs.declared.Message.{Message}
use Rattle.wire.proofs.RoundTrip.{front-back, not-empty, front-some, front-within, front-alone, read_only}
use Rattle.calls.specs.Bytes.{run}
use Rattle.emit.specs.Room.{AllAllowed, Room}
use Rattle.calls_bytes.specs.Frame.{packed, is_whole}
use Rattle.calls_bytes.specs.Walk.{Piece, AllRead, onward, walk_by, walk, pieces}

as_many : (v : List ℕ) (ms : List Message) → length ms ≤ length (run v ms)
unfolding run
as_many v [] = omega arith
as_many v (m ∷ ms) =
    omega (arith, not-empty m v, as_many v ms, length-append (encode m v) (run v ms))

-- where nothing stands there is no message
none_left : (n : ℕ) → is_size n ≡ true → front n [] ≡ refused 7
unfolding front said begins encode
none_left n s = rw s refl

module _ (n : ℕ) (v : List ℕ) (s : is_size n ≡ true) where
  met : (ms : List Message) (k : ℕ) → AllAllowed n v ms → length ms ≤ k → walk_by k n (run v ms) ≡ pieces v ms
  unfolding run walk_by pieces
  met [] zero l e = refl
  met [] (suc k) l e = ap (onward (walk_by k n) []) (none_left n s)
  met (m ∷ ms) zero l e = absurd (omega arith)
  met (m ∷ ms) (suc k) l e =
      let x = encode m v in
      let rest = run v ms in
      let t : take (length x) (x ++ rest) ≡ x = take_at x rest (length x) refl in
      let d : drop (length x) (x ++ rest) ≡ rest = drop_at x rest (length x) refl in
      ap (onward (walk_by k n) (x ++ rest)) (front-back n m v rest s l.0)
      ∙ ap₂ (λ (y z : List ℕ). record { message = m; bytes = y } ∷ walk_by k n z) t d
      ∙ ap (λ (z : List Piece). record { message = m; bytes = x } ∷ z) (met ms k l.1 (omega arith))

-- ---- any bytes, message by message

module _ (n : ℕ) where
  none-met : (next : List ℕ → List Piece) (b : List ℕ) (a : Answer (Message × ℕ)) → front n b ≡ a → length b ≤ 0
      → onward next b a ≡ []
  none-met next b (refused c) e l = refl
  none-met next b (returned p) e l =
      absurd (omega (arith, l, front-some n b p.0 p.1 e, front-within n b p.0 p.1 e))

  onward-same : (next again : List ℕ → List Piece) (b : List ℕ) (a : Answer (Message × ℕ)) → front n b ≡ a
      → ((m : Message) (k : ℕ) → front n b ≡ returned (m, k) → next (drop k b) ≡ again (drop k b))
      → onward next b a ≡ onward again b a
  onward-same next again b (refused c) e h = refl
  onward-same next again b (returned p) e h =
      ap (λ (z : List Piece). record { message = p.0; bytes = take p.1 b } ∷ z) (h p.0 p.1 e)

  -- as many steps as there are bytes are enough
  enough : (i j : ℕ) (b : List ℕ) → length b ≤ i → length b ≤ j → walk_by i n b ≡ walk_by j n b
  unfolding walk_by
  enough zero zero b l h = refl
  enough zero (suc j) b l h = sym (none-met (walk_by j n) b (front n b) refl l)
  enough (suc i) zero b l h = none-met (walk_by i n) b (front n b) refl h
  enough (suc i) (suc j) b l h =
      onward-same (walk_by i n) (walk_by j n) b (front n b) refl (λ m k e.
      let low = front-some n b m k e in
      let most = length-drop k b in
      enough i j (drop k b) (omega (arith, low, most, l)) (omega (arith, low, most, h)))

  one_more : (b : List ℕ) → walk n b ≡ onward (walk_by (length b) n) b (front n b)
  unfolding walk_by
  one_more b = enough (length b) (suc (length b)) b (omega arith) (omega arith)

  module _ (b : List ℕ) where
    pub walk_none : (c : ℕ) → front n b ≡ refused c → walk n b ≡ []
    walk_none c e = one_more b ∙ ap (onward (walk_by (length b) n) b) e

    module _ (m : Message) (k : ℕ) (e : front n b ≡ returned (m, k)) where
      pub walk_more : walk n b ≡ record { message = m; bytes = take k b } ∷ walk n (drop k b)
      walk_more =
          one_more b ∙ ap (onward (walk_by (length b) n) b) e
          ∙ ap (λ (z : List Piece). record { message = m; bytes = take k b } ∷ z)
          (enough (length b) (length (drop k b)) (drop k b) (omega (arith, length-drop k b)) (omega arith))

-- ---- a frame, message by message

eqb-shift : (k x y : ℕ) → eqb (k + x) (k + y) ≡ eqb x y
eqb-shift k x y = by (eqb x y) refl
  where
    by : (t : Bool) → eqb x y ≡ t → eqb (k + x) (k + y) ≡ t
    by true e = let h = eqb-true x y e in eq-eqb (k + x) (k + y) (omega (arith, h))
    by false e = ne_eqb (k + x) (k + y) (λ h. let z : x ≡ y = omega (arith, h) in true-false (eqb x y) (eq-eqb x y z) e)

module _ (n : ℕ) (b : List ℕ) where
  pub whole-none : (c : ℕ) → front n b ≡ refused c → 1 ≤ length b → is_whole n b ≡ false
  whole-none c e l = rw (walk_none n b c e) (ne_eqb 0 (length b) (λ h. omega (arith, h, l)))

  -- it is whole where what follows its first message is
  pub whole-more : (m : Message) (k : ℕ) → front n b ≡ returned (m, k) → is_whole n b ≡ is_whole n (drop k b)
  whole-more m k e =
      let rest = packed (walk n (drop k b)) in
      let long : length b ≡ k + length (drop k b) =
      let i = front-within n b m k e in let j = length-drop k b in omega (arith, i, j) in
      let front_long : length (take k b) ≡ k =
      let i = front-within n b m k e in let j = length-take k b in omega (arith, i, j) in
      let parts : length (packed (walk n b)) ≡ k + length rest =
      ap (λ (z : List Piece). length (packed z)) (walk_more n b m k e) ∙ length-append (take k b) rest
      ∙ ap (λ (j : ℕ). j + length rest) front_long in
      ap₂ eqb parts long ∙ eqb-shift k (length rest) (length (drop k b))

-- what is met is read, and stands at the front
onward-read : (n : ℕ) (next : List ℕ → List Piece) (b : List ℕ) (a : Answer (Message × ℕ)) → front n b ≡ a
    → ((k : ℕ) → AllRead n (next (drop k b))) → AllRead n (onward next b a)
onward-read n next b (refused c) e h = tt
onward-read n next b (returned p) e h = (front-alone n b p.0 p.1 e, h p.1)

met-read : (k n : ℕ) (b : List ℕ) → AllRead n (walk_by k n b)
unfolding walk_by
met-read zero n b = tt
met-read (suc k) n b = onward-read n (walk_by k n) b (front n b) refl (λ j. met-read k n (drop j b))

pub all_read : (n : ℕ) (b : List ℕ) → AllRead n (walk n b)
all_read n b = met-read (length b) n b

take-add : (j k : ℕ) (b : List ℕ) → take (j + k) b ≡ take j b ++ take k (drop j b)
unfolding part
take-add j k b = part-add b 0 j k ∙ ap (λ (i : ℕ). take j b ++ take k (drop i b)) (zero-add j)

abbrev InFront : List Piece → List ℕ → Type 0
InFront ms b = take (length (packed ms)) b ≡ packed ms

onward-front : (n : ℕ) (next : List ℕ → List Piece) (b : List ℕ) (a : Answer (Message × ℕ)) → front n b ≡ a
    → ((k : ℕ) → InFront (next (drop k b)) (drop k b)) → InFront (onward next b a) b
onward-front n next b (refused c) e h = refl
onward-front n next b (returned p) e h =
    let x = take p.1 b in
    let rest = packed (next (drop p.1 b)) in
    let i = front-within n b p.0 p.1 e in
    let j = length-take p.1 b in
    let l : length x ≡ p.1 = omega (arith, i, j) in
    ap (λ (z : ℕ). take z b) (length-append x rest ∙ ap (λ (z : ℕ). z + length rest) l)
    ∙ take-add p.1 (length rest) b ∙ ap (λ (z : List ℕ). x ++ z) (h p.1)

met-front : (k n : ℕ) (b : List ℕ) → InFront (walk_by k n b) b
unfolding walk_by
met-front zero n b = refl
met-front (suc k) n b = onward-front n (walk_by k n) b (front n b) refl (λ j. met-front k n (drop j b))

pub walk-all : (n : ℕ) (b : List ℕ) → is_whole n b ≡ true → packed (walk n b) ≡ b
walk-all n b h =
    sym (met-front (length b) n b) ∙ ap (λ (z : ℕ). take z b) (eqb-true (length (packed (walk n b))) (length b) h)
    ∙ take-length b

-- what was packed is met again, and then what follows it
pub walk_before : (n : ℕ) (ms : List Piece) (b : List ℕ) → AllRead n ms → walk n (packed ms ++ b) ≡ ms ++ walk n b
walk_before n [] b h = refl
walk_before n (m ∷ ms) b h =
    let w = read_only n m.bytes m.message h.0 in
    let v = view_part n m.bytes in
    let rest = packed ms ++ b in
    let k = length m.bytes in
    let f : front n (m.bytes ++ rest) ≡ returned (m.message, k) =
    ap (λ (z : List ℕ). front n (z ++ rest)) w.bytes ∙ front-back n m.message v rest w.sized w.allowed-is
    ∙ ap (λ (z : List ℕ). returned (m.message, length z)) (sym w.bytes) in
    ap (walk n) (append_assoc m.bytes (packed ms) b) ∙ walk_more n (m.bytes ++ rest) m.message k f
    ∙ ap₂ (λ (y z : List ℕ). record { message = m.message; bytes = y } ∷ walk n z) (take_at m.bytes rest k refl)
    (drop_at m.bytes rest k refl)
    ∙ ap (λ (z : List Piece). m ∷ z) (walk_before n ms b h.1)

pub walk-packed : (n : ℕ) (ms : List Piece) → AllRead n ms → walk n (packed ms) ≡ ms
unfolding walk_by
walk-packed n ms h = ap (walk n) (sym (append-nil (packed ms))) ∙ walk_before n ms [] h ∙ append-nil ms

pub whole-packed : (n : ℕ) (ms : List Piece) → AllRead n ms → is_whole n (packed ms) ≡ true
whole-packed n ms h =
    eq-eqb (length (packed (walk n (packed ms)))) (length (packed ms))
    (ap (λ (z : List Piece). length (packed z)) (walk-packed n ms h))

pub packed-both : (xs ys : List Piece) → packed (xs ++ ys) ≡ packed xs ++ packed ys
packed-both [] ys = refl
packed-both (x ∷ xs) ys =
    ap (λ (z : List ℕ). x.bytes ++ z) (packed-both xs ys) ∙ sym (append_assoc x.bytes (packed xs) (packed ys))

-- two runs of messages, one after the other
module _ (n : ℕ) (a b : List ℕ) (h : is_whole n a ≡ true) where
  pub walk-both : walk n (a ++ b) ≡ walk n a ++ walk n b
  walk-both =
      ap (λ (z : List ℕ). walk n (z ++ b)) (sym (walk-all n a h)) ∙ walk_before n (walk n a) b (all_read n a)

  pub whole-both : is_whole n b ≡ true → is_whole n (a ++ b) ≡ true
  whole-both g =
      eq-eqb (length (packed (walk n (a ++ b)))) (length (a ++ b))
      (ap (λ (z : List ℕ). length z)
      (ap packed walk-both ∙ packed-both (walk n a) (walk n b)
      ∙ ap₂ (λ (x y : List ℕ). x ++ y) (walk-all n a h) (walk-all n b g)))

-- ---- the messages of a step

packed-pieces : (v : List ℕ) (ms : List Message) → packed (pieces v ms) ≡ run v ms
unfolding pieces run
packed-pieces v [] = refl
packed-pieces v (m ∷ ms) = ap (λ (z : List ℕ). encode m v ++ z) (packed-pieces v ms)

-- the front of a buffer into which they were written
pub walked : (n : ℕ) (v : List ℕ) (ms : List Message) (out : List ℕ) → Room n v ms 0 (length out)
    → walk n (take (length (run v ms)) (put out 0 (run v ms))) ≡ pieces v ms
unfolding part
walked n v ms out h =
    ap (walk n) (part_same out 0 (run v ms) (length (run v ms)) (omega arith) refl)
    ∙ met n v h.sized ms (length (run v ms)) h.fit (as_many v ms)

pub whole-written : (n : ℕ) (v : List ℕ) (ms : List Message) (out : List ℕ) → Room n v ms 0 (length out)
    → is_whole n (take (length (run v ms)) (put out 0 (run v ms))) ≡ true
unfolding part
whole-written n v ms out h =
    eq-eqb _ _
    (ap (λ (z : List Piece). length (packed z)) (walked n v ms out h)
    ∙ ap (λ (z : List ℕ). length z)
    (packed-pieces v ms ∙ sym (part_same out 0 (run v ms) (length (run v ms)) (omega arith) refl)))
