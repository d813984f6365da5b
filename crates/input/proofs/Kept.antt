-- What is kept of a line is all that reading it needs.
use Prim.Native.Nat.{ℕ, suc, ◌+◌, ◌-◌, ◌<◌, ◌≤◌}
use mathlib.Core.Path.{◌≡◌, sym, ap, ap₂, ◌∙◌}
use mathlib.Core.List.{List, [], ◌∷◌, ◌++◌, append-nil}
use native.Mathlib.Nat.{lt_of_not-le}
use native.Mathlib.Decide.{dec_le}
use native.Mathlib.Omega.{arith}
use lib.ListN.{length, take, set, replicate, length-append}
use lib.Seq.{take_all, take-append-le, take-append_seam, set-append_seam, append_snoc}
use lib.Dec.{leb}
use borrow.Author.Tests.{le-leb, lt-leb, lt-ltb, le-ltb}
use Rattle.octets.specs.Test.{pick}
use Rattle.lines.specs.Grammar.{event_of, first_of}
use Rattle.std.specs.Prelude.{None}
use Rattle.lines.proofs.OnlyLegal.{long-bad, long-no-opening}
use Rattle.input.specs.Carry.{most, carry_up_to, carry_of, pushed, push, event_in, first_in}
use Rattle.input.specs.declared.Carry.{Carry}

abbrev kept : List ℕ → ℕ → Carry
kept b k = record { bytes = b; size = k }

module _ (m : ℕ) where
  short : (l : List ℕ) → length l ≤ m → carry_up_to m l ≡ kept (l ++ replicate (m - length l) 0) (length l)
  short l h = simp (le-leb (length l) m h, take_all m l h)

  long : (l : List ℕ) → m < length l → carry_up_to m l ≡ kept (take m l) (suc m)
  long l h =
      let e : m - length l ≡ 0 = omega arith in
      simp (lt-leb (length l) m h, e, append-nil)

  push-room : (b : List ℕ) (k x : ℕ) → k < m → pushed m (kept b k) x ≡ kept (set b k x) (k + 1)
  push-room b k x h = simp (lt-ltb k m h)

  push-full : (b : List ℕ) (k x : ℕ) → m ≤ k → pushed m (kept b k) x ≡ kept b (suc m)
  push-full b k x h = simp (le-ltb k m h)

  longer : (l : List ℕ) (x : ℕ) → length (l ++ (x ∷ [])) ≡ length l + 1
  longer l x = length-append l (x ∷ [])

  push-carry_up_to : (l : List ℕ) (x : ℕ) → pushed m (carry_up_to m l) x ≡ carry_up_to m (l ++ (x ∷ []))
  push-carry_up_to l x = elim (dec_le m (length l)) [ yes h ↦ full h | no h ↦ room (lt_of_not-le h) ]
    where
      r : List ℕ
      r = l ++ (x ∷ [])

      room : length l < m → pushed m (carry_up_to m l) x ≡ carry_up_to m r
      room h =
          let n : length r ≡ length l + 1 = longer l x in
          let z : List ℕ = replicate (m - length r) 0 in
          let e : m - length l ≡ suc (m - length r) = omega arith in
          ap (λ (c : Carry). pushed m c x) (short l (omega arith))
          ∙ push-room (l ++ replicate (m - length l) 0) (length l) x h
          ∙ ap₂ kept
          (ap (λ (k : ℕ). set (l ++ replicate k 0) (length l) x) e ∙ set-append_seam l 0 z x ∙ sym (append_snoc l x z))
          (sym n) ∙ sym (short r (omega arith))

      -- the bytes that are kept of a line as long as they are, or longer
      front : m ≤ length l → (carry_up_to m l).bytes ≡ take m l
      front h =
          let e : m - length l ≡ 0 = omega arith in
          ap (λ (k : ℕ). take m l ++ replicate k 0) e ∙ append-nil (take m l)

      size : m ≤ length l → m ≤ (carry_up_to m l).size
      size h = elim (dec_le (length l) m) [
        | yes k ↦ rw (le-leb (length l) m k) h
        | no k ↦ rw (lt-leb (length l) m
            (lt_of_not-le k)) (omega arith)
      ]

      full : m ≤ length l → pushed m (carry_up_to m l) x ≡ carry_up_to m r
      full h =
          let n : length r ≡ length l + 1 = longer l x in
          push-full (carry_up_to m l).bytes (carry_up_to m l).size x (size h)
          ∙ ap (λ (b : List ℕ). kept b (suc m)) (front h ∙ sym (take-append-le m l (x ∷ []) h))
          ∙ sym (long r (omega arith))

-- one byte more of a line
pub push-carry : (l : List ℕ) (x : ℕ) → push (carry_of l) x ≡ carry_of (l ++ (x ∷ []))
unfolding push carry_of
push-carry l x = push-carry_up_to most l x

-- ---- reading

-- a line that is kept whole, by a reader f that answers z for each longer one
read-carry_up_to : {A : Type 0} (m : ℕ) (f : List ℕ → A) (z : A) → ((l : List ℕ) → m < length l → f l ≡ z)
    → (l : List ℕ)
    → pick (leb (carry_up_to m l).size m) (f (take (carry_up_to m l).size (carry_up_to m l).bytes)) z ≡ f l
read-carry_up_to {A = A} m f z over l = elim (dec_le (length l) m) [ yes h ↦ whole h | no h ↦ cut (lt_of_not-le h) ]
  where
    reads : Carry → A
    reads c = pick (leb c.size m) (f (take c.size c.bytes)) z

    whole : length l ≤ m → reads (carry_up_to m l) ≡ f l
    whole h =
        ap reads (short m l h)
        ∙ simp (le-leb (length l) m h, take-append_seam l (replicate (m - length l) 0))

    cut : m < length l → reads (carry_up_to m l) ≡ f l
    cut h = ap reads (long m l h) ∙ simp (lt-leb (suc m) m (omega arith)) (sym (over l h))

pub event-carry : (l : List ℕ) → event_in (carry_of l) ≡ event_of l
unfolding event_in carry_of
event-carry l = read-carry_up_to most event_of None (λ k h. long-bad k (omega arith)) l

pub first-carry : (l : List ℕ) → first_in (carry_of l) ≡ first_of l
unfolding first_in carry_of
first-carry l = read-carry_up_to most first_of None (λ k h. long-no-opening k (omega arith)) l
