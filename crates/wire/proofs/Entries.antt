-- The two entries together, on their promises: `read` reads what `write` put into a buffer, and `write` makes the bytes
-- that were read.
use Prim.Native.Nat.{ℕ, ◌+◌, ◌≤◌}
use mathlib.Core.Path.{◌≡◌, sym, ap, ◌∙◌}
use mathlib.Core.Bool.{true}
use mathlib.Core.List.{List}
use native.Mathlib.Omega.{arith}
use lib.ListN.{length, take, drop}
use lib.Seq.{take-append_seam}
use lib.Dec.{leb}
use borrow.Author.Tests.{leb-true, le-leb}
use Rattle.octets.specs.Answer.{returned, refused}
use Rattle.octets.specs.Test.{pick}
use Rattle.octets.specs.Bytes.{put}
use Rattle.octets.proofs.Put.{put-over}
use Rattle.view.specs.Size.{is_size}
use Rattle.wire.specs.Layout.{encode, allowed}
use Rattle.wire.specs.Codec.{decode, view_part, answer, after}
use Rattle.wire.specs.declared.Message.{Message}
use Rattle.wire.proofs.Front.{chosen, first-passed}
use Rattle.wire.proofs.RoundTrip.{read_back, read_only}

-- what a length as the answer of writing tells
pub record Wrote (n : ℕ) (m : Message) (v : List ℕ) (room k : ℕ) : Type 0 where
  pub sized : is_size n ≡ true
  pub allowed-is : allowed n m v ≡ true
  pub long : k ≡ length (encode m v)
  pub fits : k ≤ room

pub wrote : (n : ℕ) (m : Message) (v : List ℕ) (room k : ℕ) → answer n m v room ≡ returned k → Wrote n m v room k
unfolding answer
wrote n m v room k e =
    let l = length (encode m v) in
    let p = first-passed (is_size n)
    (pick (allowed n m v) (pick (leb l room) (returned l) (refused 12)) (refused 7)) 1 k e in
    let q = first-passed (allowed n m v) (pick (leb l room) (returned l) (refused 12)) 7 k p.1 in
    let r = chosen (leb l room) k l 12 (sym q.1) in
    let f : l ≤ room = leb-true l room r.0 in
    let g : k ≡ l = r.1 in
    record { sized = p.0; allowed-is = q.0; long = g; fits = omega arith }

pub answered : (n : ℕ) (m : Message) (v : List ℕ) (room : ℕ) → is_size n ≡ true → allowed n m v ≡ true
    → length (encode m v) ≤ room → answer n m v room ≡ returned (length (encode m v))
unfolding answer
answered n m v room s h l = simp (s, h, le-leb (length (encode m v)) room l)

front-put : (e out : List ℕ) → take (length e) (put out 0 e) ≡ e
unfolding put
front-put e out = take-append_seam e (drop (0 + length e) out)

pub read-after-write : (n : ℕ) (m : Message) (v out : List ℕ) (k : ℕ) → answer n m v (length out) ≡ returned k
    → decode n (take k (after (answer n m v (length out)) (encode m v) out)) ≡ returned m
read-after-write n m v out k e =
    let w = wrote n m v (length out) k e in
    ap (λ a. decode n (take k (after a (encode m v) out))) e
    ∙ ap (λ (j : ℕ). decode n (take j (put out 0 (encode m v)))) w.long
    ∙ ap (λ (b : List ℕ). decode n b) (front-put (encode m v) out) ∙ read_back n m v w.sized w.allowed-is

pub write-after-read : (n : ℕ) (b : List ℕ) (m : Message) (out : List ℕ) → decode n b ≡ returned m → length out
    ≡ length b
    → (answer n m (view_part n b) (length out) ≡ returned (length b))
    × (after (answer n m (view_part n b) (length out)) (encode m (view_part n b)) out ≡ b)
write-after-read n b m out e l =
    let w = read_only n b m e in
    let f : length b ≡ length (encode m (view_part n b)) = ap (λ (x : List ℕ). length x) w.bytes in
    let a = answered n m (view_part n b) (length out) w.sized w.allowed-is (omega arith) in (
      a ∙ ap (λ k. returned k) (sym f),
      ap (λ x. after x (encode m (view_part n b)) out) a
          ∙ put-over out (encode m (view_part n b)) (sym f ∙ sym l) ∙ sym w.bytes,
    )
