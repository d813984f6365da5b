-- A piece is read byte by byte: what one byte more does, and how the buffer fills, within the room for its bytes.
use Prim.Native.Nat.{ℕ, ◌+◌, ◌*◌, ◌<◌, ◌≤◌, min}
use mathlib.Core.Path.{◌≡◌, refl, sym, ap, ◌∙◌}
use mathlib.Core.List.{List, [], ◌∷◌, ◌++◌, append_assoc, append-nil}
use native.Mathlib.Nat.{zero-add, lt_of_not-le}
use native.Mathlib.Numerals.{add-one}
use native.Mathlib.Decide.{dec_le}
use native.Mathlib.Omega.{arith}
use lib.ListN.{length, take, get_or, length-append}
use lib.Seq.{take_all, take-suc}
use Rattle.octets.specs.Bytes.{put}
use Rattle.octets.proofs.Put.{put-nil, put_then}
use Rattle.answers.specs.Answer.{room}
use Rattle.session_progress.specs.declared.Progress.{Progress}
use Rattle.session_byte.specs.Byte.{Turned, stepped}
use Rattle.session_byte.proofs.Short.{step-short}
use Rattle.session.specs.Turn.{behind, turned}

-- a byte after what bytes did
abbrev pub then : Turned → ℕ → Turned
then r x = behind r.text (stepped r.progress x r.memory)

turned_more : (p : Progress) (s : List ℕ) (x : ℕ) (m : List ℕ) → turned p (s ++ (x ∷ [])) m ≡ then (turned p s m) x
unfolding turned
turned_more p [] x m =
    ap (λ (o : List ℕ). record { progress = (stepped p x m).progress; memory = (stepped p x m).memory; text = o })
    (append-nil (stepped p x m).text)
turned_more p (y ∷ s) x m =
    let v : Turned = stepped p y m in
    let r : Turned = turned v.progress s v.memory in
    let w : Turned = stepped r.progress x r.memory in
    ap (behind v.text) (turned_more v.progress s x v.memory)
    ∙ ap (λ (o : List ℕ). record { progress = w.progress; memory = w.memory; text = o })
    (sym (append_assoc v.text r.text w.text))

-- ---- the front of a piece, place by place

-- what is so after the first i bytes of s: what is kept, the memory and the buffer, which was o
pub record Read (p : Progress) (s m o : List ℕ) (i : ℕ) (q : Progress) (k b : List ℕ) (at : ℕ) : Type 0 where
  pub progress : q ≡ (turned p (take i s) m).progress
  pub memory : k ≡ (turned p (take i s) m).memory
  pub buffer : b ≡ put o 0 (turned p (take i s) m).text
  pub place : at ≡ length (turned p (take i s) m).text
  pub short : at ≤ i * room

pub read_none : (p : Progress) (s m o : List ℕ) → Read p s m o 0 p m o 0
unfolding turned
read_none p s m o =
    record { progress = refl; memory = refl; buffer = sym (put-nil o 0); place = refl; short = omega arith }

module _ {p : Progress} {s m o : List ℕ} {i : ℕ} {q : Progress} {k b : List ℕ} {at : ℕ} where
  pub read_more : Read p s m o i q k b at → i < length s → {x : ℕ} → x ≡ get_or s i 0 → {q' : Progress} {k' b' : List ℕ}
      {at' : ℕ} → q' ≡ (stepped q x k).progress → k' ≡ (stepped q x k).memory → b' ≡ put b at (stepped q x k).text
      → at' ≡ at + length (stepped q x k).text → Read p s m o (i + 1) q' k' b' at'
  read_more r l {x} e a c d f =
      let v : Turned = turned p (take i s) m in
      let w : Turned = stepped q x k in
      let same : stepped v.progress x v.memory ≡ w = rw (r.progress, r.memory) refl in
      let more : turned p (take (i + 1) s) m ≡ then v x =
      ap (λ (u : List ℕ). turned p u m) (ap (λ (j : ℕ). take j s) (add-one i) ∙ take-suc s i 0 l
      ∙ ap (λ (y : ℕ). take i s ++ (y ∷ [])) (sym e)) ∙ turned_more p (take i s) x m in
      let is : turned p (take (i + 1) s) m ≡ behind v.text w = more ∙ ap (behind v.text) same in
      let text : v.text ++ w.text ≡ (turned p (take (i + 1) s) m).text = ap (λ (u : Turned). u.text) (sym is) in
      record {
        progress = a ∙ ap (λ (u : Turned). u.progress) (sym is);
        memory = c ∙ ap (λ (u : Turned). u.memory) (sym is);
        buffer = put_then o 0 v.text w.text at (omega arith) (zero-add (length v.text) ∙ sym r.place)
            r.buffer d ∙ ap (λ (u : List ℕ). put o 0 u) text;
        place = f ∙ ap (λ (j : ℕ). j + length w.text) r.place ∙ sym (length-append v.text w.text)
            ∙ ap length text;
        short = omega (arith, f, r.short, step-short q x k);
      }

-- the first bytes, as many as a number says and there are
pub take-least : (s : List ℕ) (count i : ℕ) → i ≡ min count (length s) → take i s ≡ take count s
take-least s count i e = elim (dec_le count (length s)) [
  | yes h ↦ within h
  | no h ↦ past (lt_of_not-le h)
]
  where
    within : count ≤ length s → take i s ≡ take count s
    within h =
        let same : i ≡ count = omega (arith, e, h) in
        ap (λ (j : ℕ). take j s) same

    past : length s < count → take i s ≡ take count s
    past h = take_all i s (omega (arith, e, h)) ∙ sym (take_all count s (omega (arith, h)))
