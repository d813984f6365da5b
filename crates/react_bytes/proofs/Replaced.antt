-- Runs of one length after each other, one of them replaced: a table of words with another word, a view with another
-- entry.
use Prim.Native.Nat.{ℕ, ◌+◌, ◌-◌, ◌*◌, ◌<◌, ◌≤◌}
use mathlib.Core.Path.{◌≡◌, refl, sym, ap, ap₂, ◌∙◌}
use mathlib.Core.Logic.{⊎_elim}
use mathlib.Core.List.{List}
use native.Mathlib.Nat.{mul-suc, mul-le-mul_left, lt_of_not-le, eq-or-lt_of_le}
use native.Mathlib.Decide.{ℕ_discrete, dec_le}
use native.Mathlib.Omega.{arith}
use lib.ListN.{length, get_or, set, length-set}
use lib.Seq.{get_or-set_same, get_or-set_other, take_all}
use Rattle.octets.specs.Bytes.{be, part, put}
use Rattle.octets.specs.Loop.{join}
use Rattle.octets.specs.Word.{word_bytes, word_size}
use Rattle.octets.proofs.Put.{part-other, part_same, length-put}
use Rattle.octets.proofs.Table.{length-join, part_join, join-ext, join-parts}
use Rattle.view.specs.Size.{nodes, entry_size}
use Rattle.view.specs.Report.{no_report}
use Rattle.view.specs.View.{entry_bytes, view_bytes}
use Rattle.view.specs.declared.Report.{Report}
use Rattle.view.specs.declared.View.{View}
use Rattle.table.specs.Table.{put_entry}
use Rattle.region.proofs.Back.{Sized}

before : (s i k : ℕ) → i < k → s * i + s ≤ s * k
before s i k l = rw (sym (mul-suc s i)) (mul-le-mul_left s l)

pub strict : (k i : ℕ) → k ≤ i → (k ≡ i → ⊥) → k < i
strict k i h e = ⊎_elim (λ p. absurd (e p)) (λ p. p) (eq-or-lt_of_le h)

module _ (n s k : ℕ) (f g : ℕ → List ℕ) (v : List ℕ) (size : (i : ℕ) → length (f i) ≡ s) (l : k < n) (z : length v ≡ s)
    (here : g k ≡ v) (other : (i : ℕ) → (i ≡ k → ⊥) → g i ≡ f i) where
  inside : s * k + length v ≤ length (join n f)
  inside = let m : s * k + s ≤ s * n = before s k n l in rw (length-join n s f size) (omega arith)

  run : (i : ℕ) → i < n → part (put (join n f) (s * k) v) (s * i) s ≡ g i
  run i m = elim (ℕ_discrete i k) [ yes e ↦ same e | no e ↦ apart e (dec_le k i) ]
    where
      same : i ≡ k → part (put (join n f) (s * k) v) (s * i) s ≡ g i
      same e =
          ap (λ (j : ℕ). part (put (join n f) (s * k) v) (s * j) s) e
          ∙ part_same (join n f) (s * k) v s (omega (arith, inside)) z ∙ sym here ∙ ap g (sym e)

      apart : (i ≡ k → ⊥) → Dec (k ≤ i) → part (put (join n f) (s * k) v) (s * i) s ≡ g i
      apart e (yes q) =
          let h : s * k + s ≤ s * i = before s k i (strict k i q (λ p. e (sym p))) in
          part-other (join n f) (s * k) v (s * i) s (omega (arith, inside)) (λ p. omega arith) (λ p. omega arith)
          ∙ part_join n s f i size m ∙ sym (other i e)
      apart e (no q) =
          let h : s * i + s ≤ s * k = before s i k (lt_of_not-le q) in
          part-other (join n f) (s * k) v (s * i) s (omega (arith, inside)) (λ p. h) (λ p. omega arith)
          ∙ part_join n s f i size m ∙ sym (other i e)

  put-join : put (join n f) (s * k) v ≡ join n g
  put-join =
      let e : length (put (join n f) (s * k) v) ≡ s * n = length-put (join n f) (s * k) v inside
      ∙ length-join n s f size in
      let h : length (put (join n f) (s * k) v) ≤ s * n = omega arith in
      sym (take_all (s * n) (put (join n f) (s * k) v) h) ∙ sym (join-parts n s (put (join n f) (s * k) v))
      ∙ join-ext n _ g run

-- a table of words and a view, one entry replaced
pub put_word : (t : List ℕ) (k x : ℕ) → k < length t → put (word_bytes t) (word_size * k) (be word_size x)
    ≡ word_bytes (set t k x)
put_word t k x l =
    put-join (length t) word_size k (λ i. be word_size (get_or t i 0)) (λ i. be word_size (get_or (set t k x) i 0))
    (be word_size x) (λ i. refl) l refl
    (ap (be word_size) (get_or-set_same t k x 0 l)) (λ i e. ap (be word_size) (get_or-set_other t k i x 0 e))
    ∙ ap (λ (n : ℕ). join n (λ i. be word_size (get_or (set t k x) i 0))) (sym (length-set t k x))

pub put-entry : (v : View) (w t : ℕ) (p : Report) → Sized v → 1 ≤ w → w ≤ nodes
    → put (view_bytes nodes v) (entry_size * (w - 1)) (entry_bytes t p) ≡ view_bytes nodes (put_entry v w t p)
unfolding view_bytes
put-entry v w t p z lo hi =
    put-join nodes entry_size (w - 1) (λ i. entry_bytes (get_or v.tags i 0) (get_or v.reports i no_report))
    (λ i. entry_bytes (get_or (set v.tags (w - 1) t) i 0) (get_or (set v.reports (w - 1) p) i no_report))
    (entry_bytes t p) (λ i. refl) (omega arith) refl
    (ap₂ entry_bytes (get_or-set_same v.tags (w - 1) t 0 (omega (arith, z.tags)))
    (get_or-set_same v.reports (w - 1) p no_report (omega (arith, z.reports))))
    (λ i e. ap₂ entry_bytes (get_or-set_other v.tags (w - 1) i t 0 e)
    (get_or-set_other v.reports (w - 1) i p no_report e))
