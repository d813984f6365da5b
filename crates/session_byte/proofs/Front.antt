-- The front of a slice, lent as `&mut b[..e]` to a call that makes it f of what it was.
use Rattle.std.proofs.Common.{◌≡◌, ℕ, ◌-◌, ◌≤◌, List, ◌++◌, length, take, drop, sym, ap, ◌∙◌, zero-add}
use native.Mathlib.Nat.{sub-zero}
use Rattle.octets.specs.Bytes.{part, put}
use Rattle.octets.proofs.Lent.{lent_back}

pub front : (b : List ℕ) (len : ℕ) {e : ℕ} → e ≡ len → take e b ≡ part b 0 len
unfolding part
front b len p = ap (λ (k : ℕ). take k b) p

pub front_back : (b : List ℕ) (len : ℕ) (f : List ℕ → List ℕ) {e : ℕ} {t : List ℕ} → e ≡ len → e ≤ length b
    → length t ≡ length (take e b) → t ≡ f (take e b) → t ++ drop e b ≡ put b 0 (f (part b 0 len))
front_back b len f {e} {t} p h l q =
    let z : e ≡ e - 0 = sym (sub-zero e) in
    ap (λ (k : ℕ). t ++ drop k b) z
    ∙ lent_back b 0 len f (zero-add len ∙ sym p) h (l ∙ ap (λ (k : ℕ). length (take k b)) z)
    (q ∙ ap (λ (k : ℕ). f (take k b)) z)
