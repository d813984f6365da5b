-- The cluster at the front of a session's memory.
use Prim.Native.Nat.{ℕ, ◌+◌, ◌≤◌, min}
use mathlib.Core.Path.{◌≡◌, refl, ap, ◌∙◌}
use mathlib.Core.List.{List}
use native.Mathlib.Omega.{arith}
use lib.ListN.{length}
use borrow.Author.Tests.{le-leb}
use Rattle.octets.specs.Bytes.{part}
use Rattle.octets.proofs.Test.{both_true}
use Rattle.octets.proofs.Put.{length_part, length-put, part_same}
use Rattle.view.specs.Size.{nodes}
use Rattle.layout.specs.Layout.{cluster_size, size_for}
use Rattle.session_byte.specs.Memory.{memory_size, lent, cluster, on_cluster}

size_for-is : (n : ℕ) → 1 ≤ n → n ≤ 5 → size_for n ≡ cluster_size n
unfolding size_for
size_for-is n low high =
    let small : n ≤ nodes = omega arith in
    rw (both_true (le-leb 1 n low) (le-leb n nodes small)) refl

pub lent_is : (n : ℕ) → 1 ≤ n → n ≤ 5 → lent n ≡ cluster_size n
lent_is n low high =
    let fits : min (cluster_size n) memory_size ≡ cluster_size n = omega arith in
    ap (λ (k : ℕ). min k memory_size) (size_for-is n low high) ∙ fits

module _ (n : ℕ) (m : List ℕ) (long : length m ≡ memory_size) where
  fits : 0 + lent n ≤ length m
  fits = omega arith

  pub length-cluster : length (cluster n m) ≡ lent n
  unfolding cluster
  length-cluster = length_part m 0 (lent n) fits

  module _ (f : List ℕ → List ℕ) (same : length (f (cluster n m)) ≡ lent n) where
    pub cluster-on : cluster n (on_cluster n f m) ≡ f (cluster n m)
    unfolding cluster on_cluster
    cluster-on = part_same m 0 (f (part m 0 (lent n))) (lent n) (omega arith) same

    pub length-on : length (on_cluster n f m) ≡ memory_size
    unfolding cluster on_cluster
    length-on = length-put m 0 (f (part m 0 (lent n))) (omega (arith, same, fits)) ∙ long
