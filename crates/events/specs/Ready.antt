-- Cited by inner contracts only: what an admitted event knows of the bytes b. They state n and an f with 2f < n, a is a
-- sender, and the record of node c can be used.
use Rattle.std.specs.Prelude.{ℕ, ◌+◌, ◌≤◌, ◌<◌, ◌≡◌, true, List, length}
use Rattle.view.specs.Size.{nodes}
use Rattle.record.specs.Usable.{usable}
use Rattle.layout.specs.Layout.{cluster_size, stated, faults_in, node}

pub record Ready (n a c : ℕ) (b : List ℕ) : Type 0 where
  pub states : n ≡ stated b
  pub small : n ≤ nodes
  pub half : faults_in b + faults_in b < n
  pub long : length b ≡ cluster_size n
  pub from_low : 1 ≤ a
  pub from-high : a ≤ n
  pub low : 1 ≤ c
  pub high : c ≤ n
  pub can-step : usable (node b c) ≡ true
  pub same : (node b c).n ≡ n
