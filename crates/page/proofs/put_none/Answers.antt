-- `page::put_none` meets its contract.
use borrow.Author.Rules.{rules}
use mathlib.Core.Path.{◌≡◌, ap, ◌∙◌}
use mathlib.Core.List.{List, ◌++◌, append_assoc}
use Prim.Native.Nat.{ℕ, ◌+◌}
use native.Mathlib.Omega.{arith}
use lib.ListN.{length}
use Rattle.octets.specs.Bytes.{put}
use Rattle.octets.proofs.Put.{put_then}
use Rattle.page.specs.Page.{label_width, right, cell_text, dash, feed}
use Rattle.page.proofs.put_none.Goals as goal

-- a name, and then all that follows it
grouped : (n a b c d e : List ℕ) → n ++ (a ++ b ++ c ++ d ++ e) ≡ n ++ a ++ b ++ c ++ d ++ e
grouped n a b c d e = simp append_assoc

pub returns : goal.returns
unfolding right
returns c =
    let a = c.args in
    let o = a.out.now in
    let n = a.name.now in
    let l : length n ≡ label_width = search rules in
    let d : List ℕ = cell_text dash in
    put_then o a.at n (d ++ d ++ d ++ d ++ feed) (a.at + label_width) (omega (
      arith,
      c.requires,
    )) (omega arith)
    c.put_bytes.ensures c.put_bytes-2.ensures
    ∙ ap (λ (s : List ℕ). put o a.at s) (grouped n d d d d feed)
