-- `page::put_counts` meets its contract.
use Rattle.std.proofs.Common.{◌≡◌, ℕ, ◌+◌, ◌*◌, ◌-◌, ◌^◌, ◌<◌, ◌≤◌, List, ◌++◌, length, get_or, refl, sym, ap, ◌∙◌}
use Rattle.std.proofs.Common.{append_assoc, arith, rules, All}
use mathlib.Core.List.{append-nil}
use lib.ListN.{length-append, length-set}
use Rattle.octets.specs.Bytes.{put}
use Rattle.octets.specs.Loop.{join}
use Rattle.octets.proofs.Put.{put_then, put_one}
use Rattle.octets.proofs.Table.{join-none, join_more, length-join-below}
use Rattle.digits.specs.Decimal.{decimal}
use Rattle.page.specs.Page.{label_width, count_width, line_counts, cell_size, cell_text, feed}
use Rattle.page.proofs.Lines.{cell-length}
use Rattle.page.proofs.put_counts.Goals as goal

abbrev cell : List ℕ → ℕ → List ℕ
cell counts j = cell_text (decimal (get_or counts j 0))

cells-length : (k : ℕ) (counts : List ℕ) → All (λ x. x < 10 ^ count_width) counts → k ≤ length counts
    → length (join k (cell counts)) ≡ cell_size * k
cells-length k counts h l =
    length-join-below k cell_size (cell counts) (λ j m. cell-length (get_or counts j 0) (h j 0 (omega arith)))

pub loop-j-init : goal.loop-j-init
loop-j-init c =
    let a = c.args in
    let n = a.name.now in (
      refl,
      c.put_bytes.ensures
          ∙ ap (λ (s : List ℕ). put a.out.now a.at s)
          (sym (append-nil n) ∙ ap (λ (s : List ℕ). n ++ s) (sym (join-none (cell a.counts.now)))),
    )

pub loop-j-preserved : goal.loop-j-preserved
loop-j-preserved c =
    let a = c.args in
    let o = a.out.now in
    let n = a.name.now in
    let j = c.loop-j.j in
    let f = cell a.counts.now in
    let ln : length n ≡ label_width = search rules in
    let l = cells-length j a.counts.now c.requires.0 (omega arith) in (
      search rules,
      put_then o a.at (n ++ join j f) (f j) (a.at + label_width + cell_size * j) (omega (arith, c.requires.1))
          (simp length-append (omega arith)) c.loop-j.invariant.1 c.put_count.ensures
          ∙ ap (λ (s : List ℕ). put o a.at s)
          (append_assoc n (join j f) (f j) ∙ ap (λ (s : List ℕ). n ++ s) (sym (join_more j f))),
    )

pub shape_of-out : goal.shape_of-out
shape_of-out c = simp length-set (search rules)

pub returns : goal.returns
returns c =
    let a = c.args in
    let o = a.out.now in
    let n = a.name.now in
    let f = cell a.counts.now in
    let e : c.loop-j.j ≡ line_counts = omega arith in
    let ln : length n ≡ label_width = search rules in
    let l = cells-length line_counts a.counts.now c.requires.0 (omega arith) in
    let k : ℕ = a.at + 35 - 1 in
    put_then o a.at (n ++ join line_counts f) feed k (omega (arith, c.requires.1))
    (simp length-append (omega arith))
    (c.loop-j.invariant.1 ∙ ap (λ (k : ℕ). put o a.at (n ++ join k f)) e)
    (put_one c.loop-j.out k 10 (omega (arith, c.requires.1)))
