-- `octets::put_run` meets its contract.
use borrow.Author.Rules.{rules}
use Prim.Native.Nat.{◌+◌, ◌-◌}
use native.Mathlib.Omega.{arith}
use mathlib.Core.Path.{refl, ap, ◌∙◌}
use lib.ListN.{length}
use Rattle.octets.specs.Bytes.{be, put}
use Rattle.octets.specs.Word.{word_size}
use Rattle.octets.proofs.Lent.{run_none}
use Rattle.octets.proofs.Run.{word-is, words_more, words-all}
use Rattle.octets.proofs.put_run.Goals as goal

pub loop-i-init : goal.loop-i-init
loop-i-init c = let a = c.args in (search rules, run_none a.b.now a.at a.s.now, refl)

pub loop-i-preserved : goal.loop-i-preserved
loop-i-preserved c =
    let a = c.args in
    let p = c.requires in
    let s = a.s.now in
    let l = c.loop-i in
    let known = c.shared_slice_known-1.given in
    let w = ap (be word_size) c.get_word.ensures
    ∙ word-is s l.i (λ j. (known j).fits) (omega arith) in (
      search rules,
      words_more a.b.now a.at s p.1 l.i l.invariant.1 (omega arith)
          (c.put_word.ensures ∙ ap (put l.b (a.at + l.i)) w),
      c.put_word.auto.b ∙ l.invariant.2,
    )

pub returns : goal.returns
returns c =
    let a = c.args in
    let p = c.requires in
    let s = a.s.now in
    let l = c.loop-i in
    let k = length s - word_size in
    let known = c.shared_slice_known-1.given in
    let w = ap (be word_size) c.get_word-2.ensures
    ∙ word-is s k (λ j. (known j).fits) (omega arith) in
    words-all a.b.now a.at s p.1 l.i l.invariant.1 p.0 (omega arith) (omega arith)
    (c.put_word-2.ensures ∙ ap (put l.b (a.at + k)) w)
