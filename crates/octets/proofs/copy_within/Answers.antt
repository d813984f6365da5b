-- `octets::copy_within` meets its contract: a word is read where none was written before, or the same one.
use borrow.Author.Rules.{rules}
use Prim.Native.Nat.{ℕ, ◌+◌, ◌-◌}
use native.Mathlib.Omega.{arith}
use mathlib.Core.Path.{◌≡◌, refl, sym, ap, ◌∙◌}
use lib.ListN.{length}
use Rattle.octets.specs.Bytes.{num, be, part, put}
use Rattle.octets.specs.Word.{word_size}
use Rattle.octets.proofs.Lent.{run_none}
use Rattle.octets.proofs.Put.{length_part, part_bytes}
use Rattle.octets.proofs.Run.{word-is, words_more, words-all, still_read}
use Rattle.octets.proofs.copy_within.Goals as goal

pub loop-i-init : goal.loop-i-init
loop-i-init c =
    let a = c.args in
    (search rules, run_none a.b.now a.to (part a.b.now a.from a.len), refl)

pub loop-i-preserved : goal.loop-i-preserved
loop-i-preserved c =
    let a = c.args in
    let p = c.requires in
    let b = a.b.now in
    let s = part b a.from a.len in
    let ls : length s ≡ a.len = length_part b a.from a.len p.1 in
    let l = c.loop-i in
    let known = c.slice_known-1.given in
    let bytes = part_bytes b a.from a.len (λ j. (known j).fits) in
    let read = still_read b a.from a.to a.len l.i l.i p.1 p.2 (omega arith) (omega arith) p.3
    p.4 l.invariant.1 in
    let w = ap (be word_size) (c.get_word.ensures ∙ ap num read)
    ∙ word-is s l.i bytes (omega (arith, ls)) in (
      search rules,
      words_more b a.to s (omega (arith, ls, p.2)) l.i l.invariant.1 (omega (arith, ls))
          (c.put_word.ensures ∙ ap (put l.b (a.to + l.i)) w),
      c.put_word.auto.b ∙ l.invariant.2,
    )

pub returns : goal.returns
returns c =
    let a = c.args in
    let p = c.requires in
    let b = a.b.now in
    let s = part b a.from a.len in
    let ls : length s ≡ a.len = length_part b a.from a.len p.1 in
    let l = c.loop-i in
    let k = a.len - word_size in
    let known = c.slice_known-1.given in
    let bytes = part_bytes b a.from a.len (λ j. (known j).fits) in
    let read = still_read b a.from a.to a.len l.i k p.1 p.2 (omega arith) (omega arith) p.3 p.4
    l.invariant.1 in
    let w = ap (be word_size) (c.get_word-2.ensures ∙ ap num read)
    ∙ word-is s k bytes (omega (arith, ls)) in
    words-all b a.to s (omega (arith, ls, p.2)) l.i l.invariant.1 (omega (arith, ls, p.0)) (omega (arith, ls))
    (omega (arith, ls))
    (c.put_word-2.ensures ∙ ap (put l.b (a.to + k)) w
    ∙ ap (λ (j : ℕ). put l.b (a.to + (j - word_size)) (part s (j - word_size) word_size)) (sym ls))
