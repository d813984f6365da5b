-- `octets::put_words` meets its contract.
use borrow.Author.Rules.{rules}
use Prim.Native.Nat.{ℕ, ◌+◌, ◌*◌}
use mathlib.Core.Path.{◌≡◌, refl, sym, ap, ◌∙◌}
use mathlib.Core.List.{List}
use native.Mathlib.Omega.{arith}
use lib.ListN.{length, get_or}
use Rattle.octets.specs.Bytes.{be, put}
use Rattle.octets.specs.Loop.{join}
use Rattle.octets.proofs.Put.{put-nil, put_then}
use Rattle.octets.proofs.Table.{join-none, join_more, length-join}
use Rattle.octets.proofs.put_words.Goals as goal

pub loop-i-init : goal.loop-i-init
loop-i-init c =
    let a = c.args in (
      search rules,
      sym (put-nil a.b.now a.at) ∙ ap (λ (t : List ℕ). put a.b.now a.at t)
          (sym (join-none (λ j. be 8 (get_or a.t.now j 0)))),
      refl,
    )

pub loop-i-preserved : goal.loop-i-preserved
loop-i-preserved c =
    let a = c.args in
    let i = c.loop-i.i in
    let f : ℕ → List ℕ = λ j. be 8 (get_or a.t.now j 0) in
    let l : length (join i f) ≡ 8 * i = length-join i 8 f (λ j. refl) in (
      search rules,
      put_then a.b.now a.at (join i f) (f i) (a.at + 8 * i) (omega arith) (omega arith)
          c.loop-i.invariant.1
          c.put_word.ensures ∙ ap (λ (t : List ℕ). put a.b.now a.at t)
          (sym (join_more i f)),
      c.put_word.auto.b ∙ c.loop-i.invariant.2,
    )

pub returns : goal.returns
returns c =
    let a = c.args in
    let e : c.loop-i.i ≡ length a.t.now = omega arith in
    c.loop-i.invariant.1 ∙ ap (λ (k : ℕ). put a.b.now a.at (join k (λ j. be 8 (get_or a.t.now j 0)))) e
