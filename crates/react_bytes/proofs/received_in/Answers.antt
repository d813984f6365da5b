-- `react_bytes::received_in` meets its contract.
use mathlib.Core.Path.{◌≡◌, sym, ap, ap₂, ◌∙◌}
use Prim.Native.Nat.{ℕ}
use mathlib.Core.List.{List}
use mathlib.Core.Bool.{Bool}
use lib.Dec.{ltb, leb}
use borrow.Author.Tests.{lt-ltb, le-ltb}
use Rattle.octets.specs.Test.{both}
use Rattle.octets.specs.Bytes.{put}
use Rattle.octets.specs.Word.{word}
use Rattle.step.specs.React.{is_new, round_holds}
use Rattle.region.specs.Record.{wait_in, record_of, n_place, maxtag_place, head_bytes}
use Rattle.region.specs.declared.head.Head.{Head}
use Rattle.react_bytes.specs.Handled.{entered}
use Rattle.react_bytes.proofs.Handling.{received-bytes}
use Rattle.react_bytes.proofs.received_in.Goals as goal
use Rattle.react_bytes.proofs.received_in.Goals.{then-fresh, else-fresh, then-fresh-2, else-fresh-2}

pub returns : goal.returns
unfolding record_of
returns c =
    let a = c.args in
    let r = a.r.now in
    let new = is_new (record_of r) a.w a.t in
    let old = ltb c.tag_in.result a.t in
    let fresh : old ≡ new = ap (λ (x : ℕ). ltb x a.t) c.tag_in.ensures in
    let top = leb a.t (word r maxtag_place) in
    let within : leb a.t c.head_of-h.result.maxtag ≡ top = ap (λ (h : Head). leb a.t h.maxtag) c.head_of-h.ensures in
    let held : c.if-fresh.held ≡ both new top =
    elim c.if-fresh.branch [
      | then-fresh w ↦ w.held-is ∙ within ∙ ap (λ (x : Bool). both x top) (sym (lt-ltb _ _ w.if-fresh.true) ∙ fresh)
      | else-fresh w ↦ w.held-is ∙ le-ltb _ _ w.if-fresh.false
          ∙ ap (λ (x : Bool). both x top) (sym (le-ltb _ _ w.if-fresh.false) ∙ fresh)
    ] in
    let holds = round_holds (wait_in r) a.t in
    let round : c.if-fresh-2.round ≡ both new holds =
    elim c.if-fresh-2.branch [
      | then-fresh-2 w ↦ w.round-is ∙ w.round_holds-round.ensures
          ∙ ap (λ (h : Head). round_holds h.wait a.t) c.head_of-h.ensures
          ∙ ap (λ (x : Bool). both x holds) (sym (lt-ltb _ _ w.if-fresh-2.true) ∙ fresh)
      | else-fresh-2 w ↦ w.round-is ∙ le-ltb _ _ w.if-fresh-2.false
          ∙ ap (λ (x : Bool). both x holds) (sym (le-ltb _ _ w.if-fresh-2.false) ∙ fresh)
    ] in (
      fresh,
      c.save_head.ensures
          ∙ ap₂ (λ (x : List ℕ) (h : Head). put x n_place (head_bytes h))
          (c.enter.ensures ∙ ap (λ (x : Bool). entered a.s a.w a.t a.p x c.if-fresh.held
          c.if-fresh-2.round r) fresh
          ∙ ap₂ (λ (x y : Bool). entered a.s a.w a.t a.p new x y r) held round)
          c.head_of-h.ensures
          ∙ received-bytes r (λ i. (c.slice_known-1.given i).fits) c.requires.0 a.s a.w a.t a.p
          c.requires.1 c.requires.2 c.requires.3 c.requires.4,
    )
